-- The digits that std and `itoa` write are those of the definition.
use Rattle.std.proofs.Common.{◌≡◌, ℕ, zero, suc, ◌*◌, ◌/◌, ◌^◌, ◌<◌, ◌≤◌, ◌+◌, ◌-◌, Bool, true, false, leb, List, [], ◌++◌, length, take, drop, refl}
use Rattle.std.proofs.Common.{append-nil, take_all, pow-suc, arith, le-ltb, lt-ltb, leb-false, leb-true}
use Rattle.std.specs.Fmt as text
use Rattle.std.proofs.lemmas.Fmt.{decimal_digit, decimal_step}
use Rattle.desk_core.specs.Lines.{digits_to, decimal}

short : (most n : ℕ) → n < 10 → text.decimal n ≡ digits_to (suc most) n
unfolding digits_to
short most n h = rw (lt-ltb n 10 h) (decimal_digit n h)

-- one digit more, where it is known of all digits but the last
longer : (most n : ℕ) → n < 2 ^ 64 → (10 ≤ n → text.decimal (n / 10) ≡ digits_to (suc most) (n / 10)) → (t : Bool) → leb 10 n ≡ t →
    text.decimal n ≡ digits_to (suc (suc most)) n
unfolding digits_to
longer most n small before false e = short (suc most) n (omega (arith, leb-false 10 n e))
longer most n small before true e =
    let l : 10 ≤ n = leb-true 10 n e in
    rw (le-ltb n 10 l, ← before l) (decimal_step n l small)

digits_are : (most n : ℕ) → n < 10 ^ suc most → n < 2 ^ 64 → text.decimal n ≡ digits_to (suc most) n
digits_are zero n h small = short zero n (omega (arith, h))
digits_are (suc most) n h small =
    let p : 10 ^ suc (suc most) ≡ 10 ^ suc most * 10 = pow-suc 10 (suc most) in
    longer most n small (λ _. digits_are most (n / 10) (omega (arith, h, p)) (omega arith)) (leb 10 n) refl

pub decimal_is : (n : ℕ) → n < 2 ^ 64 → text.decimal n ≡ decimal n
decimal_is n small = digits_are 19 n (omega (arith, small)) small

-- the digits at the end of a buffer of 20 bytes
pub at_the_end : (n start : ℕ) (buffer : List ℕ) → n < 2 ^ 64 → start + length (text.decimal n) ≡ 20 → drop start buffer ≡ text.decimal n ++ [] →
    take (20 - start) (drop start buffer) ≡ decimal n
at_the_end n start buffer small e h =
    rw (h, append-nil (text.decimal n), take_all (20 - start) (text.decimal n) (omega (arith, e))) (decimal_is n small)
