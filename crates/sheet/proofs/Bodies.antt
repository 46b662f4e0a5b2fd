-- What a kind fixes of a body.
use mathlib.Core.Path.{◌≡◌, refl}
use mathlib.Core.Bool.{true, cond}
use mathlib.Core.List.{List}
use Prim.Native.Nat.{ℕ, ◌+◌, ◌-◌, ◌^◌, ◌≤◌}
use native.Mathlib.Nat.{pow-le-pow_right, zero-lt-suc}
use native.Mathlib.Omega.{arith}
use lib.Dec.{eqb, lit≤}
use lib.ListN.{length, take, drop, get_or, length-take, length-drop}
use lib.Seq.{take_all}
use Rattle.method.specs.Sheet.{Kind, month, rate, volume, ultimate, limit, phase_in}
use Rattle.method.specs.Sheet.{adjustment, profile, maturity_bytes, number_bytes, body_length, Slot, body_of, maturity_right}

-- a record's maturity is tested where its body has one
pub maturity_test : (k : Kind) (m : ℕ) (body : List ℕ) → maturity_right k m body ≡ cond (eqb (maturity_bytes k) 0) true (eqb (get_or body 0 0) m)
maturity_test month m body = refl
maturity_test rate m body = refl
maturity_test volume m body = refl
maturity_test ultimate m body = refl
maturity_test limit m body = refl
maturity_test phase_in m body = refl
maturity_test adjustment m body = refl
maturity_test profile m body = refl

-- a number is four bytes at most
pub four_bytes : (k : Kind) → number_bytes k ≤ 4
four_bytes month = lit≤ tt
four_bytes rate = lit≤ tt
four_bytes volume = lit≤ tt
four_bytes ultimate = lit≤ tt
four_bytes limit = lit≤ tt
four_bytes phase_in = lit≤ tt
four_bytes adjustment = lit≤ tt
four_bytes profile = lit≤ tt

pub number_bound : (k : Kind) → 256 ^ number_bytes k ≤ 2 ^ 32
number_bound k = pow-le-pow_right {n = 256} (zero-lt-suc 255) (four_bytes k)

pub body_length_lem : (s : List ℕ) (t : Slot) → t.start + 1 + body_length t.kind ≤ length s → length (body_of s t) ≡ body_length t.kind
body_length_lem s t h = simp (length-take, length-drop) (omega arith)

-- the bytes of a body after its maturity
pub rest_of : (m : ℕ) (l : List ℕ) → take (length l - m) (drop m l) ≡ drop m l
rest_of m l = take_all (length l - m) (drop m l) (simp length-drop (omega arith))

pub rest_length : (m n : ℕ) (l : List ℕ) → length l ≡ m + n → length (take (length l - m) (drop m l)) ≡ n
rest_length m n l e = rw (rest_of, length-drop) (omega arith)
