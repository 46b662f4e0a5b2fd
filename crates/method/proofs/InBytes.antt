-- Numbers in bytes: one spelling is the other; and what is put into bytes is read back, a number, and an integer in two's complement.
use mathlib.Core.Path.{◌≡◌, refl, ap, ◌∙◌}
use mathlib.Core.Bool.{cond}
use mathlib.Core.List.{List, [], ◌∷◌, ◌++◌}
use Prim.Native.Nat.{ℕ, zero, suc, ◌+◌, ◌*◌, ◌-◌, ◌/◌, ◌%◌, ◌^◌, ◌<◌}
use native.Mathlib.Nat.{pow-suc, div-lt_iff_lt-mul, div-div-eq-div-mul}
use native.Mathlib.Omega.{arith}
use lib.Dec.{leb, leb→le, lit<}
use lib.IntN.{ℤ, pos, negsuc, ◌-ℤ◌}
use lib.Signed.{◌≤ℤ◌}
use borrow.Author.Tests.{le-leb, lt-leb, lt-ltb}
use Rattle.method.specs.Bytes.{big_endian, bytes2, bytes4, in_bytes, twos_complement32}

-- ---- of one number the same bytes, whichever way they are spelled

pub in_one : (n : ℕ) → n < 256 → in_bytes 1 n ≡ n ∷ []
unfolding in_bytes
in_one n h = ap (λ (b : ℕ). b ∷ []) (omega arith)

pub in_two : (n : ℕ) → in_bytes 2 n ≡ bytes2 n
unfolding in_bytes
in_two n = refl

pub in_four : (n : ℕ) → in_bytes 4 n ≡ bytes4 n
unfolding in_bytes
in_four n = rw (div-div-eq-div-mul n 256 256, div-div-eq-div-mul n 65_536 256)

-- ---- read back

read_last : (n : ℕ) (bs : List ℕ) (b : ℕ) → big_endian n (bs ++ b ∷ []) ≡ big_endian n bs * 256 + b
unfolding big_endian
read_last n [] b = refl
read_last n (x ∷ bs) b = read_last (n * 256 + x) bs b

pub read_back : (w n : ℕ) → n < 256 ^ w → big_endian 0 (in_bytes w n) ≡ n
unfolding big_endian in_bytes
read_back zero n h = omega arith
read_back (suc w) n h =
    let rest : n / 256 < 256 ^ w = (div-lt_iff_lt-mul (lit< tt)).1 (omega (arith, h, pow-suc 256 w)) in
    read_last 0 (in_bytes w (n / 256)) (n % 256) ∙ (omega (arith, read_back w (n / 256) rest))

-- from 2^31 on a number of 32 bits stands for one that is 2^32 less
abbrev signed : ℕ → ℤ
signed n = pos n -ℤ pos (cond (leb 2_147_483_648 n) 4_294_967_296 0)

pub signed_back : (z : ℤ) → negsuc 2_147_483_647 ≤ℤ z → z ≤ℤ pos 2_147_483_647 → signed (twos_complement32 z) ≡ z
signed_back (pos n) l u =
    let small = leb→le n 2_147_483_647 u.le in
    rw (lt-leb 2_147_483_648 n (omega arith)) (ap pos (omega arith))
signed_back (negsuc n) l u =
    let small = leb→le n 2_147_483_647 l.le in
    let is : twos_complement32 (negsuc n) ≡ 4_294_967_295 - n = omega arith in
    rw (is, le-leb 2_147_483_648 (4_294_967_295 - n) (omega arith), lt-ltb (4_294_967_295 - n) 4_294_967_296 (omega arith)) (ap negsuc (omega arith))
