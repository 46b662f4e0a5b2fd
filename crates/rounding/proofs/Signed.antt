-- Bounds on sums, differences, products and ranges of integers, by `mag`: what shows that a signed result fits.
-- `mag` is n both for n and for -(n + 1), so a bound grows by one where a sign may change. omega takes each `mag a` as an unknown.
use mathlib.Core.Bool.{Bool, true, false, cond}
use Prim.Native.Nat.{ℕ, zero, suc, ◌+◌, ◌*◌, ◌≤◌}
use native.Mathlib.Nat.{mul-le-mul, le_step}
use native.Mathlib.Omega.{arith}
use lib.Dec.{ltb, leb→le}
use lib.IntN.{ℤ, pos, negsuc, neg_ℤ, ◌+ℤ◌, ◌-ℤ◌, ◌*ℤ◌}
use lib.Signed.{mag, ◌≤ℤ◌}

-- ---- sum and difference

mag-cond : (t : Bool) (x y n : ℕ) → x ≤ n → y ≤ n → mag (cond t (negsuc x) (pos y)) ≤ n
mag-cond true x y n p q = p
mag-cond false x y n p q = q

pub mag_add : (a b : ℤ) → mag (a +ℤ b) ≤ mag a + mag b + 1
mag_add (pos a) (pos b) = omega arith
mag_add (pos a) (negsuc b) = mag-cond (ltb a (suc b)) _ _ _ (omega arith) (omega arith)
mag_add (negsuc a) (pos b) = mag-cond (ltb b (suc a)) _ _ _ (omega arith) (omega arith)
mag_add (negsuc a) (negsuc b) = omega arith

pub mag_neg : (a : ℤ) → mag (neg_ℤ a) ≤ mag a + 1
mag_neg (pos zero) = omega arith
mag_neg (pos (suc n)) = omega arith
mag_neg (negsuc n) = omega arith

pub mag_sub : (a b : ℤ) → mag (a -ℤ b) ≤ mag a + mag b + 2
mag_sub a b = omega (arith, mag_add a (neg_ℤ b), mag_neg b)

-- ---- product

-- -m ≥ -(n + 1)
pub mag_negative : (m : ℕ) {n : ℕ} → m ≤ suc n → mag (neg_ℤ (pos m)) ≤ n
mag_negative zero h = omega arith
mag_negative (suc m) h = omega arith

pub mag_mul : (a b : ℤ) → mag (a *ℤ b) ≤ (mag a + 1) * (mag b + 1)
mag_mul (pos a) (pos b) = mul-le-mul (omega arith) (omega arith)
mag_mul (pos a) (negsuc b) = mag_negative (a * suc b) (le_step (mul-le-mul (omega arith) (omega arith)))
mag_mul (negsuc a) (pos b) = mag_negative (suc a * b) (le_step (mul-le-mul (omega arith) (omega arith)))
mag_mul (negsuc a) (negsuc b) = mul-le-mul (omega arith) (omega arith)

-- ---- range: -(n + 1) ≤ z ≤ n

pub mag-between : (n : ℕ) (z : ℤ) → negsuc n ≤ℤ z → z ≤ℤ pos n → mag z ≤ n
mag-between n (pos a) h k = leb→le a n k.le
mag-between n (negsuc a) h k = leb→le a n h.le
