-- The size of integers: of sums, of products, and of quotients rounded either way. A numerator from -M × d to
-- M × d, over d, stays from -M to M.
use mathlib.Core.Path.{◌≡◌, refl}
use mathlib.Core.Bool.{Bool, true, false, cond}
use Prim.Native.Nat.{ℕ, zero, suc, ◌+◌, ◌*◌, ◌≤◌, ◌<◌}
use native.Mathlib.Nat.{div-lt_iff_lt-mul, mul-le-mul, le_refl}
use native.Mathlib.Omega.{arith}
use lib.Dec.{ltb}
use lib.IntN.{ℤ, pos, negsuc, nat_abs, neg_ℤ, ◌+ℤ◌, ◌*ℤ◌}
use Rattle.fraction.specs.Rounding.{floor, ceiling}
use Rattle.method.specs.Units.{SignedPair}

-- from -M to M; a record, so that the integer is inferred from its bound
pub record Bounded (M : ℕ) (z : ℤ) : Type 0 where
  pub bound : nat_abs z ≤ M

-- both ends of a pair
pub record Within (M : ℕ) (g : SignedPair) : Type 0 where
  pub low_within : Bounded M g.low
  pub high_within : Bounded M g.high

-- ---- sums and products

size_cond : (t : Bool) (x y n : ℕ) → suc x ≤ n → y ≤ n → nat_abs (cond t (negsuc x) (pos y)) ≤ n
size_cond true x y n p q = p
size_cond false x y n p q = q

size-+ : (a b : ℤ) → nat_abs (a +ℤ b) ≤ nat_abs a + nat_abs b
size-+ (pos a) (pos b) = omega arith
size-+ (pos a) (negsuc b) = size_cond (ltb a (suc b)) _ _ _ (omega arith) (omega arith)
size-+ (negsuc a) (pos b) = size_cond (ltb b (suc a)) _ _ _ (omega arith) (omega arith)
size-+ (negsuc a) (negsuc b) = omega arith

pub size_neg : (a : ℤ) → nat_abs (neg_ℤ a) ≡ nat_abs a
size_neg (pos zero) = refl
size_neg (pos (suc n)) = refl
size_neg (negsuc n) = refl

size-* : (a b : ℤ) → nat_abs (a *ℤ b) ≡ nat_abs a * nat_abs b
size-* (pos a) (pos b) = refl
size-* (pos a) (negsuc b) = size_neg (pos (a * suc b))
size-* (negsuc a) (pos b) = size_neg (pos (suc a * b))
size-* (negsuc a) (negsuc b) = refl

pub bounded-+ : {M N : ℕ} {a b : ℤ} → Bounded M a → Bounded N b → Bounded (M + N) (a +ℤ b)
bounded-+ {a = a} {b = b} h k = omega (arith, size-+ a b)

pub bounded-* : {M N : ℕ} {a b : ℤ} → Bounded M a → Bounded N b → Bounded (M * N) (a *ℤ b)
bounded-* {a = a} {b = b} h k = record { bound = rw (size-* a b) (mul-le-mul h.bound k.bound) }

pub bounded_times : (w : ℕ) {M : ℕ} {a : ℤ} → Bounded M a → Bounded (w * M) (pos w *ℤ a)
bounded_times w h = bounded-* {a = pos w} (record { bound = le_refl w }) h

pub bounded_neg : {M : ℕ} {a : ℤ} → Bounded M a → Bounded M (neg_ℤ a)
bounded_neg {a = a} h = omega (arith, size_neg a)

-- ---- quotients

pub bounded_floor : {M d : ℕ} {z : ℤ} → 0 < d → Bounded (M * d) z → Bounded M (floor z d)
bounded_floor {M} {d} {z} h k = go z k.bound
  where
    go : (z : ℤ) → nat_abs z ≤ M * d → Bounded M (floor z d)
    go (pos a) k = omega (arith, (div-lt_iff_lt-mul {k = d} {x = a} {y = suc M} h).1 (omega arith))
    go (negsuc a) k = record { bound = (div-lt_iff_lt-mul h).1 k }

pub bounded_ceiling : {M d : ℕ} {z : ℤ} → 0 < d → Bounded (M * d) z → Bounded M (ceiling z d)
bounded_ceiling h k = bounded_neg (bounded_floor h (bounded_neg k))
