-- The order of fractions: reflexive, transitive, antisymmetric up to equality, total; its strict part.
use mathlib.Core.Path.{◌≡◌, subst}
use mathlib.Core.Logic.{◌⊎◌, inl, inr}
use Prim.Native.Nat.{ℕ, ◌+◌, ◌*◌, ◌≤◌}
use native.Mathlib.Nat.{mul-le-mul_right, mul-lt-mul_of_pos_right, le_of_mul-le-mul_right, lt_of_mul-lt-mul_right}
use native.Mathlib.Decide.{dec_le}
use native.Mathlib.Omega.{arith}
use Rattle.fraction.specs.Fraction.{ℚ, ◌≈◌, ◌≤ℚ◌, ◌<ℚ◌, NonNegative, NonPositive, Positive, nat_ℚ, neg_ℚ}

-- ---- order

pub ≤ℚ-refl : (x : ℚ) → x ≤ℚ x
≤ℚ-refl x = omega arith

pub ≤ℚ-trans : {x y z : ℚ} → x ≤ℚ y → y ≤ℚ z → x ≤ℚ z
≤ℚ-trans {x} {y} {z} h k =
    record {
      le = le_of_mul-le-mul_right {k = y.d} (omega (arith, mul-le-mul_right z.d h.le, mul-le-mul_right x.d k.le)) y.d_pos;
    }

pub ≤ℚ-antisym : {x y : ℚ} → x ≤ℚ y → y ≤ℚ x → x ≈ y
≤ℚ-antisym h k = omega arith

pub ≤ℚ-total : (x y : ℚ) → (x ≤ℚ y) ⊎ (y <ℚ x)
≤ℚ-total x y = go (dec_le (x.p * y.d + y.m * x.d) (y.p * x.d + x.m * y.d))
  where
    go : Dec (x.p * y.d + y.m * x.d ≤ y.p * x.d + x.m * y.d) → (x ≤ℚ y) ⊎ (y <ℚ x)
    go (yes h) = inl (record { le = h })
    go (no n) = inr (record { lt = omega arith })

-- ---- equality

pub ≈-refl : (x : ℚ) → x ≈ x
≈-refl x = omega arith

pub ≈-sym : {x y : ℚ} → x ≈ y → y ≈ x
≈-sym h = omega arith

pub ≈→≤ : {x y : ℚ} → x ≈ y → x ≤ℚ y
≈→≤ h = omega arith

pub ≈→≥ : {x y : ℚ} → x ≈ y → y ≤ℚ x
≈→≥ h = omega arith

pub ≈-trans : {x y z : ℚ} → x ≈ y → y ≈ z → x ≈ z
≈-trans h k = ≤ℚ-antisym (≤ℚ-trans (≈→≤ h) (≈→≤ k)) (≤ℚ-trans (≈→≥ k) (≈→≥ h))

pub ≡→≈ : {x y : ℚ} → x ≡ y → x ≈ y
≡→≈ {x} {y} e = subst (λ (z : ℚ). x ≈ z) e (≈-refl x)

-- a bound up to equality: the shape that a rewritten step has
pub ≤ℚ-≈-trans : {x y z : ℚ} → x ≤ℚ y → y ≈ z → x ≤ℚ z
≤ℚ-≈-trans h k = ≤ℚ-trans h (≈→≤ k)

pub ≈-≤ℚ-trans : {x y z : ℚ} → x ≈ y → y ≤ℚ z → x ≤ℚ z
≈-≤ℚ-trans h k = ≤ℚ-trans (≈→≤ h) k

-- a fraction expanded by k is equal to it
scale_core : (p m d k p' m' d' : ℕ) → p' ≡ p * k → m' ≡ m * k → d' ≡ d * k → p * d' + m' * d ≡ p' * d + m * d'
scale_core p m d k p' m' d' a b c = rw (a, b, c) (omega arith)

pub ≈-expand : (x y : ℚ) (k : ℕ) → y.p ≡ x.p * k → y.m ≡ x.m * k → y.d ≡ x.d * k → x ≈ y
≈-expand x y k a b c = record { eq = scale_core x.p x.m x.d k y.p y.m y.d a b c }

-- ---- strict order

pub <ℚ-irrefl : {x : ℚ} → x <ℚ x → ⊥
<ℚ-irrefl h = omega arith

pub <ℚ→≤ℚ : {x y : ℚ} → x <ℚ y → x ≤ℚ y
<ℚ→≤ℚ h = omega arith

pub <ℚ-not-≤ℚ : {x y : ℚ} → x <ℚ y → y ≤ℚ x → ⊥
<ℚ-not-≤ℚ h k = omega arith

pub not-≤ℚ→<ℚ : {x y : ℚ} → (x ≤ℚ y → ⊥) → y <ℚ x
not-≤ℚ→<ℚ {x} {y} n = go (≤ℚ-total x y)
  where
    go : (x ≤ℚ y) ⊎ (y <ℚ x) → y <ℚ x
    go (inl h) = absurd (n h)
    go (inr h) = h

pub <ℚ-≤ℚ-trans : {x y z : ℚ} → x <ℚ y → y ≤ℚ z → x <ℚ z
<ℚ-≤ℚ-trans {x} {y} {z} h k =
    record {
      lt =
          lt_of_mul-lt-mul_right y.d
          (omega (arith, mul-lt-mul_of_pos_right h.lt z.d_pos, mul-le-mul_right x.d k.le));
    }

pub ≤ℚ-<ℚ-trans : {x y z : ℚ} → x ≤ℚ y → y <ℚ z → x <ℚ z
≤ℚ-<ℚ-trans {x} {y} {z} h k =
    record {
      lt =
          lt_of_mul-lt-mul_right y.d
          (omega (arith, mul-le-mul_right z.d h.le, mul-lt-mul_of_pos_right k.lt x.d_pos));
    }

pub <ℚ-trans : {x y z : ℚ} → x <ℚ y → y <ℚ z → x <ℚ z
<ℚ-trans h k = <ℚ-≤ℚ-trans h (<ℚ→≤ℚ k)

-- ---- signs are comparisons with 0

pub non_negative→≤ : {x : ℚ} → NonNegative x → nat_ℚ 0 ≤ℚ x
unfolding nat_ℚ
non_negative→≤ h = omega arith

pub ≤→non_negative : {x : ℚ} → nat_ℚ 0 ≤ℚ x → NonNegative x
unfolding nat_ℚ
≤→non_negative h = omega arith

pub non_positive→≤ : {x : ℚ} → NonPositive x → x ≤ℚ nat_ℚ 0
unfolding nat_ℚ
non_positive→≤ h = omega arith

pub ≤→non_positive : {x : ℚ} → x ≤ℚ nat_ℚ 0 → NonPositive x
unfolding nat_ℚ
≤→non_positive h = omega arith

pub positive→< : {x : ℚ} → Positive x → nat_ℚ 0 <ℚ x
unfolding nat_ℚ
positive→< h = omega arith

pub <→positive : {x : ℚ} → nat_ℚ 0 <ℚ x → Positive x
unfolding nat_ℚ
<→positive h = omega arith

pub positive→non_negative : {x : ℚ} → Positive x → NonNegative x
positive→non_negative h = omega arith

pub non_negative_up : {x y : ℚ} → NonNegative x → x ≤ℚ y → NonNegative y
non_negative_up n h = ≤→non_negative (≤ℚ-trans (non_negative→≤ n) h)

pub positive_up : {x y : ℚ} → Positive x → x ≤ℚ y → Positive y
positive_up n h = <→positive (<ℚ-≤ℚ-trans (positive→< n) h)

pub non_positive_down : {x y : ℚ} → NonPositive y → x ≤ℚ y → NonPositive x
non_positive_down n h = ≤→non_positive (≤ℚ-trans h (non_positive→≤ n))

-- each fraction is at least 0 or at most 0
pub sign : (x : ℚ) → NonNegative x ⊎ NonPositive x
sign x = go (dec_le x.m x.p)
  where
    go : Dec (x.m ≤ x.p) → NonNegative x ⊎ NonPositive x
    go (yes h) = inl (record { at_least = h })
    go (no n) = inr (record { at_most = omega arith })

pub neg_non_positive : {x : ℚ} → NonPositive x → NonNegative (neg_ℚ x)
unfolding neg_ℚ
neg_non_positive h = omega arith

pub neg_non_negative : {x : ℚ} → NonNegative x → NonPositive (neg_ℚ x)
unfolding neg_ℚ
neg_non_negative h = omega arith
