-- Products of fractions: commutative, associative, distributive; monotone and antitone by the sign of the other factor.
use mathlib.Core.Path.{◌≡◌, subst, ap}
use mathlib.Core.Logic.{◌⊎◌, inl, inr}
use Prim.Native.Nat.{ℕ, ◌+◌, ◌*◌, ◌≤◌, ◌<◌}
use native.Mathlib.Nat.{mul-le-mul_right, mul-lt-mul_of_pos_right, mul-pos, le_dest}
use native.Mathlib.Omega.{arith}
use Rattle.fraction.specs.Fraction.{ℚ, ◌≈◌, ◌≤ℚ◌, ◌<ℚ◌, NonNegative, NonPositive, Positive, nat_ℚ, neg_ℚ, ◌+ℚ◌, ◌*ℚ◌}
use Rattle.fraction.proofs.Order.{≤ℚ-trans, ≤ℚ-total, ≈→≤, ≈→≥, ≈-sym, ≈-trans, ≈-expand, <ℚ-irrefl, <ℚ-not-≤ℚ}
use Rattle.fraction.proofs.Order.{not-≤ℚ→<ℚ, <ℚ-≤ℚ-trans, ≤ℚ-<ℚ-trans, ≤ℚ-≈-trans, ≈-≤ℚ-trans, non_negative→≤}
use Rattle.fraction.proofs.Order.{≤→non_negative, positive→<, <→positive, neg_non_positive, non_positive→≤, sign}
use Rattle.fraction.proofs.Sum.{neg_ℚ_anti}

-- ---- a commutative ring

pub *ℚ-comm : (x y : ℚ) → x *ℚ y ≈ y *ℚ x
unfolding ◌*ℚ◌
*ℚ-comm x y = omega arith

pub *ℚ-assoc : (x y z : ℚ) → (x *ℚ y) *ℚ z ≈ x *ℚ (y *ℚ z)
unfolding ◌*ℚ◌
*ℚ-assoc x y z = omega arith

pub *ℚ-one : (x : ℚ) → x *ℚ nat_ℚ 1 ≈ x
unfolding ◌*ℚ◌ nat_ℚ
*ℚ-one x = omega arith

pub one-*ℚ : (x : ℚ) → nat_ℚ 1 *ℚ x ≈ x
one-*ℚ x = ≈-trans (*ℚ-comm (nat_ℚ 1) x) (*ℚ-one x)

pub *ℚ-zero : (x : ℚ) → x *ℚ nat_ℚ 0 ≈ nat_ℚ 0
unfolding ◌*ℚ◌ nat_ℚ
*ℚ-zero x = omega arith

pub zero-*ℚ : (x : ℚ) → nat_ℚ 0 *ℚ x ≈ nat_ℚ 0
zero-*ℚ x = ≈-trans (*ℚ-comm (nat_ℚ 0) x) (*ℚ-zero x)

pub *ℚ-+ℚ : (x y z : ℚ) → x *ℚ (y +ℚ z) ≈ x *ℚ y +ℚ x *ℚ z
unfolding ◌*ℚ◌ ◌+ℚ◌
*ℚ-+ℚ x y z =
    ≈-expand (x *ℚ (y +ℚ z)) (x *ℚ y +ℚ x *ℚ z) x.d (omega arith) (omega arith) (omega arith)

pub negℚ-*ℚ : (x y : ℚ) → neg_ℚ x *ℚ y ≈ neg_ℚ (x *ℚ y)
unfolding ◌*ℚ◌ neg_ℚ
negℚ-*ℚ x y = omega arith

pub *ℚ-negℚ : (x y : ℚ) → x *ℚ neg_ℚ y ≈ neg_ℚ (x *ℚ y)
unfolding ◌*ℚ◌ neg_ℚ
*ℚ-negℚ x y = omega arith

cong_core : (px mx dx py my dy pz mz dz : ℕ) → px * dy + my * dx ≡ py * dx + mx * dy →
    (px * pz + mx * mz) * (dy * dz) + (py * mz + my * pz) * (dx * dz) ≡ (py * pz + my * mz) * (dx * dz) + (px * mz + mx * pz) * (dy * dz)
cong_core px mx dx py my dy pz mz dz h = omega (arith, ap (λ (t : ℕ). t * (pz * dz)) h, ap (λ (t : ℕ). t * (mz * dz)) h)

pub *ℚ-cong-left : {x y : ℚ} (z : ℚ) → x ≈ y → x *ℚ z ≈ y *ℚ z
unfolding ◌*ℚ◌
*ℚ-cong-left {x} {y} z h =
    record { eq = cong_core x.p x.m x.d y.p y.m y.d z.p z.m z.d h.eq }

pub *ℚ-cong-right : {x y : ℚ} (z : ℚ) → x ≈ y → z *ℚ x ≈ z *ℚ y
*ℚ-cong-right {x} {y} z h = ≈-trans (*ℚ-comm z x) (≈-trans (*ℚ-cong-left z h) (*ℚ-comm y z))

pub *ℚ-cong : {x y z w : ℚ} → x ≈ y → z ≈ w → x *ℚ z ≈ y *ℚ w
*ℚ-cong {y = y} {z = z} h k = ≈-trans (*ℚ-cong-left z h) (*ℚ-cong-right y k)

-- ---- monotone by a factor that is not negative

-- the left side of x *ℚ z against y *ℚ z, with q in place of z.p
abbrev side : ℚ → ℚ → ℚ → ℕ → ℕ
side x y z q = (x.p * q + x.m * z.m) * (y.d * z.d) + (y.p * z.m + y.m * q) * (x.d * z.d)

mono_core : (px mx dx py my dy mz dz k : ℕ) → px * dy + my * dx ≤ py * dx + mx * dy →
    (px * (mz + k) + mx * mz) * (dy * dz) + (py * mz + my * (mz + k)) * (dx * dz) ≤
    (py * (mz + k) + my * mz) * (dx * dz) + (px * mz + mx * (mz + k)) * (dy * dz)
mono_core px mx dx py my dy mz dz k h = omega (arith, mul-le-mul_right (k * dz) h)

pub *ℚ-mono-left : {x y z : ℚ} → NonNegative z → x ≤ℚ y → x *ℚ z ≤ℚ y *ℚ z
unfolding ◌*ℚ◌
*ℚ-mono-left {x} {y} {z} n h =
    let e = le_dest n.at_least in
    record {
      le =
          subst
          (λ (q : ℕ). side x y z q ≤ side y x z q)
          e.1
          (mono_core x.p x.m x.d y.p y.m y.d z.m z.d e.0 h.le);
    }

pub *ℚ-mono-right : {x y z : ℚ} → NonNegative z → x ≤ℚ y → z *ℚ x ≤ℚ z *ℚ y
*ℚ-mono-right {x} {y} {z} n h = ≈-≤ℚ-trans (*ℚ-comm z x) (≤ℚ-≈-trans (*ℚ-mono-left n h) (*ℚ-comm y z))

pub *ℚ-mono : {x y z w : ℚ} → NonNegative y → NonNegative z → x ≤ℚ y → z ≤ℚ w → x *ℚ z ≤ℚ y *ℚ w
*ℚ-mono ny nz h k = ≤ℚ-trans (*ℚ-mono-left nz h) (*ℚ-mono-right ny k)

-- ---- antitone by a factor that is not positive

pub *ℚ-anti-left : {x y z : ℚ} → NonPositive z → x ≤ℚ y → y *ℚ z ≤ℚ x *ℚ z
unfolding neg_ℚ
*ℚ-anti-left {x} {y} {z} n h =
    neg_ℚ_anti (≈-≤ℚ-trans (≈-sym (*ℚ-negℚ x z)) (≤ℚ-≈-trans (*ℚ-mono-left (neg_non_positive n) h) (*ℚ-negℚ y z)))

pub *ℚ-anti-right : {x y z : ℚ} → NonPositive z → x ≤ℚ y → z *ℚ y ≤ℚ z *ℚ x
*ℚ-anti-right {x} {y} {z} n h = ≈-≤ℚ-trans (*ℚ-comm z y) (≤ℚ-≈-trans (*ℚ-anti-left n h) (*ℚ-comm x z))

-- ---- strictly monotone by a positive factor, and cancelled again

strict_core : (px mx dx py my dy mz dz k : ℕ) → 0 < k → 0 < dz → px * dy + my * dx < py * dx + mx * dy →
    (px * (mz + k) + mx * mz) * (dy * dz) + (py * mz + my * (mz + k)) * (dx * dz) <
    (py * (mz + k) + my * mz) * (dx * dz) + (px * mz + mx * (mz + k)) * (dy * dz)
strict_core px mx dx py my dy mz dz k hk hd h = omega (arith, mul-lt-mul_of_pos_right h (mul-pos hk hd))

pub *ℚ-strict-left : {x y z : ℚ} → Positive z → x <ℚ y → x *ℚ z <ℚ y *ℚ z
unfolding ◌*ℚ◌
*ℚ-strict-left {x} {y} {z} n h =
    let l : z.m ≤ z.p = omega arith in
    let e = le_dest l in
    let k : 0 < e.0 = omega (arith, e.1) in
    record {
      lt =
          subst
          (λ (q : ℕ). side x y z q < side y x z q)
          e.1
          (strict_core x.p x.m x.d y.p y.m y.d z.m z.d e.0 k z.d_pos h.lt);
    }

pub *ℚ-strict-right : {x y z : ℚ} → Positive z → x <ℚ y → z *ℚ x <ℚ z *ℚ y
*ℚ-strict-right {x} {y} {z} n h = ≤ℚ-<ℚ-trans (≈→≤ (*ℚ-comm z x)) (<ℚ-≤ℚ-trans (*ℚ-strict-left n h) (≈→≤ (*ℚ-comm y z)))

pub *ℚ-cancel-≤-left : {x y z : ℚ} → Positive z → x *ℚ z ≤ℚ y *ℚ z → x ≤ℚ y
*ℚ-cancel-≤-left {x} {y} {z} n h = go (≤ℚ-total x y)
  where
    go : (x ≤ℚ y) ⊎ (y <ℚ x) → x ≤ℚ y
    go (inl k) = k
    go (inr k) = absurd (<ℚ-irrefl (<ℚ-≤ℚ-trans (*ℚ-strict-left n k) h))

pub *ℚ-cancel-<-left : {x y z : ℚ} → NonNegative z → x *ℚ z <ℚ y *ℚ z → x <ℚ y
*ℚ-cancel-<-left n h = not-≤ℚ→<ℚ (λ k. <ℚ-not-≤ℚ h (*ℚ-mono-left n k))

-- ---- signs

pub *ℚ-non_negative : {x y : ℚ} → NonNegative x → NonNegative y → NonNegative (x *ℚ y)
*ℚ-non_negative {x} {y} n k = ≤→non_negative (≈-≤ℚ-trans (≈-sym (zero-*ℚ y)) (*ℚ-mono-left k (non_negative→≤ n)))

pub *ℚ-positive : {x y : ℚ} → Positive x → Positive y → Positive (x *ℚ y)
*ℚ-positive {x} {y} n k = <→positive (≤ℚ-<ℚ-trans (≈→≥ (zero-*ℚ y)) (*ℚ-strict-left k (positive→< n)))

pub square_non_negative : (x : ℚ) → NonNegative (x *ℚ x)
square_non_negative x = go (sign x)
  where
    go : NonNegative x ⊎ NonPositive x → NonNegative (x *ℚ x)
    go (inl n) = *ℚ-non_negative n n
    go (inr n) = ≤→non_negative (≈-≤ℚ-trans (≈-sym (zero-*ℚ x)) (*ℚ-anti-left n (non_positive→≤ n)))
