-- Reciprocals of positives and quotients by them.
use mathlib.Core.Path.{◌≡◌}
use Prim.Native.Nat.{ℕ, zero, suc, ◌+◌, ◌*◌, ◌-◌, ◌<◌}
use native.Mathlib.Omega.{arith}
use Rattle.fraction.specs.Fraction.{ℚ, ◌≈◌, ◌≤ℚ◌, ◌<ℚ◌, NonNegative, Positive, nat_ℚ, over, recip, ◌*ℚ◌, ◌÷◌}
use Rattle.fraction.proofs.Order.{≤ℚ-trans, ≈→≤, ≈→≥, ≈-sym, ≈-trans, ≤ℚ-≈-trans, ≈-≤ℚ-trans}
use Rattle.fraction.proofs.Order.{≤ℚ-<ℚ-trans, <ℚ-≤ℚ-trans, ≤ℚ-antisym, positive_up}
use Rattle.fraction.proofs.Integer.{nat_ℚ_positive}
use Rattle.fraction.proofs.Product.{*ℚ-comm, *ℚ-assoc, *ℚ-one, *ℚ-cong-left, *ℚ-cong-right, *ℚ-mono-left}
use Rattle.fraction.proofs.Product.{*ℚ-mono-right, *ℚ-strict-left, *ℚ-non_negative, *ℚ-positive, *ℚ-cancel-≤-left}

-- ---- reciprocals

inverse_core : (p m d k : ℕ) → p ≡ m + suc k → (p * d + m * 0) * 1 + 0 * (d * suc k) ≡ 1 * (d * suc k) + (p * 0 + m * d) * 1
inverse_core p m d k e = rw e (omega arith)

over_inverse : (x : ℚ) (n : ℕ) → x.p ≡ x.m + n → 0 < n → x *ℚ over x.d n ≈ nat_ℚ 1
unfolding ◌*ℚ◌ over nat_ℚ
over_inverse x zero e h = absurd (omega arith)
over_inverse x (suc k) e h = record { eq = inverse_core x.p x.m x.d k e }

pub *ℚ-recip : {x : ℚ} → Positive x → x *ℚ recip x ≈ nat_ℚ 1
unfolding recip
*ℚ-recip {x} h = over_inverse x (x.p - x.m) (omega arith) (omega arith)

over_non_negative : (d n : ℕ) → NonNegative (over d n)
unfolding over nat_ℚ
over_non_negative d zero = omega arith
over_non_negative d (suc n) = omega arith

pub recip_non_negative : (x : ℚ) → NonNegative (recip x)
unfolding recip
recip_non_negative x = over_non_negative x.d (x.p - x.m)

over_positive : (d n : ℕ) → 0 < d → 0 < n → Positive (over d n)
unfolding over
over_positive d zero h k = absurd (omega arith)
over_positive d (suc n) h k = omega arith

pub recip_positive : {x : ℚ} → Positive x → Positive (recip x)
unfolding recip
recip_positive {x} h = over_positive x.d (x.p - x.m) x.d_pos (omega arith)

-- ---- quotients

-- multiplied and divided by the same positive
pub *ℚ-÷ : (x : ℚ) {y : ℚ} → Positive y → (x *ℚ y) ÷ y ≈ x
*ℚ-÷ x {y} h = ≈-trans (*ℚ-assoc x y (recip y)) (≈-trans (*ℚ-cong-right x (*ℚ-recip h)) (*ℚ-one x))

pub ÷-*ℚ : (x : ℚ) {y : ℚ} → Positive y → (x ÷ y) *ℚ y ≈ x
÷-*ℚ x {y} h =
    ≈-trans (*ℚ-assoc x (recip y) y)
    (≈-trans (*ℚ-cong-right x (≈-trans (*ℚ-comm (recip y) y) (*ℚ-recip h))) (*ℚ-one x))

pub ÷-mono-left : {x y : ℚ} (z : ℚ) → x ≤ℚ y → x ÷ z ≤ℚ y ÷ z
÷-mono-left z h = *ℚ-mono-left (recip_non_negative z) h

pub ÷-cong-left : {x y : ℚ} (z : ℚ) → x ≈ y → x ÷ z ≈ y ÷ z
÷-cong-left z h = *ℚ-cong-left (recip z) h

pub ÷-strict-left : {x y z : ℚ} → Positive z → x <ℚ y → x ÷ z <ℚ y ÷ z
÷-strict-left h k = *ℚ-strict-left (recip_positive h) k

-- a product bounds a quotient, and the reverse
pub ≤-÷ : {x y z : ℚ} → Positive z → x *ℚ z ≤ℚ y → x ≤ℚ y ÷ z
≤-÷ {x} {y} {z} h k = ≈-≤ℚ-trans (≈-sym (*ℚ-÷ x h)) (÷-mono-left z k)

pub ÷-≤ : {x y z : ℚ} → Positive z → x ≤ℚ y *ℚ z → x ÷ z ≤ℚ y
÷-≤ {x} {y} {z} h k = ≤ℚ-≈-trans (÷-mono-left z k) (*ℚ-÷ y h)

pub <-÷ : {x y z : ℚ} → Positive z → x *ℚ z <ℚ y → x <ℚ y ÷ z
<-÷ {x} {y} {z} h k = ≤ℚ-<ℚ-trans (≈→≥ (*ℚ-÷ x h)) (÷-strict-left h k)

pub ÷-< : {x y z : ℚ} → Positive z → x <ℚ y *ℚ z → x ÷ z <ℚ y
÷-< {x} {y} {z} h k = <ℚ-≤ℚ-trans (÷-strict-left h k) (≈→≤ (*ℚ-÷ y h))

pub ÷-unique : {x y z : ℚ} → Positive z → x *ℚ z ≈ y → x ≈ y ÷ z
÷-unique h k = ≤ℚ-antisym (≤-÷ h (≈→≤ k)) (÷-≤ h (≈→≥ k))

-- ---- antitone in a positive

pub recip_anti : {x y : ℚ} → Positive x → x ≤ℚ y → recip y ≤ℚ recip x
recip_anti {x} {y} h k =
    let hy = positive_up h k in
    *ℚ-cancel-≤-left hy
    (≈-≤ℚ-trans (≈-trans (*ℚ-comm (recip y) y) (≈-trans (*ℚ-recip hy) (≈-sym (≈-trans (*ℚ-comm (recip x) x) (*ℚ-recip h)))))
    (*ℚ-mono-right (recip_non_negative x) k))

pub recip_cong : {x y : ℚ} → Positive x → x ≈ y → recip x ≈ recip y
recip_cong h e = ≤ℚ-antisym (recip_anti (positive_up h (≈→≤ e)) (≈→≥ e)) (recip_anti h (≈→≤ e))

pub ÷-anti-right : {x y z : ℚ} → NonNegative z → Positive x → x ≤ℚ y → z ÷ y ≤ℚ z ÷ x
÷-anti-right n h k = *ℚ-mono-right n (recip_anti h k)

-- a quotient of two that are not negative: up with the numerator, down with the denominator
pub ÷-mono : {x y z w : ℚ} → NonNegative y → Positive z → x ≤ℚ y → z ≤ℚ w → x ÷ w ≤ℚ y ÷ z
÷-mono {w = w} n h k l = ≤ℚ-trans (÷-mono-left w k) (÷-anti-right n h l)

pub ÷-non_negative : {x : ℚ} (y : ℚ) → NonNegative x → NonNegative (x ÷ y)
÷-non_negative y n = *ℚ-non_negative n (recip_non_negative y)

pub ÷-positive : {x y : ℚ} → Positive x → Positive y → Positive (x ÷ y)
÷-positive h k = *ℚ-positive h (recip_positive k)

-- ---- a quotient of naturals is the fraction with that denominator

over_times : (a n : ℕ) → over a (suc n) *ℚ nat_ℚ (suc n) ≈ nat_ℚ a
unfolding over nat_ℚ ◌*ℚ◌
over_times a n = omega arith

pub over-÷ : (a b : ℕ) → 0 < b → over a b ≈ nat_ℚ a ÷ nat_ℚ b
over-÷ a zero h = absurd (omega arith)
over-÷ a (suc n) h = ÷-unique (nat_ℚ_positive h) (over_times a n)
