-- Sums, differences and negation of fractions.
use Prim.Native.Nat.{ℕ, ◌+◌, ◌*◌, ◌≤◌, ◌<◌}
use native.Mathlib.Nat.{mul-le-mul_right, mul-lt-mul_of_pos_right, mul-pos}
use native.Mathlib.Omega.{arith}
use Rattle.fraction.specs.Fraction.{ℚ, ◌≈◌, ◌≤ℚ◌, ◌<ℚ◌, NonNegative, Positive, nat_ℚ, neg_ℚ, ◌+ℚ◌, ◌-ℚ◌}
use Rattle.fraction.proofs.Order.{≤ℚ-trans, ≤ℚ-antisym, ≈→≤, ≈→≥, ≈-sym, ≈-trans, <ℚ-≤ℚ-trans}
use Rattle.fraction.proofs.Order.{≤ℚ-<ℚ-trans, ≤ℚ-≈-trans, ≈-≤ℚ-trans, non_negative→≤, positive_up}

-- ---- the sum is a commutative group

pub +ℚ-comm : (x y : ℚ) → x +ℚ y ≈ y +ℚ x
unfolding ◌+ℚ◌
+ℚ-comm x y = omega arith

pub +ℚ-assoc : (x y z : ℚ) → (x +ℚ y) +ℚ z ≈ x +ℚ (y +ℚ z)
unfolding ◌+ℚ◌
+ℚ-assoc x y z = omega arith

pub +ℚ-zero : (x : ℚ) → x +ℚ nat_ℚ 0 ≈ x
unfolding ◌+ℚ◌ nat_ℚ
+ℚ-zero x = omega arith

pub zero-+ℚ : (x : ℚ) → nat_ℚ 0 +ℚ x ≈ x
zero-+ℚ x = ≈-trans (+ℚ-comm (nat_ℚ 0) x) (+ℚ-zero x)

pub +ℚ-neg : (x : ℚ) → x -ℚ x ≈ nat_ℚ 0
unfolding ◌+ℚ◌ neg_ℚ nat_ℚ
+ℚ-neg x = omega arith

pub neg_ℚ-neg_ℚ : (x : ℚ) → neg_ℚ (neg_ℚ x) ≈ x
unfolding neg_ℚ
neg_ℚ-neg_ℚ x = omega arith

pub negℚ-+ℚ : (x y : ℚ) → neg_ℚ (x +ℚ y) ≈ neg_ℚ x +ℚ neg_ℚ y
unfolding ◌+ℚ◌ neg_ℚ
negℚ-+ℚ x y = omega arith

-- ---- monotone

add_core : (a b c e f g p m d : ℕ) → a * g + f * c ≤ e * c + b * g →
    (a * d + p * c) * (g * d) + (f * d + m * g) * (c * d) ≤ (e * d + p * g) * (c * d) + (b * d + m * c) * (g * d)
add_core a b c e f g p m d h = omega (arith, mul-le-mul_right (d * d) h)

pub +ℚ-mono-left : {x y : ℚ} (z : ℚ) → x ≤ℚ y → x +ℚ z ≤ℚ y +ℚ z
unfolding ◌+ℚ◌
+ℚ-mono-left {x} {y} z h =
    record { le = add_core x.p x.m x.d y.p y.m y.d z.p z.m z.d h.le }

pub +ℚ-mono-right : {x y : ℚ} (z : ℚ) → x ≤ℚ y → z +ℚ x ≤ℚ z +ℚ y
+ℚ-mono-right {x} {y} z h = ≈-≤ℚ-trans (+ℚ-comm z x) (≤ℚ-≈-trans (+ℚ-mono-left z h) (+ℚ-comm y z))

pub +ℚ-mono : {x y z w : ℚ} → x ≤ℚ y → z ≤ℚ w → x +ℚ z ≤ℚ y +ℚ w
+ℚ-mono {y = y} {z = z} h k = ≤ℚ-trans (+ℚ-mono-left z h) (+ℚ-mono-right y k)

pub +ℚ-cong : {x y z w : ℚ} → x ≈ y → z ≈ w → x +ℚ z ≈ y +ℚ w
+ℚ-cong h k = ≤ℚ-antisym (+ℚ-mono (≈→≤ h) (≈→≤ k)) (+ℚ-mono (≈→≥ h) (≈→≥ k))

pub neg_ℚ_anti : {x y : ℚ} → x ≤ℚ y → neg_ℚ y ≤ℚ neg_ℚ x
unfolding neg_ℚ
neg_ℚ_anti h = omega arith

pub neg_ℚ_reflects : {x y : ℚ} → neg_ℚ y ≤ℚ neg_ℚ x → x ≤ℚ y
unfolding neg_ℚ
neg_ℚ_reflects h = omega arith

pub neg_ℚ_cong : {x y : ℚ} → x ≈ y → neg_ℚ x ≈ neg_ℚ y
neg_ℚ_cong h = ≤ℚ-antisym (neg_ℚ_anti (≈→≥ h)) (neg_ℚ_anti (≈→≤ h))

pub neg_ℚ_strict : {x y : ℚ} → x <ℚ y → neg_ℚ y <ℚ neg_ℚ x
unfolding neg_ℚ
neg_ℚ_strict h = omega arith

pub -ℚ-mono : {x y z w : ℚ} → x ≤ℚ y → w ≤ℚ z → x -ℚ z ≤ℚ y -ℚ w
-ℚ-mono h k = +ℚ-mono h (neg_ℚ_anti k)

lt_core : (a b c e f g p m d : ℕ) → 0 < d → a * g + f * c < e * c + b * g →
    (a * d + p * c) * (g * d) + (f * d + m * g) * (c * d) < (e * d + p * g) * (c * d) + (b * d + m * c) * (g * d)
lt_core a b c e f g p m d k h = omega (arith, mul-lt-mul_of_pos_right h (mul-pos k k))

pub +ℚ-strict-left : {x y : ℚ} (z : ℚ) → x <ℚ y → x +ℚ z <ℚ y +ℚ z
unfolding ◌+ℚ◌
+ℚ-strict-left {x} {y} z h =
    record { lt = lt_core x.p x.m x.d y.p y.m y.d z.p z.m z.d z.d_pos h.lt }

pub +ℚ-strict : {x y z w : ℚ} → x <ℚ y → z ≤ℚ w → x +ℚ z <ℚ y +ℚ w
+ℚ-strict {y = y} {z = z} h k = <ℚ-≤ℚ-trans (+ℚ-strict-left z h) (+ℚ-mono-right y k)

pub +ℚ-strict-right : {x y z w : ℚ} → x ≤ℚ y → z <ℚ w → x +ℚ z <ℚ y +ℚ w
+ℚ-strict-right {x} {y} {z} {w} h k =
    ≤ℚ-<ℚ-trans (≈→≤ (+ℚ-comm x z)) (<ℚ-≤ℚ-trans (+ℚ-strict k h) (≈→≤ (+ℚ-comm w y)))

-- ---- signs

pub +ℚ-non_negative : {x y : ℚ} → NonNegative x → NonNegative y → NonNegative (x +ℚ y)
unfolding ◌+ℚ◌
+ℚ-non_negative {x} {y} n k = omega (arith, mul-le-mul_right y.d n.at_least, mul-le-mul_right x.d k.at_least)

-- more is added
pub ≤-+ℚ-right : (x : ℚ) {y : ℚ} → NonNegative y → x ≤ℚ x +ℚ y
≤-+ℚ-right x n = ≈-≤ℚ-trans (≈-sym (+ℚ-zero x)) (+ℚ-mono-right x (non_negative→≤ n))

pub ≤-+ℚ-left : (x : ℚ) {y : ℚ} → NonNegative y → x ≤ℚ y +ℚ x
≤-+ℚ-left x {y} n = ≤ℚ-≈-trans (≤-+ℚ-right x n) (+ℚ-comm x y)

pub +ℚ-positive : {x y : ℚ} → Positive x → NonNegative y → Positive (x +ℚ y)
+ℚ-positive {x} n k = positive_up n (≤-+ℚ-right x k)

-- ---- an order by the sign of the difference

pub difference→≤ : (x y : ℚ) → NonNegative (y -ℚ x) → x ≤ℚ y
unfolding ◌+ℚ◌ neg_ℚ
difference→≤ x y n = omega arith

pub ≤→difference : {x y : ℚ} → x ≤ℚ y → NonNegative (y -ℚ x)
unfolding ◌+ℚ◌ neg_ℚ
≤→difference h = omega arith

pub difference→< : (x y : ℚ) → Positive (y -ℚ x) → x <ℚ y
unfolding ◌+ℚ◌ neg_ℚ
difference→< x y n = omega arith

pub <→difference : {x y : ℚ} → x <ℚ y → Positive (y -ℚ x)
unfolding ◌+ℚ◌ neg_ℚ
<→difference h = omega arith
