-- Enclosure, step by step: where the arguments are enclosed by pairs, the rounded pair encloses the exact result.
-- One law for each shape of step; every divisor, weight and multiplier is any number.
use mathlib.Core.Path.{subst}
use mathlib.Core.List.{List, [], ◌∷◌}
use mathlib.Core.Logic.{◌⊎◌, inl, inr}
use Prim.Native.Nat.{ℕ, ◌*◌, ◌/◌, ◌<◌}
use lib.IntN.{ℤ, pos, neg_ℤ, ◌+ℤ◌, ◌-ℤ◌, ◌*ℤ◌}
use lib.Signed.{◌≤ℤ◌}
use Rattle.fraction.specs.Fraction.{ℚ, ◌≈◌, ◌≤ℚ◌, NonNegative, NonPositive, Positive, nat_ℚ, int_ℚ, neg_ℚ, ◌+ℚ◌, ◌-ℚ◌, ◌*ℚ◌, ◌÷◌}
use Rattle.fraction.specs.Rounding.{floor, ceiling, ceil_div, Product, quotient, weighted, whole_sum, exact, rounded_down, rounded_up, Encloses}
use Rattle.fraction.proofs.Order.{≤ℚ-trans, ≤ℚ-refl, ≤ℚ-≈-trans, ≈-≤ℚ-trans, ≈→≥, ≈-sym, sign, non_negative_up, positive_up}
use Rattle.fraction.proofs.Sum.{+ℚ-mono, +ℚ-mono-right, neg_ℚ_anti}
use Rattle.fraction.proofs.Product.{*ℚ-mono, *ℚ-mono-right, *ℚ-anti-right, *ℚ-cong-left}
use Rattle.fraction.proofs.Integer.{nat_ℚ_non_negative, nat_ℚ_positive, int_ℚ-pos, int_ℚ_mono, int_ℚ_reflects, int_ℚ_neg, intℚ-+, intℚ-*}
use Rattle.fraction.proofs.Quotient.{÷-mono-left, ÷-mono}
use Rattle.fraction.proofs.Floor.{ceiling-pos}
use Rattle.fraction.proofs.Rounding.{rounding, whole_sum-exact}

-- ---- what an enclosure is

pub encloses_exact : (z : ℤ) → Encloses z z (int_ℚ z)
encloses_exact z = record { below = ≤ℚ-refl (int_ℚ z); above = ≤ℚ-refl (int_ℚ z) }

pub encloses_ordered : {a b : ℤ} {x : ℚ} → Encloses a b x → a ≤ℤ b
encloses_ordered {a} {b} h = int_ℚ_reflects a b (≤ℚ-trans h.below h.above)

-- an integer up to another, by which steps are shown to grow
pub between_ℤ : {a b : ℤ} → a ≤ℤ b → Encloses a b (int_ℚ a)
between_ℤ {a} h = record { below = ≤ℚ-refl (int_ℚ a); above = int_ℚ_mono h }

pub encloses_widen : {a b c e : ℤ} {x : ℚ} → c ≤ℤ a → b ≤ℤ e → Encloses a b x → Encloses c e x
encloses_widen l u h =
    record { below = ≤ℚ-trans (int_ℚ_mono l) h.below; above = ≤ℚ-trans h.above (int_ℚ_mono u) }

pub encloses-≈ : {a b : ℤ} {x y : ℚ} → x ≈ y → Encloses a b x → Encloses a b y
encloses-≈ e h = record { below = ≤ℚ-≈-trans h.below e; above = ≈-≤ℚ-trans (≈-sym e) h.above }

-- a natural pair, read as fractions
pub nat_below : {a b : ℕ} {x : ℚ} → Encloses (pos a) (pos b) x → nat_ℚ a ≤ℚ x
nat_below {a} h = ≈-≤ℚ-trans (≈-sym (int_ℚ-pos a)) h.below

pub nat_above : {a b : ℕ} {x : ℚ} → Encloses (pos a) (pos b) x → x ≤ℚ nat_ℚ b
nat_above {b = b} h = ≤ℚ-≈-trans h.above (int_ℚ-pos b)

pub nat_encloses : {a b : ℕ} {x : ℚ} → nat_ℚ a ≤ℚ x → x ≤ℚ nat_ℚ b → Encloses (pos a) (pos b) x
nat_encloses {a} {b} l u =
    record { below = ≈-≤ℚ-trans (int_ℚ-pos a) l; above = ≤ℚ-≈-trans u (≈-sym (int_ℚ-pos b)) }

pub encloses_non_negative : {a b : ℕ} {x : ℚ} → Encloses (pos a) (pos b) x → NonNegative x
encloses_non_negative {a} h = non_negative_up (nat_ℚ_non_negative a) (nat_below h)

pub encloses_positive : {a b : ℕ} {x : ℚ} → 0 < a → Encloses (pos a) (pos b) x → Positive x
encloses_positive k h = positive_up (nat_ℚ_positive k) (nat_below h)

-- ---- sums, differences

pub encloses-+ : {a b c e : ℤ} {x y : ℚ} → Encloses a b x → Encloses c e y → Encloses (a +ℤ c) (b +ℤ e) (x +ℚ y)
encloses-+ {a} {b} {c} {e} h k =
    record {
      below = ≈-≤ℚ-trans (intℚ-+ a c) (+ℚ-mono h.below k.below);
      above = ≤ℚ-≈-trans (+ℚ-mono h.above k.above) (≈-sym (intℚ-+ b e));
    }

pub encloses_neg : {a b : ℤ} {x : ℚ} → Encloses a b x → Encloses (neg_ℤ b) (neg_ℤ a) (neg_ℚ x)
encloses_neg {a} {b} h =
    record {
      below = ≈-≤ℚ-trans (int_ℚ_neg b) (neg_ℚ_anti h.above);
      above = ≤ℚ-≈-trans (neg_ℚ_anti h.below) (≈-sym (int_ℚ_neg a));
    }

pub neg_ℤ_anti : {a b : ℤ} → a ≤ℤ b → neg_ℤ b ≤ℤ neg_ℤ a
neg_ℤ_anti h = encloses_ordered (encloses_neg (between_ℤ h))

pub encloses_minus : {a b c e : ℤ} {x y : ℚ} → Encloses a b x → Encloses c e y → Encloses (a -ℤ e) (b -ℤ c) (x -ℚ y)
encloses_minus h k = encloses-+ h (encloses_neg k)

-- ---- a known multiplier, by its sign

pub encloses_times_non_negative : (w : ℤ) {a b : ℤ} {x : ℚ} → NonNegative (int_ℚ w) → Encloses a b x → Encloses (w *ℤ a) (w *ℤ b) (int_ℚ w *ℚ x)
encloses_times_non_negative w {a} {b} n h =
    record {
      below = ≈-≤ℚ-trans (intℚ-* w a) (*ℚ-mono-right n h.below);
      above = ≤ℚ-≈-trans (*ℚ-mono-right n h.above) (≈-sym (intℚ-* w b));
    }

pub encloses_times_non_positive : (w : ℤ) {a b : ℤ} {x : ℚ} → NonPositive (int_ℚ w) → Encloses a b x → Encloses (w *ℤ b) (w *ℤ a) (int_ℚ w *ℚ x)
encloses_times_non_positive w {a} {b} n h =
    record {
      below = ≈-≤ℚ-trans (intℚ-* w b) (*ℚ-anti-right n h.above);
      above = ≤ℚ-≈-trans (*ℚ-anti-right n h.below) (≈-sym (intℚ-* w a));
    }

pub encloses_times : (w : ℕ) {a b : ℤ} {x : ℚ} → Encloses a b x → Encloses (pos w *ℤ a) (pos w *ℤ b) (nat_ℚ w *ℚ x)
encloses_times w {x = x} h =
    encloses-≈ (*ℚ-cong-left x (int_ℚ-pos w))
    (encloses_times_non_negative (pos w) (non_negative_up (nat_ℚ_non_negative w) (≈→≥ (int_ℚ-pos w))) h)

-- ---- a known positive divisor: the rounding fact at the two ends, which every rounded step below goes through

pub encloses-÷ : {a b : ℤ} {x : ℚ} {d : ℕ} → 0 < d → Encloses a b x → Encloses (floor a d) (ceiling b d) (x ÷ nat_ℚ d)
unfolding exact rounded_down rounded_up
encloses-÷ {a} {b} {d = d} k h =
    record {
      below = ≤ℚ-trans (rounding (quotient a d k)).below (÷-mono-left (nat_ℚ d) h.below);
      above = ≤ℚ-trans (÷-mono-left (nat_ℚ d) h.above) (rounding (quotient b d k)).above;
    }

pub encloses-÷-nat : {a b : ℕ} {x : ℚ} {d : ℕ} → 0 < d → Encloses (pos a) (pos b) x → Encloses (pos (a / d)) (pos (ceil_div b d)) (x ÷ nat_ℚ d)
encloses-÷-nat {a} {b} {x} {d} k h =
    subst (λ (z : ℤ). Encloses (pos (a / d)) z (x ÷ nat_ℚ d)) (ceiling-pos b d k) (encloses-÷ k h)

-- ---- products and quotients of naturals

pub encloses_product : {a b c e : ℕ} {x y : ℚ} → Encloses (pos a) (pos b) x → Encloses (pos c) (pos e) y → Encloses (pos (a * c)) (pos (b * e)) (x *ℚ y)
encloses_product {a} {b} {c} {e} h k =
    record {
      below = ≈-≤ℚ-trans (intℚ-* (pos a) (pos c)) (*ℚ-mono (encloses_non_negative h) (non_negative_int c) h.below k.below);
      above = ≤ℚ-≈-trans (*ℚ-mono (non_negative_int b) (encloses_non_negative k) h.above k.above) (≈-sym (intℚ-* (pos b) (pos e)));
    }
  where
    non_negative_int : (n : ℕ) → NonNegative (int_ℚ (pos n))
    non_negative_int n = non_negative_up (nat_ℚ_non_negative n) (≈→≥ (int_ℚ-pos n))

pub encloses_scaled : {a b c e : ℕ} {x y : ℚ} {d : ℕ} → 0 < d → Encloses (pos a) (pos b) x → Encloses (pos c) (pos e) y →
    Encloses (pos (a * c / d)) (pos (ceil_div (b * e) d)) ((x *ℚ y) ÷ nat_ℚ d)
encloses_scaled n h k = encloses-÷-nat n (encloses_product h k)

-- the smallest numerator over the largest denominator, and the reverse
pub encloses_ratio : {a b c e : ℕ} {x y : ℚ} → 0 < c → 0 < e → Encloses (pos a) (pos b) x → Encloses (pos c) (pos e) y →
    Encloses (pos (a / e)) (pos (ceil_div b c)) (x ÷ y)
encloses_ratio {a} {b} {c} {e} n l h k =
    nat_encloses
    (≤ℚ-trans (nat_below (low (nat_encloses (≤ℚ-refl (nat_ℚ a)) (≤ℚ-refl (nat_ℚ a)))))
    (÷-mono (encloses_non_negative h) (encloses_positive n k) (nat_below h) (nat_above k)))
    (≤ℚ-trans (÷-mono (nat_ℚ_non_negative b) (nat_ℚ_positive n) (nat_above h) (nat_below k))
    (nat_above (high (nat_encloses (≤ℚ-refl (nat_ℚ b)) (≤ℚ-refl (nat_ℚ b))))))
  where
    low : Encloses (pos a) (pos a) (nat_ℚ a) → Encloses (pos (a / e)) (pos (ceil_div a e)) (nat_ℚ a ÷ nat_ℚ e)
    low = encloses-÷-nat l

    high : Encloses (pos b) (pos b) (nat_ℚ b) → Encloses (pos (b / c)) (pos (ceil_div b c)) (nat_ℚ b ÷ nat_ℚ c)
    high = encloses-÷-nat n

-- ---- a sum of products over a weight

pub record Term : Type 0 where
  pub weight : ℕ
  pub low : ℤ
  pub high : ℤ
  pub value : ℚ
  pub holds : Encloses low high value

unfoldable pub lows : List Term → List Product
lows [] = []
lows (t ∷ ts) = record { weight = pos t.weight; value = t.low } ∷ lows ts

unfoldable pub highs : List Term → List Product
highs [] = []
highs (t ∷ ts) = record { weight = pos t.weight; value = t.high } ∷ highs ts

unfoldable pub values : List Term → ℚ
values [] = nat_ℚ 0
values (t ∷ ts) = nat_ℚ t.weight *ℚ t.value +ℚ values ts

sum_encloses : (ts : List Term) → Encloses (whole_sum (lows ts)) (whole_sum (highs ts)) (values ts)
unfolding lows highs values whole_sum
sum_encloses [] = encloses-≈ (int_ℚ-pos 0) (encloses_exact (pos 0))
sum_encloses (t ∷ ts) = encloses-+ (encloses_times t.weight t.holds) (sum_encloses ts)

pub encloses_weighted : (ts : List Term) {d : ℕ} → 0 < d →
    Encloses (floor (whole_sum (lows ts)) d) (ceiling (whole_sum (highs ts)) d) (values ts ÷ nat_ℚ d)
unfolding exact rounded_down rounded_up
encloses_weighted ts {d} h =
    let sums = sum_encloses ts in
    record {
      below = ≤ℚ-trans (rounding (weighted (lows ts) d h)).below (÷-mono-left (nat_ℚ d) (≈-≤ℚ-trans (≈-sym (whole_sum-exact (lows ts))) sums.below));
      above = ≤ℚ-trans (÷-mono-left (nat_ℚ d) (≤ℚ-≈-trans sums.above (whole_sum-exact (highs ts)))) (rounding (weighted (highs ts) d h)).above;
    }

-- ---- a blend p + q × κ is bounded by its values at the two ends of κ

pub blend_low : (p q : ℚ) {l c e κ : ℚ} → c ≤ℚ κ → κ ≤ℚ e → l ≤ℚ p +ℚ q *ℚ c → l ≤ℚ p +ℚ q *ℚ e → l ≤ℚ p +ℚ q *ℚ κ
blend_low p q {l} {c} {e} {κ} ck ke hc he = go (sign q)
  where
    go : NonNegative q ⊎ NonPositive q → l ≤ℚ p +ℚ q *ℚ κ
    go (inl n) = ≤ℚ-trans hc (+ℚ-mono-right p (*ℚ-mono-right n ck))
    go (inr n) = ≤ℚ-trans he (+ℚ-mono-right p (*ℚ-anti-right n ke))

pub blend_high : (p q : ℚ) {u c e κ : ℚ} → c ≤ℚ κ → κ ≤ℚ e → p +ℚ q *ℚ c ≤ℚ u → p +ℚ q *ℚ e ≤ℚ u → p +ℚ q *ℚ κ ≤ℚ u
blend_high p q {u} {c} {e} {κ} ck ke hc he = go (sign q)
  where
    go : NonNegative q ⊎ NonPositive q → p +ℚ q *ℚ κ ≤ℚ u
    go (inl n) = ≤ℚ-trans (+ℚ-mono-right p (*ℚ-mono-right n ke)) he
    go (inr n) = ≤ℚ-trans (+ℚ-mono-right p (*ℚ-anti-right n ck)) hc
