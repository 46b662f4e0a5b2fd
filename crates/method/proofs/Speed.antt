-- The sheet's factor a, worked from the cut rate, is the phase-in paper's α in hundred-millionths: ten percent, X, or linear between.
use mathlib.Core.Path.{◌≡◌, refl, ap, sym, ◌∙◌}
use mathlib.Core.Bool.{Bool, cond}
use Prim.Native.Nat.{ℕ, zero, suc, ◌+◌, ◌*◌, ◌-◌, ◌≤◌, ◌<◌}
use native.Mathlib.Nat.{mul-le-mul, zero-mul, mul-zero, mul_assoc}
use native.Mathlib.Decide.{dec_le}
use native.Mathlib.Omega.{arith}
use borrow.Author.Tests.{le-leb, lt-leb, le-ltb}
use lib.Dec.{lit<}
use lib.IntN.{ℤ, pos, negsuc, nat_abs, ◌-ℤ◌}
use Rattle.fraction.specs.Fraction.{ℚ, ◌≈◌, ◌≤ℚ◌, ◌<ℚ◌, NonNegative, le_ℚ, nat_ℚ, int_ℚ, neg_ℚ, ◌+ℚ◌, ◌-ℚ◌, ◌*ℚ◌, ◌÷◌, recip}
use Rattle.fraction.proofs.Order.{≤ℚ-trans, ≤ℚ-≈-trans, ≈-≤ℚ-trans, ≈-refl, ≈-sym, ≈-trans, ≈→≤, ≈→≥, <ℚ-not-≤ℚ, <ℚ-≤ℚ-trans}
use Rattle.fraction.proofs.Order.{≤ℚ-<ℚ-trans, non_negative→≤, non_positive→≤, neg_non_negative, non_negative_up}
use Rattle.fraction.proofs.Decide.{computes, le_ℚ→≤, ≤→le_ℚ, lt_ℚ→<, eq_ℚ→≈}
use Rattle.fraction.proofs.Sum.{+ℚ-cong, neg_ℚ_cong, neg_ℚ_anti, neg_ℚ_strict, neg_ℚ-neg_ℚ}
use Rattle.fraction.proofs.Product.{*ℚ-cong, negℚ-*ℚ}
use Rattle.fraction.proofs.Quotient.{÷-mono-left, ÷-cong-left, ÷-strict-left, ÷-non_negative}
use Rattle.fraction.proofs.Integer.{nat_ℚ_non_negative, nat_ℚ_positive, nat_ℚ_mono, nat_ℚ_strict, int_ℚ-pos, int_ℚ_neg}
use Rattle.method.specs.Extrapolation.{cut, convergence_factor}
use Rattle.method.specs.True.{speed}
use Rattle.method.proofs.Quotients.{same_ratio, ratio-+, ratio_minus, ratio-*}
use Rattle.method.proofs.Step.{cond-true, cond-false}
use Rattle.method.proofs.Weights.{hundred_millionths}

-- ---- how far the cut rate is below 500

below_500 : (m : ℕ) → m ≤ 500 → pos 500 -ℤ pos m ≡ pos (500 - m)
below_500 zero h = refl
below_500 (suc m) h = rw (le-ltb 500 (suc m) h)

way_up : (m : ℕ) → pos 500 -ℤ cut (pos m) ≡ pos (500 - m)
way_up m = go (dec_le m 500)
  where
    go : Dec (m ≤ 500) → pos 500 -ℤ cut (pos m) ≡ pos (500 - m)
    go (yes h) = rw (le-leb m 500 h) (below_500 m h)
    go (no h) = rw (lt-leb m 500 (omega arith)) (ap pos (omega arith))

way_down : (m : ℕ) → m ≤ 499 → pos 500 -ℤ cut (negsuc m) ≡ pos (501 + m)
way_down m h = ap (λ (above : Bool). pos 500 -ℤ cond above (negsuc m) (negsuc 499)) (le-leb m 499 h) ∙ ap pos (omega arith)

way_down_cut : (m : ℕ) → 499 ≤ m → pos 500 -ℤ cut (negsuc m) ≡ pos 1_000
way_down_cut m h = go (dec_le m 499)
  where
    go : Dec (m ≤ 499) → pos 500 -ℤ cut (negsuc m) ≡ pos 1_000
    go (yes k) = rw (le-leb m 499 k) (ap pos (omega arith))
    go (no k) = rw (lt-leb m 499 (omega arith))

-- 0 to 1,000
pub way : (r : ℤ) → (k : ℕ) × (pos 500 -ℤ cut r ≡ pos k) × (k ≤ 1_000)
way (pos m) = (500 - m, way_up m, omega arith)
way (negsuc m) = go (dec_le m 499)
  where
    go : Dec (m ≤ 499) → (k : ℕ) × (pos 500 -ℤ cut (negsuc m) ≡ pos k) × (k ≤ 1_000)
    go (yes h) = (501 + m, way_down m h, omega arith)
    go (no h) = (1_000, way_down_cut m (omega arith), omega arith)

pub factor_by : (x : ℕ) (r : ℤ) → 10_000_000 + (x - 10_000) * (way r).0 ≡ convergence_factor x r
unfolding convergence_factor
factor_by x r = ap (λ (z : ℤ). 10_000_000 + (x - 10_000) * nat_abs z) (sym (way r).1)

-- a sheet's factor is from 10% to 20%
pub factor_range : (x : ℕ) (r : ℤ) → x ≤ 20_000 → (10_000_000 ≤ convergence_factor x r) × (convergence_factor x r ≤ 20_000_000)
unfolding convergence_factor
factor_range x r h =
    let (k, e, most) = way r in
    let above : x - 10_000 ≤ 10_000 = omega arith in
    let more = mul-le-mul above most in
    rw e (omega arith, omega arith)

-- 10,000 adds nothing
pub factor_plain : (r : ℤ) → convergence_factor 10_000 r ≡ 10_000_000
unfolding convergence_factor
factor_plain r = omega (arith, zero-mul (nat_abs (pos 500 -ℤ cut r)))

-- and so does a rate from 0.5% up
pub factor_high : (x m : ℕ) → 500 ≤ m → convergence_factor x (pos m) ≡ 10_000_000
unfolding convergence_factor
factor_high x m h =
    let none : 500 - m ≡ 0 = omega arith in
    rw (way_up m, none) (omega (arith, mul-zero (x - 10_000)))

-- ---- the bullets

abbrev ten : ℚ
ten = nat_ℚ 1 ÷ nat_ℚ 10

abbrev half : ℚ
half = nat_ℚ 1 ÷ nat_ℚ 200

-- a rate or X, which are in hundred-thousandths
abbrev rate : ℤ → ℚ
rate r = int_ℚ r ÷ nat_ℚ 100_000

abbrev quoted : ℕ → ℚ
quoted x = nat_ℚ x ÷ nat_ℚ 100_000

rate_pos : (m : ℕ) → rate (pos m) ≈ quoted m
rate_pos m = ÷-cong-left (nat_ℚ 100_000) (int_ℚ-pos m)

rate_negsuc : (m : ℕ) → rate (negsuc m) ≈ neg_ℚ (quoted (suc m))
rate_negsuc m =
    ≈-trans (÷-cong-left (nat_ℚ 100_000) (≈-trans (int_ℚ_neg (pos (suc m))) (neg_ℚ_cong (int_ℚ-pos (suc m))))) (negℚ-*ℚ (nat_ℚ (suc m)) (recip (nat_ℚ 100_000)))

half_is : half ≈ quoted 500
half_is = same_ratio 1 500 (lit< tt) (lit< tt) (omega arith)

hundred : recip (half +ℚ half) ≈ nat_ℚ 100 ÷ nat_ℚ 1
unfolding computes
hundred = eq_ℚ→≈ tt

-- between the ends, with the rate k below 0.5%
between : (x k : ℕ) (r : ℤ) → 10_000 ≤ x → half -ℚ rate r ≈ quoted k →
    ten +ℚ (quoted x -ℚ ten) *ℚ ((half -ℚ rate r) ÷ (half +ℚ half)) ≈ hundred_millionths (10_000_000 + (x - 10_000) * k)
between x k r h e =
    let y = x - 10_000 in
    let first = same_ratio 1 10_000_000 {b = 10} {d = 100_000_000} (lit< tt) (lit< tt) (omega arith) in
    let above : quoted x -ℚ ten ≈ quoted y =
    ≈-trans (+ℚ-cong (≈-refl (quoted x)) (neg_ℚ_cong (same_ratio 1 10_000 (lit< tt) (lit< tt) (omega arith)))) (ratio_minus x 10_000 100_000 h) in
    let way : (half -ℚ rate r) ÷ (half +ℚ half) ≈ nat_ℚ (k * 100) ÷ nat_ℚ (100_000 * 1) = ≈-trans (*ℚ-cong e hundred) (ratio-* k 100 (lit< tt) (lit< tt)) in
    let part = ≈-trans (*ℚ-cong above way) (ratio-* y (k * 100) (lit< tt) (lit< tt)) in
    let whole = same_ratio (y * (k * 100)) (y * k) {b = 100_000 * (100_000 * 1)} {d = 100_000_000} (lit< tt) (lit< tt) (omega (arith, mul_assoc y k 100)) in
    ≈-trans (+ℚ-cong first (≈-trans part whole)) (ratio-+ 10_000_000 (y * k) 100_000_000)

-- 0.5% or higher; -0.5% or lower; or neither
speed_high : (x r : ℚ) → half ≤ℚ r → speed x r ≡ ten
unfolding speed
speed_high x r h = cond-true (le_ℚ half r) _ _ (≤→le_ℚ h)

speed_low : (x r : ℚ) → r <ℚ half → r ≤ℚ neg_ℚ half → speed x r ≡ x
unfolding speed
speed_low x r a b =
    cond-false (le_ℚ half r) _ _ (λ t. <ℚ-not-≤ℚ a (le_ℚ→≤ t)) ∙ cond-true (le_ℚ r (neg_ℚ half)) _ _ (≤→le_ℚ b)

speed-between : (x r : ℚ) → r <ℚ half → neg_ℚ half <ℚ r → speed x r ≡ ten +ℚ (x -ℚ ten) *ℚ ((half -ℚ r) ÷ (half +ℚ half))
unfolding speed
speed-between x r a b =
    cond-false (le_ℚ half r) _ _ (λ t. <ℚ-not-≤ℚ a (le_ℚ→≤ t)) ∙ cond-false (le_ℚ r (neg_ℚ half)) _ _ (λ t. <ℚ-not-≤ℚ b (le_ℚ→≤ t))

-- ---- where a rate lies

quoted-≤ : {a b : ℕ} → a ≤ b → quoted a ≤ℚ quoted b
quoted-≤ h = ÷-mono-left (nat_ℚ 100_000) (nat_ℚ_mono h)

quoted-< : {a b : ℕ} → a < b → quoted a <ℚ quoted b
quoted-< h = ÷-strict-left (nat_ℚ_positive (lit< tt)) (nat_ℚ_strict h)

from_half : {m : ℕ} → 500 ≤ m → half ≤ℚ rate (pos m)
from_half {m} h = ≈-≤ℚ-trans half_is (≤ℚ-≈-trans (quoted-≤ h) (≈-sym (rate_pos m)))

to_half : {m : ℕ} → m < 500 → rate (pos m) <ℚ half
to_half {m} h = ≤ℚ-<ℚ-trans (≈→≤ (rate_pos m)) (<ℚ-≤ℚ-trans (quoted-< h) (≈→≥ half_is))

quoted_non_negative : (a : ℕ) → NonNegative (quoted a)
quoted_non_negative a = ÷-non_negative (nat_ℚ 100_000) (nat_ℚ_non_negative a)

above_0 : nat_ℚ 0 <ℚ half
unfolding computes
above_0 = lt_ℚ→< tt

minus_half : neg_ℚ half <ℚ nat_ℚ 0
unfolding computes
minus_half = lt_ℚ→< tt

above_minus : (m : ℕ) → neg_ℚ half <ℚ rate (pos m)
above_minus m = <ℚ-≤ℚ-trans minus_half (non_negative→≤ (non_negative_up (quoted_non_negative m) (≈→≥ (rate_pos m))))

negative : (m : ℕ) → rate (negsuc m) <ℚ half
negative m =
    let below-0 = ≤ℚ-trans (≈→≤ (rate_negsuc m)) (non_positive→≤ (neg_non_negative (quoted_non_negative (suc m)))) in
    ≤ℚ-<ℚ-trans below-0 above_0

to_minus : {m : ℕ} → 499 ≤ m → rate (negsuc m) ≤ℚ neg_ℚ half
to_minus {m} h = ≈-≤ℚ-trans (rate_negsuc m) (neg_ℚ_anti (≈-≤ℚ-trans half_is (quoted-≤ (omega arith))))

from_minus : {m : ℕ} → m < 499 → neg_ℚ half <ℚ rate (negsuc m)
from_minus {m} h = <ℚ-≤ℚ-trans (neg_ℚ_strict (<ℚ-≤ℚ-trans (quoted-< (omega arith)) (≈→≥ half_is))) (≈→≥ (rate_negsuc m))

-- ---- α is a

pub factor_is : (x : ℕ) (r : ℤ) → 10_000 ≤ x → speed (quoted x) (rate r) ≈ hundred_millionths (convergence_factor x r)
unfolding convergence_factor
factor_is x (pos m) h = go (dec_le 500 m)
  where
    go : Dec (500 ≤ m) → speed (quoted x) (rate (pos m)) ≈ hundred_millionths (10_000_000 + (x - 10_000) * nat_abs (pos 500 -ℤ cut (pos m)))
    go (yes k) =
        let none : 500 - m ≡ 0 = omega arith in
        rw (way_up m, none, speed_high (quoted x) (rate (pos m)) (from_half k)) (same_ratio 1 _ (lit< tt) (lit< tt) (omega arith))
    go (no k) =
        rw (way_up m, speed-between (quoted x) (rate (pos m)) (to_half (omega arith)) (above_minus m))
        (between x (500 - m) (pos m) h (≈-trans (+ℚ-cong half_is (neg_ℚ_cong (rate_pos m))) (ratio_minus 500 m 100_000 (omega arith))))
factor_is x (negsuc m) h = go (dec_le 499 m)
  where
    go : Dec (499 ≤ m) → speed (quoted x) (rate (negsuc m)) ≈ hundred_millionths (10_000_000 + (x - 10_000) * nat_abs (pos 500 -ℤ cut (negsuc m)))
    go (yes k) =
        rw (way_down_cut m k, speed_low (quoted x) (rate (negsuc m)) (negative m) (to_minus k))
        (same_ratio x _ (lit< tt) (lit< tt) (omega arith))
    go (no k) =
        let far : 501 + m ≡ 500 + suc m = omega arith in
        rw (way_down m (omega arith), far, speed-between (quoted x) (rate (negsuc m)) (negative m) (from_minus (omega arith)))
        (between x (500 + suc m) (negsuc m) h
        (≈-trans (+ℚ-cong half_is (≈-trans (neg_ℚ_cong (rate_negsuc m)) (neg_ℚ-neg_ℚ (quoted (suc m)))))
        (ratio-+ 500 (suc m) 100_000)))
