-- How large the logarithm, the forwards made from it, and each step on the way can be: every step grows with what it is
-- worked from, so each bound is one computation at the end of the range.
use mathlib.Core.Path.{◌≡◌, refl}
use Prim.Native.Nat.{ℕ, zero, suc, ◌+◌, ◌*◌, ◌≤◌, ◌<◌}
use native.Mathlib.Nat.{le_refl, le_trans, lt_of_le_of_lt, mul-le-mul, add-le-add, mul-le-mul_left}
use native.Mathlib.Omega.{arith}
use lib.Dec.{lit≤, lit<}
use lib.IntN.{ℤ, pos, negsuc, neg_ℤ, nat_abs}
use Rattle.fraction.specs.Rounding.{U, ceil_div}
use Rattle.method.specs.Units.{Pair, SignedPair, signed_pair}
use Rattle.method.specs.Quotes.{lower_end, upper_end}
use Rattle.method.specs.Series.{logarithm_sum, logarithm, G, gap_forward_with, gap_forward, ultimate_forward_with, ultimate_forward}
use Rattle.method.specs.Series.{growth_sum, growth, growth_low, growth_high}
use Rattle.method.proofs.Quotients.{Below, down_below_up, up_below_up, ceil_div-≤}
use Rattle.method.proofs.Slack.{added_most}
use Rattle.method.proofs.Growth.{growth_mono}
use Rattle.method.proofs.Logarithm.{distance, logarithm_low, logarithm_high, G-cases}
use Rattle.method.specs.Ranges.{growth_range, logarithm_bound}

-- ---- the steps, rounded either way

-- z, from U / 9
abbrev pub z_bound : ℕ
z_bound = 111_111_112

-- E at an adjustment
abbrev pub small_growth : ℕ
small_growth = 1_005_100_000

-- s = z × z / U
abbrev pub s_bound : ℕ
s_bound = 12_345_680

module _ {round : ℕ → ℕ → ℕ} (b : Below round ceil_div) where
  pub z-≤ : (d x : ℕ) → 9 * d ≤ U + x → round (d * U) (U + x) ≤ z_bound
  z-≤ d x h = le_trans (b.below (U + x) (le_refl (d * U))) (ceil_div-≤ (omega arith) (omega arith))

  pub s-≤ : {z : ℕ} → z ≤ z_bound → round (z * z) U ≤ s_bound
  s-≤ h = le_trans (b.below U (mul-le-mul h h)) (lit≤ tt)

  -- p falls from one step to the next
  pub p-≤ : (p : ℕ) {s : ℕ} → s ≤ s_bound → round (p * s) U ≤ p
  p-≤ p {s} h = le_trans (b.below U (mul-le-mul_left p h)) (ceil_div-≤ {d = U} (lit< tt) (omega arith))

  -- t of the growth does not pass U
  pub t-≤ : {i t y : ℕ} → 0 < i → t ≤ U → y ≤ growth_range → round (t * y) (i * U) ≤ U
  t-≤ {i} {t} {y} p h k = le_trans (b.below (i * U) (mul-le-mul h k)) (ceil_div-≤ (omega arith) (omega arith))

  logarithm_sum_mono : (k odd : ℕ) {s s' p p' : ℕ} → s ≤ s' → p ≤ p' → logarithm_sum round s odd p k ≤ logarithm_sum ceil_div s' odd p' k
  unfolding logarithm_sum
  logarithm_sum_mono zero odd h l = omega arith
  logarithm_sum_mono (suc k) odd h l =
      add-le-add (b.below odd l) (logarithm_sum_mono k (odd + 2) h (b.below U (mul-le-mul l h)))

  pub logarithm-≤ : (d x : ℕ) → 9 * d ≤ U + x → logarithm round d x < logarithm_bound
  unfolding logarithm logarithm_sum
  logarithm-≤ d x h =
      let z = z-≤ d x h in
      lt_of_le_of_lt (mul-le-mul_left 2 (logarithm_sum_mono 5 1 (s-≤ z) z)) (lit< tt)

  growth_small : {y : ℕ} → y ≤ 5_000_000 → growth round y < small_growth
  unfolding growth growth_sum
  growth_small h = lt_of_le_of_lt (growth_mono b h) (lit< tt)

-- ---- E at an adjustment, of either side: e^0.005 is 1,005,012,520.9

pub small_growths : (y : ℕ) → y ≤ 5_000_000 → (growth_low y ≤ small_growth) × (growth_high y ≤ small_growth)
small_growths y h = (omega (arith, growth_small down_below_up h), omega (arith, growth_small up_below_up h, added_most 0 y))

-- ---- the logarithm and the two forwards

abbrev pub Bounded : SignedPair → Type 0
Bounded g = (nat_abs g.low ≤ logarithm_bound) × (nat_abs g.high ≤ logarithm_bound)

nat_abs_neg : (z : ℤ) → nat_abs (neg_ℤ z) ≡ nat_abs z
nat_abs_neg (pos zero) = refl
nat_abs_neg (pos (suc n)) = refl
nat_abs_neg (negsuc n) = refl

negated : (g : SignedPair) → Bounded g → Bounded (signed_pair (neg_ℤ g.high) (neg_ℤ g.low))
negated g h = (rw (nat_abs_neg g.high) h.1, rw (nat_abs_neg g.low) h.0)

pub G-bound : (x : ℕ) → lower_end ≤ x → x ≤ upper_end → Bounded (G x)
G-bound x l h =
    let ninth : 9 * distance x ≤ U + x = omega arith in
    let low = logarithm-≤ down_below_up (distance x) x ninth in
    let high = logarithm-≤ up_below_up (distance x) x ninth in
    let gained = added_most U x in
    G-cases x Bounded (λ below. omega arith) (λ above. negated (signed_pair (pos (logarithm_low x)) (pos (logarithm_high x))) (omega arith))

pub gap_forward_bound : (x : Pair) → lower_end ≤ x.low → x.low ≤ upper_end → lower_end ≤ x.high → x.high ≤ upper_end → Bounded (gap_forward x)
unfolding gap_forward_with
gap_forward_bound x ll lu hl hu = ((G-bound x.high hl hu).0, (G-bound x.low ll lu).1)

pub ultimate_forward_bound : (u : ℕ) → u ≤ 10_000 → Bounded (ultimate_forward u)
unfolding ultimate_forward_with
ultimate_forward_bound u h = negated (G (U + 10_000 * u)) (G-bound (U + 10_000 * u) (omega arith) (omega arith))
