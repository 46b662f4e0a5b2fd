-- The rates that the search finds are those of the rule: in the range, passing, and none that passes beyond; 17 where there is no
-- high rate; and the own rate of whatever factor the band holds lies between them.
use mathlib.Core.Path.{◌≡◌, refl, sym, ap, subst, subst⁻¹, ◌∙◌}
use mathlib.Core.Logic.{◌↔◌}
use mathlib.Core.Bool.{Bool, true, false}
use Prim.Native.Nat.{ℕ, zero, suc, ◌*◌, ◌≤◌, ◌<◌}
use native.Mathlib.Nat.{mul-le-mul_right, mul-lt-mul_of_pos_left}
use native.Mathlib.Omega.{arith}
use lib.Dec.{T}
use lib.IntN.{ℤ, pos, ◌*ℤ◌}
use lib.Signed.{◌≤ℤ◌, le_z_yes}
use borrow.Author.Tests.{leb-true}
use Rattle.fraction.specs.Fraction.{ℚ, ◌≤ℚ◌, nat_ℚ, ◌*ℚ◌}
use Rattle.fraction.specs.Rounding.{U, Encloses}
use Rattle.fraction.proofs.Order.{≤ℚ-trans}
use Rattle.fraction.proofs.Integer.{nat_ℚ_mono}
use Rattle.fraction.proofs.Enclosure.{encloses_product, nat_below, nat_above}
use Rattle.method.specs.Units.{Pair, SignedPair}
use Rattle.method.specs.Grounds.{no_high_rate, Outcome, refused, done, ◌>>=◌, demand}
use Rattle.method.proofs.Outcome.{refused_not_done}
use Rattle.zero_rates.specs.Rates.{compound, stays_below, reaches, low_multiplier, high_multiplier, greatest_multiplier, rate_of, rates_of, zero_rates}
use Rattle.zero_rates.specs.Meaning.{grown, exact_growth, AtMost, AtLeast, Largest, Smallest, BandRates, HighRateExists, RateBetween}
use Rattle.zero_rates.proofs.Compounding.{compound_strict, grown_is, growth_enclosed}
use Rattle.zero_rates.proofs.Multipliers.{multiplier_is, rate_mono, rate_in_range, multiplier_of}
use Rattle.zero_rates.proofs.Search.{reaches_rises, low_found, high_found}

-- ---- the tests say of a multiplier what the rule says of its rate

holds : (b : Bool) → T b → b ≡ true
holds true t = refl
holds false t = absurd t

module _ (t m : ℕ) where
  grown_at : (up : Bool) → grown up (rate_of m) t ≡ pos (compound up m t)
  grown_at up = grown_is m (rate_of m) (multiplier_is m) up t

  -- a growth times a factor, against U × U
  abbrev Below : ℕ → ℤ → Type 0
  Below high g = (pos high *ℤ g) ≤ℤ pos 1_000_000_000_000_000_000

  abbrev Past : ℕ → ℤ → Type 0
  Past low g = pos 1_000_000_000_000_000_000 ≤ℤ (pos low *ℤ g)

  stays→at-most : (high : ℕ) → stays_below t high m ≡ true → AtMost t high (rate_of m)
  unfolding stays_below
  stays→at-most high h = subst⁻¹ (Below high) (grown_at true) (le_z_yes (subst T (sym h) tt))

  at-most→stays : (high : ℕ) → AtMost t high (rate_of m) → stays_below t high m ≡ true
  unfolding stays_below
  at-most→stays high h = holds (stays_below t high m) (subst (Below high) (grown_at true) h).le

  reaches→at-least : (low : ℕ) → reaches t low m ≡ true → AtLeast t low (rate_of m)
  unfolding reaches
  reaches→at-least low h = subst⁻¹ (Past low) (grown_at false) (le_z_yes (subst T (sym h) tt))

  at-least→reaches : (low : ℕ) → AtLeast t low (rate_of m) → reaches t low m ≡ true
  unfolding reaches
  at-least→reaches low h = holds (reaches t low m) (subst (Past low) (grown_at false) h).le

-- ---- largest and smallest

pub low_rate_largest : (t high : ℕ) → 1 ≤ t → high ≤ 2_000_000_000 → Largest (AtMost t high) (rate_of (low_multiplier t high))
low_rate_largest t high h k =
    let found = low_found t high h k in
    let m = low_multiplier t high in
    record {
      in_range = rate_in_range m found.least found.greatest;
      passes = stays→at-most t m high found.stays;
      none_above = λ w r passes.
          let of-w = multiplier_of w r in
          rw of-w.is_rate
          (rate_mono _ m (found.none_above of-w.m of-w.greatest (at-most→stays t of-w.m high (rw of-w.is_rate at passes))));
    }

pub high_rate_smallest : (t low : ℕ) → reaches t low greatest_multiplier ≡ true → Smallest (AtLeast t low) (rate_of (high_multiplier t low))
high_rate_smallest t low h =
    let found = high_found t low h in
    let m = high_multiplier t low in
    record {
      in_range = rate_in_range m found.least found.greatest;
      passes = reaches→at-least t m low found.reached;
      none_below = λ w r passes.
          let of-w = multiplier_of w r in
          rw of-w.is_rate
          (rate_mono m _ (found.none_below of-w.m of-w.least (at-least→reaches t of-w.m low (rw of-w.is_rate at passes))));
    }

-- ---- a high rate exists exactly where the greatest rate is one

pub greatest_reaches : (t low : ℕ) → HighRateExists t low → reaches t low greatest_multiplier ≡ true
greatest_reaches t low (w, r, passes) =
    let of-w = multiplier_of w r in
    reaches_rises t low of-w.m greatest_multiplier of-w.greatest (at-least→reaches t of-w.m low (rw of-w.is_rate at passes))

pub exists_by : (t low : ℕ) → reaches t low greatest_multiplier ≡ true → HighRateExists t low
exists_by t low h = (pos 100_000, rate_in_range greatest_multiplier (omega arith) (omega arith), reaches→at-least t greatest_multiplier low h)

-- by whether the greatest rate is one
abbrev rated : ℕ → Pair → Bool → Outcome SignedPair
rated t band reached = demand reached no_high_rate >>= (λ _. done (rates_of t band))

-- the rates of the rule where there is a high one
pub zero_rates_lem : (t : ℕ) (band : Pair) → 1 ≤ t → band.high ≤ 2_000_000_000 → HighRateExists t band.low →
    (zero_rates t band ≡ done (rates_of t band)) × BandRates t band (rates_of t band)
zero_rates_lem t band h k exists =
    let reached = greatest_reaches t band.low exists in
    (ap (rated t band) reached, record { low_rate = low_rate_largest t band.high h k; high_rate = high_rate_smallest t band.low reached })

-- and 17 exactly where there is none
pub no_rate : (t : ℕ) (band : Pair) → (zero_rates t band ≡ refused no_high_rate) ↔ (HighRateExists t band.low → ⊥)
no_rate t band = by_test (reaches t band.low greatest_multiplier) refl
  where
    by_test : (b : Bool) → reaches t band.low greatest_multiplier ≡ b →
        (zero_rates t band ≡ refused no_high_rate) ↔ (HighRateExists t band.low → ⊥)
    by_test true e =
        (λ r. absurd (refused_not_done (sym r ∙ ap (rated t band) e)), λ none. absurd (none (exists_by t band.low e)))
    by_test false e = (λ r exists. absurd (both (greatest_reaches t band.low exists) e), λ none. ap (rated t band) e)
      where
        both : {b : Bool} → b ≡ true → b ≡ false → ⊥
        both p q = let z : ◌≡◌ {A = ℕ} 0 1 = cc in omega arith

-- ---- the low rate is not above the high one

-- what reaches with the smaller factor is not below what stays below with the larger one
stays_before_reaches : (t low high m k : ℕ) → 1 ≤ t → low ≤ high → stays_below t high m ≡ true → reaches t low k ≡ true → m ≤ k
unfolding stays_below reaches
stays_before_reaches zero low high m k h ordered stays reached = absurd (omega arith)
stays_before_reaches (suc t) low zero m k h ordered stays reached =
    let none = mul-le-mul_right (compound false k (suc t)) ordered in
    absurd (omega (arith, leb-true (U * U) (low * compound false k (suc t)) reached))
stays_before_reaches (suc t) low (suc high) m k h ordered stays reached =
    let wider = mul-le-mul_right (compound false k (suc t)) ordered in
    let past : k < m → ⊥ = λ l.
    let higher = mul-lt-mul_of_pos_left {k = suc high} (compound_strict l t) (omega arith) in
    omega (arith, leb-true (suc high * compound true m (suc t)) (U * U) stays, leb-true (U * U) (low * compound false k (suc t)) reached) in
    omega (arith, past)

pub rates_ordered : (t : ℕ) (band : Pair) (r : SignedPair) → 1 ≤ t → band.low ≤ band.high → BandRates t band r → r.low ≤ℤ r.high
rates_ordered t band r h ordered rates =
    let low = multiplier_of r.low rates.low_rate.in_range in
    let high = multiplier_of r.high rates.high_rate.in_range in
    rw (low.is_rate, high.is_rate) (rate_mono low.m high.m
    (stays_before_reaches t band.low band.high low.m high.m h ordered
    (at-most→stays t low.m band.high (rw low.is_rate at rates.low_rate.passes))
    (at-least→reaches t high.m band.low (rw high.is_rate at rates.high_rate.passes))))

-- ---- the own rate of a factor that the band holds

pub rates_between : (t : ℕ) (band : Pair) (r : SignedPair) (v : ℚ) →
    BandRates t band r → Encloses (pos band.low) (pos band.high) v → RateBetween t r v
unfolding stays_below reaches
rates_between t band r v rates holds =
    let low = multiplier_of r.low rates.low_rate.in_range in
    let high = multiplier_of r.high rates.high_rate.in_range in
    record {
      at_low = rw low.is_rate (at_low low.m (at-most→stays t low.m band.high (rw low.is_rate at rates.low_rate.passes)));
      at_high = rw high.is_rate (at_high high.m (at-least→reaches t high.m band.low (rw high.is_rate at rates.high_rate.passes)));
    }
  where
    product : (m : ℕ) → Encloses (pos (band.low * compound false m t)) (pos (band.high * compound true m t)) (v *ℚ exact_growth (rate_of m) t)
    product m = encloses_product holds (growth_enclosed m (rate_of m) (multiplier_is m) t)

    at_low : (m : ℕ) → stays_below t band.high m ≡ true → v *ℚ exact_growth (rate_of m) t ≤ℚ nat_ℚ 1_000_000_000_000_000_000
    at_low m h = ≤ℚ-trans (nat_above (product m)) (nat_ℚ_mono (leb-true _ _ h))

    at_high : (m : ℕ) → reaches t band.low m ≡ true → nat_ℚ 1_000_000_000_000_000_000 ≤ℚ v *ℚ exact_growth (rate_of m) t
    at_high m h = ≤ℚ-trans (nat_ℚ_mono (leb-true _ _ h)) (nat_below (product m))
