-- SPECIFICATION 7.1: what is promised of a year's zero rates. Written from the rule itself, in whole numbers of either sign and in
-- fractions, beside the search for them and not by it.
use Rattle.std.specs.Prelude.{ℕ, zero, suc, Bool, true, false, ℤ, pos, negsuc, ◌+ℤ◌, ◌*ℤ◌, ◌≤ℤ◌}
use Rattle.fraction.specs.Fraction.{ℚ, ◌≤ℚ◌, nat_ℚ, int_ℚ, ◌+ℚ◌, ◌*ℚ◌, ◌÷◌, pow_ℚ}
use Rattle.fraction.specs.Rounding.{round_ℤ}
use Rattle.method.specs.Units.{Pair, SignedPair}

-- ---- growth at rate z over t years

-- it starts at U and is t times multiplied by (100,000 + z) / 100,000, each step rounded up, or down
unfoldable pub grown : Bool → ℤ → ℕ → ℤ
grown up z zero = pos 1_000_000_000
grown up z (suc t) = round_ℤ up (grown up z t *ℤ (pos 100_000 +ℤ z)) 100_000

-- without rounding
unfoldable pub exact_growth : ℤ → ℕ → ℚ
exact_growth z t = nat_ℚ 1_000_000_000 *ℚ pow_ℚ ((nat_ℚ 100_000 +ℚ int_ℚ z) ÷ nat_ℚ 100_000) t

-- ---- the rates of a band

-- whole, from -50,000 to 100,000
pub record InRange (z : ℤ) : Type 0 where
  pub from : negsuc 49_999 ≤ℤ z
  pub to : z ≤ℤ pos 100_000

-- high × growth, rounded up, at most U × U
abbrev pub AtMost : ℕ → ℕ → ℤ → Type 0
AtMost t high z = (pos high *ℤ grown true z t) ≤ℤ pos 1_000_000_000_000_000_000

-- low × growth, rounded down, at least U × U
abbrev pub AtLeast : ℕ → ℕ → ℤ → Type 0
AtLeast t low z = pos 1_000_000_000_000_000_000 ≤ℤ (pos low *ℤ grown false z t)

-- in the range, it passes, and none that passes lies beyond
pub record Largest (Passes : ℤ → Type 0) (z : ℤ) : Type 0 where
  pub in_range : InRange z
  pub passes : Passes z
  pub none_above : (w : ℤ) → InRange w → Passes w → w ≤ℤ z

pub record Smallest (Passes : ℤ → Type 0) (z : ℤ) : Type 0 where
  pub in_range : InRange z
  pub passes : Passes z
  pub none_below : (w : ℤ) → InRange w → Passes w → z ≤ℤ w

pub record BandRates (t : ℕ) (band : Pair) (r : SignedPair) : Type 0 where
  pub low_rate : Largest (AtMost t band.high) r.low
  pub high_rate : Smallest (AtLeast t band.low) r.high

-- some rate up to 100,000 is high enough
abbrev pub HighRateExists : ℕ → ℕ → Type 0
HighRateExists t low = (z : ℤ) × InRange z × AtLeast t low z

-- ---- the own rate of a factor v lies between them: v × growth is at most U × U at the low rate, at least U × U at the high one

pub record RateBetween (t : ℕ) (r : SignedPair) (v : ℚ) : Type 0 where
  pub at_low : v *ℚ exact_growth r.low t ≤ℚ nat_ℚ 1_000_000_000_000_000_000
  pub at_high : nat_ℚ 1_000_000_000_000_000_000 ≤ℚ v *ℚ exact_growth r.high t
