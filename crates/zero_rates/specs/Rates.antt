-- SPECIFICATION 7.1: the annual zero rates of a year's low and high factor, with ground 17.
use Rattle.std.specs.Prelude.{Bool, true, false, not, ℕ, zero, suc, ◌*◌, ◌-◌, leb, ℤ, pos, ◌-ℤ◌}
use Rattle.fraction.specs.Rounding.{U, round_ℕ}
use Rattle.method.specs.Units.{Pair, SignedPair, signed_pair, rate_unit}
use Rattle.method.specs.Grounds.{no_high_rate, Outcome, done, ◌>>=◌, demand}
use Rattle.method.specs.Quotes.{halve}

-- ---- a rate z by its multiplier, 100,000 + z, which has no sign: from 50,000 to 200,000 for z from -50,000 to 100,000

abbrev pub least_multiplier : ℕ
least_multiplier = 50_000

abbrev pub greatest_multiplier : ℕ
greatest_multiplier = 200_000

abbrev pub rate_of : ℕ → ℤ
rate_of m = pos m -ℤ pos rate_unit

-- ---- growth over t years: it starts at U and is t times multiplied by m / 100,000, each step rounded up, or down

unfoldable pub compound : Bool → ℕ → ℕ → ℕ
compound up m zero = U
compound up m (suc t) = round_ℕ up (compound up m t * m) rate_unit

-- high × growth, rounded up, is at most U × U
unfoldable pub stays_below : ℕ → ℕ → ℕ → Bool
stays_below t high m = leb (high * compound true m t) (U * U)

-- low × growth, rounded down, is at least U × U
unfoldable pub reaches : ℕ → ℕ → ℕ → Bool
reaches t low m = leb (U * U) (low * compound false m t)

-- ---- the rates, by the halving of the gaps

-- one outside the range at either end: it stands for "none passes", and is not tried
abbrev pub past_range : ℕ
past_range = suc greatest_multiplier

abbrev pub before_range : ℕ
before_range = least_multiplier - 1

-- the largest that stays below
unfoldable pub low_multiplier : ℕ → ℕ → ℕ
low_multiplier t high = (halve (stays_below t high) (past_range - least_multiplier) least_multiplier past_range).low

-- the smallest that reaches
unfoldable pub high_multiplier : ℕ → ℕ → ℕ
high_multiplier t low = (halve (λ m. not (reaches t low m)) (greatest_multiplier - before_range) before_range greatest_multiplier).high

abbrev pub rates_of : ℕ → Pair → SignedPair
rates_of t p = signed_pair (rate_of (low_multiplier t p.high)) (rate_of (high_multiplier t p.low))

-- 17 where the greatest does not reach, and so none does
abbrev pub zero_rates : ℕ → Pair → Outcome SignedPair
zero_rates t p = do
  _ ← demand (reaches t p.low greatest_multiplier) no_high_rate
  done (rates_of t p)
