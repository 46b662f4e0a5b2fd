-- What the contracts cite beside the definitions of the crate method.
use Rattle.std.specs.Prelude.{◌≡◌, Bool, true, false, not, ℕ, suc, ◌+◌, ◌-◌, ◌≤◌, ◌<◌, ℤ, pos, negsuc, length, get_or, take, drop, ◌≤ℤ◌, Result}
use mathlib.Core.List.{List, map}
use Rattle.fraction.specs.Rounding.{U}
use Rattle.method.specs.Units as method
use Rattle.method.specs.Units.{pair, pairs_of}
use Rattle.method.specs.Quotes.{highest_factor}
use Rattle.method.specs.Ranges.{forward_bound, growth_bound}
use Rattle.method.specs.Extrapolation.{smaller, larger, step_low, step_high, extrapolate}
use Rattle.series.specs.Sides.{growth_by}
use Rattle.rounding.specs.Pairs.{as_signed_pair, SizeAtMost}
use Rattle.rounding.specs.Pairs.{SignedPair}
use Rattle.grounds.specs.declared.Ground.{Ground}
use Rattle.grounds.specs.Answers.{outcome_of}
use Rattle.rounding.specs.declared.Pairs.{Pairs}

-- ---- the declared types, as the definitions have them

abbrev pub Forwards : Type 0
Forwards = List SignedPair

abbrev pub Years : Type 0
Years = Pairs ℕ 150

abbrev pub as_forwards : Forwards → List method.SignedPair
as_forwards g = map as_signed_pair g

abbrev pub as_years : Years → List method.Pair
as_years y = pairs_of y.lows y.highs

-- the years from an index on
abbrev pub later_years : ℕ → Years → List method.Pair
later_years start y = drop start (as_years y)

abbrev pub factor_at : Years → ℕ → method.Pair
factor_at y i = pair (get_or y.lows i 0) (get_or y.highs i 0)

-- ---- an end by its side: the high with `true`, the low with `false`

abbrev pub signed_end : Bool → SignedPair → ℤ
signed_end true f = f.high
signed_end false f = f.low

-- the larger of two, or the smaller
abbrev pub outer : Bool → ℤ → ℤ → ℤ
outer true = larger
outer false = smaller

abbrev pub step_by : Bool → ℤ → ℕ → ℕ
step_by true = step_high
step_by false = step_low

-- E at a forward's size, of the side that a step takes: its own below 0, where it multiplies, and the other from 0 up, where it divides
abbrev pub growth_at : Bool → ℤ → ℕ
growth_at up (pos f) = growth_by (not up) f
growth_at up (negsuc f) = growth_by up (suc f)

pub record GrowthFor (up : Bool) (f : ℤ) (g : ℕ) : Type 0 where
  pub is : g ≡ growth_at up f
  pub least : U ≤ g
  pub most : g ≤ growth_bound

-- ---- ranges

-- the factors that a step takes: some above ground 8, which is tried after all steps of an adjusted year
abbrev pub step_range : ℕ
step_range = 2_500_000_000

-- SPECIFICATION 2: a traded volume's range
abbrev pub volume_bound : ℕ
volume_bound = 1_000_000

-- what stands past the end of an array of forwards
abbrev pub no_forward : SignedPair
no_forward = record { low = pos 0; high = pos 0 }

-- at every index
pub record ForwardSizes (M : ℕ) (g : Forwards) : Type 0 where
  pub sizes : (i : ℕ) → SizeAtMost M (get_or g i no_forward)

-- a factor that passes ground 8; an extrapolated low may be 0
pub record InRange (p : method.Pair) : Type 0 where
  pub ordered : p.low ≤ p.high
  pub at_most : p.high ≤ highest_factor

-- a forward that the years' steps take: its low is at most its high, so that no low outgrows the limit on highs
pub record Usable (f : SignedPair) : Type 0 where
  pub size : SizeAtMost forward_bound f
  pub ordered : f.low ≤ℤ f.high

-- a pair of κ: U × k(h) for a k up to 1
pub record WeightRange (κ : method.Pair) : Type 0 where
  pub ordered : κ.low ≤ κ.high
  pub at_most_U : κ.high ≤ U

-- κ's pairs, one for each year from an index on to 150
pub record Ahead (κs : List method.Pair) (start : ℕ) : Type 0 where
  pub started : 1 ≤ start
  pub to_150 : start + length κs ≡ 150
  pub ranges : (i : ℕ) → i < length κs → WeightRange (get_or κs i (pair 0 0))

-- ---- the years

-- the definition's, from the factor before them on
abbrev pub Extrapolates : SignedPair → SignedPair → List method.Pair → ℕ → Years → Result Years Ground → Type 0
Extrapolates l f κs start years r =
    outcome_of (later_years start) r ≡ extrapolate (as_signed_pair l) (as_signed_pair f) κs (start + 1) (factor_at years (start - 1))

-- the years to the start as they came, the worked ones in range
pub record Kept (start : ℕ) (years y : Years) : Type 0 where
  pub quoted_lows : take start y.lows ≡ take start years.lows
  pub quoted_highs : take start y.highs ≡ take start years.highs
  pub worked_in_range : (i : ℕ) → start ≤ i → i < 150 → InRange (factor_at y i)
