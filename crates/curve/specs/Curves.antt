-- The declared curves as the method's, and what the functions between the quotes and the curves cite of `curves_of`.
use Rattle.std.specs.Prelude.{◌≡◌, Bool, true, false, List, ◌++◌, ℕ, zero, suc, ◌-◌, ◌<◌, eqb, take, drop, replicate, Option}
use Rattle.std.specs.declared.option.Option.TheVariants.{Some, None}
use Rattle.method.specs.Units.{Pair, SignedPair, pairs_of}
use Rattle.method.specs.Grounds.{band_too_wide, Outcome, done, ◌>>=◌, demand}
use Rattle.method.specs.Sheet.{volume_count, smoothing_year, Numbers}
use Rattle.method.specs.Quotes.{Bootstrap, bootstrap}
use Rattle.method.specs.Series.{ultimate_forward}
use Rattle.method.specs.Extrapolation.{llfr, weights, adjusted_years, first_raised, first_too_wide}
use Rattle.method.specs.Curve as method
use Rattle.method.specs.Curve.{Held, none, some, used_quotes, liquid_of, forwards, factor_of, extended, curve_with}
use Rattle.method.specs.Ranges.{logarithm_bound}
use Rattle.rounding.specs.Pairs.{as_signed_pair}
use Rattle.rounding.specs.Pairs as code
use Rattle.bootstrap.specs.declared.Liquid.{Liquid}
use Rattle.bootstrap.specs.Liquids.{as_bootstrap}
use Rattle.extrapolation.specs.Extrapolated.{Forwards}
use Rattle.extrapolation.specs.Extrapolated.{Years}
use Rattle.extrapolation.specs.Extrapolated.{as_forwards, as_years, factor_at, ForwardSizes, InRange, Usable, Ahead}
use Rattle.curve.specs.declared.Curve.{Curve}
use Rattle.curve.specs.declared.Curves.{Curves}

abbrev pub as_curve : Curve → method.Curve
as_curve c = record { month = c.month; limit = c.limit; lows = c.years.lows; highs = c.years.highs }

abbrev pub as_held : Option Curve → Held method.Curve
as_held (Some c) = some (as_curve c)
as_held None = none

abbrev pub as_curves : Curves → method.Curves
as_curves cs = record { plain = as_curve cs.plain; adjusted = as_held cs.adjusted }

-- ---- the steps of `curves_of`

-- the years to the smoothing year, and zeros
abbrev pub first_years : ℕ → List ℕ → List ℕ
first_years year xs = take year xs ++ drop year (replicate 150 0)

abbrev pub quoted_in : Numbers → Years → List Pair
quoted_in n y = take (smoothing_year n.profile) (as_years y)

-- as many forwards as the market has volumes
abbrev pub forwards_in : Numbers → Forwards → List SignedPair
forwards_in n g = take (volume_count n.profile) (as_forwards g)

-- those of the stretches, or 9
abbrev pub stretched : Numbers → Outcome (List SignedPair)
stretched n = liquid_of n >>= λ b. done (forwards b)

-- a curve from the years to the smoothing year and LLFR
abbrev pub curve_from : Numbers → SignedPair → List Pair → Outcome method.Curve
curve_from n f quoted = extended n f quoted >>= λ years. done (curve_with n years)

-- the adjusted one, from the plain one's years and forwards
abbrev pub adjusted_from : Numbers → List SignedPair → List Pair → Outcome method.Curve
adjusted_from n gs quoted = do
  lowered ← adjusted_years n.adjustment 1 quoted
  curve_from n (llfr n.volumes (first_raised n.adjustment gs)) lowered

abbrev pub adjusted_if : Bool → Numbers → List SignedPair → List Pair → Outcome (Held method.Curve)
adjusted_if true n gs quoted = adjusted_from n gs quoted >>= λ c. done (some c)
adjusted_if false n gs quoted = done none

-- both
abbrev pub curves_from : Numbers → List SignedPair → List Pair → Outcome method.Curves
curves_from n gs quoted = do
  c ← curve_from n (llfr n.volumes gs) quoted
  a ← adjusted_if n.adjusts n gs quoted
  done (record { plain = c; adjusted = a })

-- from what the code has: the forwards in their array, the years in theirs
abbrev pub adjusted_over : Numbers → Forwards → Years → Outcome method.Curve
adjusted_over n g y = adjusted_from n (forwards_in n g) (quoted_in n y)

abbrev pub curves_over : Numbers → Forwards → Years → Outcome method.Curves
curves_over n g y = curves_from n (forwards_in n g) (quoted_in n y)

-- ground 10
abbrev pub banded : method.Curve → Outcome method.Curve
banded c = do
  let wide = first_too_wide c.limit 1 (pairs_of c.lows c.highs)
  _ ← demand (eqb wide 0) (band_too_wide wide)
  done c

-- a year, or 0 where there is none
abbrev pub year_or_none : ℕ → Option ℕ
year_or_none zero = None
year_or_none (suc y) = Some (suc y)

-- ---- what they ask

-- the quotes that a sheet's numbers leave, none refused
pub record WorkedQuotes (n : Numbers) (q : Liquid) : Type 0 where
  pub worked : bootstrap (used_quotes n) ≡ done (as_bootstrap q)

-- L and κ are the sheet's, and κ has a pair for each year after the smoothing year
pub record Onward (n : Numbers) (l : code.SignedPair) (κs : List Pair) : Type 0 where
  pub ultimate : as_signed_pair l ≡ ultimate_forward n.ultimate
  pub usable : Usable l
  pub ahead : Ahead κs (smoothing_year n.profile)
  pub pairs : κs ≡ weights (factor_of n) (150 - smoothing_year n.profile)

-- a forward and the last of the years to the smoothing year
pub record Extending (n : Numbers) (f : code.SignedPair) (years : Years) : Type 0 where
  pub usable : Usable f
  pub last : InRange (factor_at years (smoothing_year n.profile - 1))

-- the forwards are those of quotes that were worked, whose years to the smoothing year passed
pub record Ready (n : Numbers) (g : Forwards) (years : Years) : Type 0 where
  pub quotes : Bootstrap
  pub worked : liquid_of n ≡ done quotes
  pub forwards : forwards_in n g ≡ forwards quotes
  pub sizes : ForwardSizes logarithm_bound g
  pub in_range : (i : ℕ) → i < smoothing_year n.profile → InRange (factor_at years i)
