-- Curves as they were worked earlier. Two of them the present one is shown to be, digit for digit, where what came later is not asked
-- for (`proofs/Earlier`); inside the bands of the third it is shown to lie (`proofs/Inside`).
use Rattle.std.specs.Prelude.{◌≡◌, List, ◌++◌, map, ℕ, ◌+◌, ◌-◌, ◌≤◌, length, take, drop}
use Rattle.method.specs.Grounds.{Ground, wrong_length, wrong_record, out_of_range, no_volume, after_told_month, before_standing_curve, low_below_one}
use Rattle.method.specs.Grounds.{high_above_limit, end_fails_test, band_too_wide, month_above_last, month_before_told, year_outside, no_curve, buffer_too_short}
use Rattle.method.specs.Grounds.{age_above_limit, no_high_rate, no_post_left, unknown_profile, wrong_count, flow_year_outside, cents_above_limit, no_shift}
use Rattle.method.specs.Grounds.{Outcome, refused, done, ◌>>=◌}
use Rattle.method.specs.Sheet.{Numbers, maturities}
use Rattle.method.specs.Quotes.{bootstrap, quotes_of, last_year}
use Rattle.method.specs.Series.{gap_forward, ultimate_forward}
use Rattle.method.specs.Table.{table}
use Rattle.method.specs.Extrapolation.{llfr, κ_pairs, extrapolate}
use Rattle.method.specs.Units.{Which}
use Rattle.method.specs.Curve.{Curve, Held, Curves, curve_named, liquid_of, forwards, within_limit, extended, curve_with}
use Rattle.method.specs.Curve.{answer_with, answer}
use Rattle.method.specs.Enclosure.{low_of, high_of}

-- before the phase-in: the table's weights, whatever the sheet's factor is. A sheet whose factor is 10% has this curve (`at_ten_percent`),
-- and so has each of up to 109 bytes that names no profile (`earlier_answer_lem`).
unfoldable pub tabled_curve : Numbers → Outcome Curve
tabled_curve n = do
  b ← liquid_of n
  let κs = take (150 - length b.factors) (κ_pairs table)
  later ← extrapolate (ultimate_forward n.ultimate) (llfr n.volumes (forwards b)) κs (length b.factors + 1) (last_year b.factors)
  years ← within_limit n.limit (b.factors ++ later)
  done (curve_with n years)

-- before a volume of 0 dropped a quote: every quote of the euro is used, and g1 to g5 are the forwards of the last five of seven gaps. A
-- sheet whose volumes past 20 years are above 0 has this curve (`same_without_zeros`).
unfoldable pub every_quote_curve : Numbers → Outcome Curve
every_quote_curve n = do
  b ← bootstrap (quotes_of maturities n.rates)
  years ← extended n (llfr n.volumes (map gap_forward (drop 2 b.yearly_factors))) (take 20 b.factors)
  done (curve_with n years)

-- before U9, when a known logarithm or growth gained 1 like any other: slack 1
abbrev pub earlier_answer : List ℕ → Outcome Curves
earlier_answer = answer_with 1

-- ---- before the markets

-- no sheet had the profile's record. One that names the euro is read as the same one is without it (`also_without` of `proofs/Named`), but
-- its records stand one later: grounds 2 and 3 name a record one later, and every other ground is as it was.
abbrev pub one_on : Ground → Ground
one_on wrong_length = wrong_length
one_on (wrong_record i) = wrong_record (i + 1)
one_on (out_of_range i) = out_of_range (i + 1)
one_on no_volume = no_volume
one_on after_told_month = after_told_month
one_on before_standing_curve = before_standing_curve
one_on (low_below_one t) = low_below_one t
one_on (high_above_limit t) = high_above_limit t
one_on (end_fails_test t) = end_fails_test t
one_on (band_too_wide t) = band_too_wide t
one_on month_above_last = month_above_last
one_on month_before_told = month_before_told
one_on year_outside = year_outside
one_on no_curve = no_curve
one_on buffer_too_short = buffer_too_short
one_on age_above_limit = age_above_limit
one_on no_high_rate = no_high_rate
one_on no_post_left = no_post_left
one_on unknown_profile = unknown_profile
one_on wrong_count = wrong_count
one_on (flow_year_outside i) = flow_year_outside i
one_on (cents_above_limit i) = cents_above_limit i
one_on no_shift = no_shift

abbrev pub one_on_in : {A : Type 0} → Outcome A → Outcome A
one_on_in (refused g) = refused (one_on g)
one_on_in (done a) = done a

-- ---- bands that lie inside the earlier ones

-- every year's, under the same month and limit
pub record CurveInside (c earlier : Curve) : Type 0 where
  pub same_month : c.month ≡ earlier.month
  pub same_limit : c.limit ≡ earlier.limit
  pub low_inside : (t : ℕ) → low_of earlier t ≤ low_of c t
  pub high_inside : (t : ℕ) → high_of c t ≤ high_of earlier t

-- a curve on both sides, or on neither
pub data HeldInside : Held Curve → Held Curve → Type 0 where
  neither : HeldInside Held.none Held.none
  both : {c earlier : Curve} → CurveInside c earlier → HeldInside (Held.some c) (Held.some earlier)

-- the plain curve's and the adjusted one's
abbrev pub CurvesInside : Curves → Curves → Type 0
CurvesInside cs earlier = (w : Which) → HeldInside (curve_named w cs) (curve_named w earlier)

-- a sheet is accepted, with bands inside these
pub record AcceptedInside (s : List ℕ) (earlier : Curves) : Type 0 where
  pub curves : Curves
  pub accepted : answer s ≡ done curves
  pub inside : CurvesInside curves earlier
