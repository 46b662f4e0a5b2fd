-- The answer of a sheet: the first ground among 19, 1 to 4 and 7 to 10 that applies, or its curves. (5 and 6 are the book's.)
use Rattle.std.specs.Prelude.{Bool, true, false, cond, ◌&&◌, List, [], ◌∷◌, ◌++◌, map, ℕ, ◌+◌, ◌*◌, ◌-◌, ◌/◌, eqb, leb, pos, length, take, drop, get_or}
use Rattle.fraction.specs.Rounding.{U, ceil_div}
use Rattle.method.specs.Units.{Which, plain, adjusted, Pair, pair, SignedPair}
use Rattle.method.specs.Grounds.{end_fails_test, band_too_wide, Outcome, done, ◌>>=◌, demand}
use Rattle.method.specs.Sheet.{Profile, smoothing_index, quoted_maturities, smoothing_year, Numbers, read_sheet}
use Rattle.method.specs.Quotes.{lower_end, upper_end, Bootstrap, used, kept, Quote, bootstrap, quotes_of, last_year}
use Rattle.method.specs.Series.{gap_forward_with, ultimate_forward_with}
use Rattle.method.specs.Extrapolation.{llfr, convergence_factor, weights, extrapolate_with, adjusted_years_with, first_raised, first_too_wide}

pub record Curve : Type 0 where
  pub month : ℕ
  pub limit : ℕ
  pub lows : List ℕ
  pub highs : List ℕ

-- the years that a curve has
abbrev pub year_inside : ℕ → Bool
year_inside y = leb 1 y && leb y 150

-- what may be there, or not
pub data Held (A : Type 0) : Type 0 where
  none : Held A
  some : A → Held A

-- of one sheet: the plain curve, and the adjusted one where the sheet has an adjustment
pub record Curves : Type 0 where
  pub plain : Curve
  pub adjusted : Held Curve

abbrev pub curve_named : Which → Curves → Held Curve
curve_named plain cs = some cs.plain
curve_named adjusted cs = cs.adjusted

-- ---- the liquid part

-- which quotes a sheet's volumes leave
abbrev pub used_by : Numbers → List Bool
used_by n = used (smoothing_index n.profile) n.volumes

abbrev pub used_quotes : Numbers → List Quote
used_quotes n = kept (used_by n) (quotes_of (quoted_maturities n.profile) n.rates)

-- Each stretch between two maturities, from the one that ends with the smoothing year on, lies in one used gap, and has its x: from one to
-- the next the gaps step on where the quote between them is used. Past the last used quote there is no gap and no volume, and so no weight
-- on what stands there.
unfoldable pub spread : {A : Type 0} → A → List Bool → List A → List A
spread d [] xs = []
spread d (u ∷ us) [] = d ∷ spread d us []
spread d (u ∷ us) (x ∷ xs) = x ∷ spread d us (cond u xs (x ∷ xs))

-- the years 1 to 10 are all quoted, and no gap ends with them
abbrev pub yearly_quotes : ℕ
yearly_quotes = 10

abbrev pub no_year : Pair
no_year = pair 0 0

-- the factor of year t over that of the year before, rounded outward
unfoldable pub year_over : List Pair → ℕ → Pair
year_over ps t =
    let last = get_or ps (t - 1) no_year in
    let before = get_or ps (t - 2) no_year in
    pair (last.low * U / before.high) (ceil_div (last.high * U) before.low)

-- the x of the used gaps from the smoothing year's on. Where no gap ends with it, x is its factor over that of the year before, and must
-- lie within the halving's ends: 9
unfoldable pub gap_xs : Profile → Bootstrap → Outcome (List Pair)
gap_xs p b =
    let i = smoothing_index p in
    let year = smoothing_year p in
    let x = year_over b.factors year in
    let own = demand (leb lower_end x.low && leb x.high upper_end) (end_fails_test year) >>= λ _. done (x ∷ []) in
    cond (leb yearly_quotes i) (done (drop (i - yearly_quotes) b.yearly_factors)) own

-- grounds 7 to 9: the years to the smoothing year, and the x of the stretches
unfoldable pub liquid_of : Numbers → Outcome Bootstrap
liquid_of n = do
  b ← bootstrap (used_quotes n)
  xs ← gap_xs n.profile b
  done
      (record {
        factors = take (smoothing_year n.profile) b.factors;
        yearly_factors = spread (pair U U) (drop (smoothing_index n.profile) (used_by n)) xs;
      })

-- ---- the curves. `slack` is what a known logarithm or growth gains (Series)

-- g1, and on to g5 for the euro: the stretches' forwards
abbrev pub forwards_with : ℕ → Bootstrap → List SignedPair
forwards_with slack b = map (gap_forward_with slack) b.yearly_factors

-- the sheet's convergence factor
unfoldable pub factor_of : Numbers → ℕ
factor_of n = convergence_factor n.phase_in (get_or n.rates (smoothing_index n.profile) (pos 0))

-- ground 10, after all years are worked
unfoldable pub within_limit : ℕ → List Pair → Outcome (List Pair)
within_limit limit years = do
  let wide = first_too_wide limit 1 years
  _ ← demand (eqb wide 0) (band_too_wide wide)
  done years

-- from the quoted years and LLFR: the years to 150, with grounds 8 and 10
unfoldable pub extended_with : ℕ → Numbers → SignedPair → List Pair → Outcome (List Pair)
extended_with slack n f quoted = do
  let κs = weights (factor_of n) (150 - length quoted)
  later ← extrapolate_with slack (ultimate_forward_with slack n.ultimate) f κs (length quoted + 1) (last_year quoted)
  within_limit n.limit (quoted ++ later)

abbrev pub curve_with : Numbers → List Pair → Curve
curve_with n years = record { month = n.month; limit = n.limit; lows = map (λ p. p.low) years; highs = map (λ p. p.high) years }

-- grounds 7 to 10 on the plain curve
unfoldable pub curve_of_with : ℕ → Numbers → Outcome Curve
curve_of_with slack n = do
  b ← liquid_of n
  years ← extended_with slack n (llfr n.volumes (forwards_with slack b)) b.factors
  done (curve_with n years)

-- then 8 and 10 on the adjusted one: the same quotes, with the adjustment in the years to the smoothing year and in g1
unfoldable pub adjusted_curve_with : ℕ → Numbers → Outcome Curve
adjusted_curve_with slack n = do
  b ← liquid_of n
  quoted ← adjusted_years_with slack n.adjustment 1 b.factors
  years ← extended_with slack n (llfr n.volumes (first_raised n.adjustment (forwards_with slack b))) quoted
  done (curve_with n years)

-- where the sheet has an adjustment
abbrev pub adjusted_if_with : ℕ → Bool → Numbers → Outcome (Held Curve)
adjusted_if_with slack true n = adjusted_curve_with slack n >>= λ c. done (some c)
adjusted_if_with slack false n = done none

unfoldable pub curves_of_with : ℕ → Numbers → Outcome Curves
curves_of_with slack n = do
  c ← curve_of_with slack n
  a ← adjusted_if_with slack n.adjusts n
  done (record { plain = c; adjusted = a })

unfoldable pub answer_with : ℕ → List ℕ → Outcome Curves
answer_with slack s = read_sheet s >>= curves_of_with slack

-- ---- at present: no slack

abbrev pub forwards : Bootstrap → List SignedPair
forwards = forwards_with 0

abbrev pub extended : Numbers → SignedPair → List Pair → Outcome (List Pair)
extended = extended_with 0

abbrev pub curve_of : Numbers → Outcome Curve
curve_of = curve_of_with 0

abbrev pub adjusted_curve : Numbers → Outcome Curve
adjusted_curve = adjusted_curve_with 0

abbrev pub adjusted_if : Bool → Numbers → Outcome (Held Curve)
adjusted_if = adjusted_if_with 0

abbrev pub curves_of : Numbers → Outcome Curves
curves_of = curves_of_with 0

abbrev pub answer : List ℕ → Outcome Curves
answer = answer_with 0
