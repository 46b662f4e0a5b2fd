-- What `curves_of` comes to, test by test, with the years in two arrays.
use mathlib.Core.Path.{◌≡◌, refl, ap, sym, ◌∙◌}
use mathlib.Core.Bool.{Bool, true, false}
use mathlib.Core.List.{List, map}
use Prim.Native.Nat.{ℕ, ◌+◌, ◌-◌}
use lib.Dec.{eqb}
use lib.ListN.{length, take, drop, take-append-drop}
use Rattle.fraction.specs.Rounding.{U}
use Rattle.method.specs.Units.{Pair, pair, pairs_of, SignedPair}
use Rattle.method.specs.Grounds.{Ground, band_too_wide, Outcome, refused, done, ◌>>=◌, demand}
use Rattle.method.specs.Sheet.{smoothing_index, smoothing_year, Numbers}
use Rattle.method.specs.Quotes.{Bootstrap, bootstrap, last_year}
use Rattle.method.specs.Series.{gap_forward, ultimate_forward}
use Rattle.method.specs.Extrapolation.{llfr, weights, extrapolate, adjusted_years, first_raised, first_too_wide}
use Rattle.method.specs.Curve as method
use Rattle.method.specs.Curve.{Curve, none, some, Curves, used_by, used_quotes, spread, gap_xs, liquid_of, forwards, factor_of}
use Rattle.method.specs.Curve.{within_limit, extended_with, curve_of_with, adjusted_curve_with, curves_of_with, curves_of}
use Rattle.method.proofs.Outcome.{bind_assoc, bind_done, done_injective, refused_not_done}
use Rattle.method.proofs.Zips.{zip_left, zip_right}
use Rattle.curve.specs.Curves.{stretched, banded, curve_from, adjusted_from, adjusted_if, curves_from}

-- the curve of two arrays, under a sheet's month and limit
abbrev pub curve_with : Numbers → List ℕ → List ℕ → Curve
curve_with n lows highs = record { month = n.month; limit = n.limit; lows = lows; highs = highs }

-- ---- one curve, from the years to the smoothing year and LLFR

module _ (n : Numbers) (f : SignedPair) (quoted : List Pair) where
  abbrev year : ℕ
  year = smoothing_year n.profile

  abbrev pub later_from : Outcome (List Pair)
  later_from = extrapolate (ultimate_forward n.ultimate) f (weights (factor_of n) (150 - year)) (year + 1) (last_year quoted)

  module _ (to-year : length quoted ≡ smoothing_year n.profile) where
    pub later_refused : {g : Ground} → later_from ≡ refused g → curve_from n f quoted ≡ refused g
    unfolding extended_with
    later_refused e = rw (to-year, e)

    pub years_banded : (lows highs : List ℕ) → length lows ≡ length highs → take year (pairs_of lows highs) ≡ quoted →
        later_from ≡ done (drop year (pairs_of lows highs)) → curve_from n f quoted ≡ banded (curve_with n lows highs)
    unfolding extended_with within_limit
    years_banded lows highs same first later =
        let low = zip_left pair (λ p. p.low) (λ l h. refl) lows highs same in
        let high = zip_right pair (λ p. p.high) (λ l h. refl) lows highs same in
        let wide = first_too_wide n.limit 1 (pairs_of lows highs) in
        let made = bind_assoc (demand (eqb wide 0) (band_too_wide wide)) (λ _. done (pairs_of lows highs)) (λ years. done (method.curve_with n years)) in
        rw (to-year, later, ← first, take-append-drop year (pairs_of lows highs)) (made ∙ rw (low, high))

-- ---- the adjusted one, from the years that are adjusted

module _ (n : Numbers) (gs : List SignedPair) (quoted : List Pair) where
  pub years_refused : {g : Ground} → adjusted_years n.adjustment 1 quoted ≡ refused g → adjusted_from n gs quoted ≡ refused g
  years_refused e = rw e

  pub years_adjusted : {lowered : List Pair} → adjusted_years n.adjustment 1 quoted ≡ done lowered →
      adjusted_from n gs quoted ≡ curve_from n (llfr n.volumes (first_raised n.adjustment gs)) lowered
  years_adjusted e = rw e

-- ---- the liquid part, from the quotes and the x of the gaps

module _ (n : Numbers) {a : Bootstrap} (d : bootstrap (used_quotes n) ≡ done a) where
  abbrev pub spread_over : List Pair → List Pair
  spread_over xs = spread (pair U U) (drop (smoothing_index n.profile) (used_by n)) xs

  pub liquid_done : {xs : List Pair} → gap_xs n.profile a ≡ done xs →
      liquid_of n ≡ done (record { factors = take (smoothing_year n.profile) a.factors; yearly_factors = spread_over xs })
  unfolding liquid_of
  liquid_done e = rw (d, e)

  pub stretched_done : {xs : List Pair} → gap_xs n.profile a ≡ done xs → stretched n ≡ done (map gap_forward (spread_over xs))
  stretched_done e = rw (liquid_done e)

  pub stretched_refused : {g : Ground} → gap_xs n.profile a ≡ refused g → stretched n ≡ refused g
  unfolding liquid_of
  stretched_refused e = rw (d, e)

  -- its years are the quotes'
  pub liquid_years : {b : Bootstrap} → liquid_of n ≡ done b → b.factors ≡ take (smoothing_year n.profile) a.factors
  unfolding liquid_of
  liquid_years e =
      let boot = bind_done (bootstrap (used_quotes n)) _ e in
      let gaps = bind_done (gap_xs n.profile boot.0) _ boot.2 in
      ap (λ (b : Bootstrap). b.factors) (sym (done_injective gaps.2))
      ∙ ap (λ (b : Bootstrap). take (smoothing_year n.profile) b.factors) (done_injective (sym boot.1 ∙ d))

-- ---- both

left_refused : {g : Ground} (o : Outcome Bootstrap) → (o >>= λ b. done (forwards b)) ≡ refused g → o ≡ refused g
left_refused (refused r) e = cc
left_refused (done b) e = absurd (refused_not_done (sym e))

module _ (n : Numbers) where
  pub quotes_refused : {g : Ground} → bootstrap (used_quotes n) ≡ refused g → curves_of n ≡ refused g
  unfolding curves_of_with curve_of_with liquid_of
  quotes_refused e = rw e

  -- 9 on the stretches
  pub forwards_refused : {g : Ground} → stretched n ≡ refused g → curves_of n ≡ refused g
  unfolding curves_of_with curve_of_with
  forwards_refused e = rw (left_refused (liquid_of n) e)

  -- the liquid part is the same for both
  pub curves_from_lem : (b : Bootstrap) → liquid_of n ≡ done b → curves_of n ≡ curves_from n (forwards b) b.factors
  unfolding curves_of_with curve_of_with adjusted_curve_with
  curves_from_lem b d = rw (d, same n.adjusts)
    where
      same : (t : Bool) → method.adjusted_if t n ≡ adjusted_if t n (forwards b) b.factors
      same true = rw d
      same false = refl
