-- The place of every refusal of a sheet is at most 150: a record of 28, a quoted year of 50, or a year of 150.
use mathlib.Core.Path.{◌≡◌, refl}
use mathlib.Core.Bool.{Bool, true, false, cond, ◌&&◌}
use mathlib.Core.List.{List, [], ◌∷◌, ◌++◌}
use Prim.Native.Nat.{ℕ, zero, suc, ◌+◌, ◌*◌, ◌-◌, ◌/◌, ◌≤◌, ◌<◌}
use native.Mathlib.Omega.{arith}
use lib.Dec.{eqb, leb, ltb}
use lib.IntN.{ℤ, pos}
use lib.ListN.{length, length-append, length-take}
use lib.Signed.{le_z}
use Rattle.fraction.specs.Rounding.{U, ceil_div}
use Rattle.method.specs.Units.{Pair, SignedPair}
use Rattle.method.specs.Grounds.{Ground, number_of, place_of, Outcome, refused, done, ◌>>=◌, demand}
use Rattle.method.specs.Grounds.{unknown_profile, wrong_length, wrong_record, out_of_range, no_volume, after_told_month, before_standing_curve, low_below_one}
use Rattle.method.specs.Grounds.{high_above_limit, end_fails_test, band_too_wide, month_above_last, month_before_told}
use Rattle.method.specs.Grounds.{year_outside, no_curve, buffer_too_short, age_above_limit, no_high_rate, no_post_left}
use Rattle.method.specs.Grounds.{wrong_count, flow_year_outside, cents_above_limit, no_shift}
use Rattle.method.specs.Sheet.{profile_known, layout_of, size_of, Slot, slots_of, first_failure, right_record}
use Rattle.method.specs.Sheet.{in_range, total, Numbers, sheet_numbers, read_sheet, Profile, euro, from_ten, from_fifteen, quoted_maturities, smoothing_year}
use Rattle.method.specs.Quotes.{lower_end, upper_end, annuity, par_low, par_high, trial, highest_factor}
use Rattle.method.specs.Quotes.{next_year, quoted_year, inside_years, Bootstrap, gap_years}
use Rattle.method.specs.Quotes.{Quote, par_year, years_to, bootstrap_from, quotes_of, bootstrap}
use Rattle.method.specs.Extrapolation.{weights, forward, step, extrapolate_with, extrapolate, steps, adjusted_years_with, adjusted_years, first_too_wide}
use Rattle.method.specs.Curve.{used_by, used_quotes, year_over, gap_xs, liquid_of, factor_of, within_limit, extended_with, extended, curve_of_with, curve_of}
use Rattle.method.specs.Curve.{adjusted_curve_with, adjusted_curve, adjusted_if, curves_of_with, curves_of, answer_with, answer}
use Rattle.method.specs.Ranges.{climbs}
use Rattle.method.proofs.Outcome.{bind_done, done_injective}
use Rattle.method.proofs.Markets.{smoothing_most}
use Rattle.method.proofs.QuotesLaws.{ends_pass, inside, years_cases}
use Rattle.method.proofs.QuotesBounds.{next_length, inside_length, climbs_more, climbs-within, years_length}
use Rattle.method.proofs.Used.{kept_quotes, used_maturities, used_climb}
use Rattle.method.proofs.Slots.{slots_most}
use Rattle.method.proofs.Weights.{weights_most}
use Rattle.method.proofs.Step.{extrapolate-length}
use Rattle.method.proofs.Adjusted.{both_ends, adjusted_length}

-- 0 where nothing was refused, so that a bound is one inequality
abbrev pub place : {A : Type 0} → Outcome A → ℕ
place (refused g) = place_of g
place (done a) = 0

-- ---- one test or one result after the other: the bound of each is the bound of all

pub bind_place : {A B : Type 0} {m : ℕ} (o : Outcome A) (f : A → Outcome B) →
    place o ≤ m → ((a : A) → o ≡ done a → place (f a) ≤ m) → place (o >>= f) ≤ m
bind_place (refused g) f h k = h
bind_place (done a) f h k = k a refl

pub demand_place : {B : Type 0} {m : ℕ} (b : Bool) (g : Ground) (f : Unit {0} → Outcome B) →
    place_of g ≤ m → place (f tt) ≤ m → place (demand b g >>= f) ≤ m
demand_place true g f h k = k
demand_place false g f h k = h

-- ---- the first in a list that fails a test, counted on from i, is at most the last

cond_most : {m : ℕ} (b : Bool) (x y : ℕ) → x ≤ m → y ≤ m → cond b x y ≤ m
cond_most true x y h k = h
cond_most false x y h k = k

failure_most : {m : ℕ} (p : Slot → Bool) (i : ℕ) (ts : List Slot) → i + length ts ≤ m + 1 → first_failure p i ts ≤ m
unfolding first_failure
failure_most p i [] h = omega arith
failure_most p i (t ∷ ts) h = cond_most (p t) _ i (failure_most p (suc i) ts (omega arith)) (omega arith)

wide_most : {m : ℕ} (limit year : ℕ) (ps : List Pair) → year + length ps ≤ m + 1 → first_too_wide limit year ps ≤ m
unfolding first_too_wide
wide_most limit year [] h = omega arith
wide_most limit year (p ∷ ps) h =
    cond_most (leb (p.high - p.low) limit) _ year (wide_most limit (year + 1) ps (omega arith)) (omega arith)

-- ---- grounds 19 and 1 to 4

pub read_place : (s : List ℕ) → place (read_sheet s) ≤ 28
unfolding read_sheet
read_place s =
    let slots = slots_of (layout_of s) in
    let first : (p : Slot → Bool) → first_failure p 1 slots ≤ 28 = λ p. failure_most p 1 slots (omega (arith, slots_most (layout_of s))) in
    demand_place (profile_known s) _ _ (omega arith)
    (demand_place (eqb (length s) (size_of (layout_of s))) _ _ (omega arith)
    (demand_place (eqb (first_failure (right_record s) 1 slots) 0) _ _ (first (right_record s))
    (demand_place (eqb (first_failure (in_range s) 1 slots) 0) _ _ (first (in_range s))
    (demand_place (ltb 0 (total (sheet_numbers s).volumes)) _ _ (omega arith) (omega arith)))))

-- ---- grounds 7, 8 and 9: no year is worked past the maturity of its quote

module _ {m : ℕ} where
  next_place : (ps : List Pair) (low high : ℤ) → length ps < m → place (next_year ps low high) ≤ m
  next_place ps low high h =
      demand_place (le_z (pos 1) low) _ _ (omega arith) (demand_place (le_z high (pos highest_factor)) _ _ (omega arith) (omega arith))

  quoted_place : (r : ℤ) (ps : List Pair) → length ps < m → place (quoted_year r ps) ≤ m
  unfolding quoted_year
  quoted_place r ps h = let a = annuity ps in next_place ps (par_low r a) (par_high r a) h

  inside_place : (f : ℕ → ℕ → ℕ) (x k t : ℕ) (highs : List ℕ) (ps : List Pair) → length ps + k ≤ m → place (inside_years (trial f t x k) highs ps) ≤ m
  unfolding inside_years trial
  inside_place f x zero t highs ps h = omega arith
  inside_place f x (suc k) t [] ps h = omega arith
  inside_place f x (suc k) t (u ∷ highs) ps h =
      let l = f (t * x) U in
      bind_place (next_year ps (pos l) (pos u)) _ (next_place ps (pos l) (pos u) (omega arith))
      λ qs e. inside_place f x k l highs qs (omega (arith, next_length ps (pos l) (pos u) e))

  gap_place : (k : ℕ) (r : ℤ) (b : Bootstrap) → 0 < k → length b.factors + k ≤ m → place (gap_years k r b) ≤ m
  unfolding gap_years
  gap_place k r b o h =
      demand_place (ends_pass k r b.factors) _ _ h
      (bind_place (inside k r b.factors) _ (inside_place ◌/◌ _ (k - 1) _ _ b.factors (omega arith))
      λ ps e. bind_place (quoted_year r ps) _ (quoted_place r ps (omega (arith, inside_length ◌/◌ ceil_div _ _ (k - 1) _ _ b.factors e)))
      λ qs d. omega arith)

  par_place : (r : ℤ) (b : Bootstrap) → length b.factors < m → place (par_year r b) ≤ m
  unfolding par_year
  par_place r b h = bind_place (quoted_year r b.factors) _ (quoted_place r b.factors h) λ qs d. omega arith

years_place : {m : ℕ} (q : Quote) (b : Bootstrap) → length b.factors < q.maturity → q.maturity ≤ m → place (years_to q b) ≤ m
years_place q b h l =
    years_cases q b
    (λ k next. rw next (par_place q.rate b (omega arith)))
    (λ k gap. rw gap (gap_place _ q.rate b (omega arith) (omega arith)))

-- the maturities climb to at most 50, however many of them have a rate
from_place : (ms : List ℕ) (rs : List ℤ) (b : Bootstrap) → climbs (length b.factors) (length b.yearly_factors) ms ≡ true →
    place (bootstrap_from (quotes_of ms rs) b) ≤ 50
unfolding bootstrap_from quotes_of
from_place [] rs b climb = omega arith
from_place (m ∷ ms) [] b climb = omega arith
from_place (m ∷ ms) (r ∷ rs) b climb =
    let q : Quote = record { maturity = m; rate = r } in
    let (rises, short, later) = climbs_more _ _ m ms climb in
    bind_place (years_to q b) _ (years_place q b rises (climbs-within m _ ms later).0)
    λ c e. let (years, gaps) = years_length q b rises e in from_place ms rs c (rw (years, gaps) later)

bootstrap_place : (n : Numbers) → place (bootstrap (used_quotes n)) ≤ 50
unfolding bootstrap
bootstrap_place n =
    rw (kept_quotes (used_by n) (quoted_maturities n.profile) n.rates)
    (from_place (used_maturities n.profile n.volumes) _ _ (used_climb n.volumes n.profile))

xs_place : (p : Profile) (b : Bootstrap) → place (gap_xs p b) ≤ 50
unfolding gap_xs
xs_place euro b = omega arith
xs_place from_ten b =
    let x = year_over b.factors (smoothing_year from_ten) in
    let ends = leb lower_end x.low && leb x.high upper_end in
    demand_place ends (end_fails_test (smoothing_year from_ten)) (λ _. done (x ∷ [])) (omega (arith, smoothing_most from_ten)) (omega arith)
xs_place from_fifteen b = omega arith

pub liquid_place : (n : Numbers) → place (liquid_of n) ≤ 50
unfolding liquid_of
liquid_place n =
    bind_place (bootstrap (used_quotes n)) _ (bootstrap_place n) λ b d. bind_place (gap_xs n.profile b) _ (xs_place n.profile b) λ xs e. omega arith

-- no more years than the smoothing year
liquid_short : (n : Numbers) {b : Bootstrap} → liquid_of n ≡ done b → length b.factors ≤ 20
unfolding liquid_of
liquid_short n e =
    let boot = bind_done (bootstrap (used_quotes n)) _ e in
    let gaps = bind_done (gap_xs n.profile boot.0) _ boot.2 in
    rw (← done_injective gaps.2, length-take) (omega (arith, smoothing_most n.profile))

-- ---- ground 8 past the smoothing year, and ground 10

extrapolate_place : {m : ℕ} (l f : SignedPair) (κs : List Pair) (year : ℕ) (p : Pair) → year + length κs ≤ m + 1 → place (extrapolate l f κs year p) ≤ m
unfolding extrapolate_with
extrapolate_place l f [] year p h = omega arith
extrapolate_place l f (κ ∷ κs) year p h =
    let next = step (forward l f κ) p in
    demand_place (leb next.high highest_factor) _ _ (omega arith)
    (bind_place (extrapolate l f κs (year + 1) next) _ (extrapolate_place l f κs (year + 1) next (omega arith)) λ later e. omega arith)

extended_place : (n : Numbers) (f : SignedPair) (quoted : List Pair) → length quoted ≤ 150 → place (extended n f quoted) ≤ 150
unfolding extended_with within_limit
extended_place n f quoted short =
    let κs = weights (factor_of n) (150 - length quoted) in
    let count = weights_most (factor_of n) (150 - length quoted) in
    bind_place (extrapolate _ _ κs _ _) _ (extrapolate_place _ _ κs _ _ (omega arith))
    λ later e.
    let rest = extrapolate-length _ _ κs _ _ e in
    let all : length (quoted ++ later) ≤ 150 = rw length-append (omega arith) in
    demand_place (eqb (first_too_wide n.limit 1 (quoted ++ later)) 0) _ _ (wide_most n.limit 1 _ (omega arith)) (omega arith)

-- ground 8 to the smoothing year
adjusted_years_place : {m : ℕ} (a : ℤ) (year : ℕ) (ps : List Pair) → year + length ps ≤ m + 1 → place (adjusted_years a year ps) ≤ m
unfolding adjusted_years_with
adjusted_years_place a year [] h = omega arith
adjusted_years_place a year (p ∷ ps) h =
    let next = steps (both_ends a) year p in
    demand_place (leb next.high highest_factor) _ _ (omega arith)
    (bind_place (adjusted_years a (year + 1) ps) _ (adjusted_years_place a (year + 1) ps (omega arith)) λ later e. omega arith)

curve_place : (n : Numbers) → place (curve_of n) ≤ 150
unfolding curve_of_with
curve_place n =
    bind_place (liquid_of n) _ (omega (arith, liquid_place n))
    λ b d. bind_place (extended n _ b.factors) _ (extended_place n _ b.factors (omega (arith, liquid_short n d))) λ years e. omega arith

adjusted_place : (n : Numbers) → place (adjusted_curve n) ≤ 150
unfolding adjusted_curve_with
adjusted_place n =
    bind_place (liquid_of n) _ (omega (arith, liquid_place n))
    λ b d.
    let short = liquid_short n d in
    bind_place (adjusted_years n.adjustment 1 b.factors) _ (adjusted_years_place n.adjustment 1 b.factors (omega arith))
    λ years e.
    bind_place (extended n _ years) _ (extended_place n _ years (omega (arith, adjusted_length n.adjustment 1 b.factors e)))
    λ all f. omega arith

if_place : (b : Bool) (n : Numbers) → place (adjusted_if b n) ≤ 150
if_place true n = bind_place (adjusted_curve n) _ (adjusted_place n) λ c e. omega arith
if_place false n = omega arith

pub curves_place : (n : Numbers) → place (curves_of n) ≤ 150
unfolding curves_of_with
curves_place n = bind_place (curve_of n) _ (curve_place n) λ c e. bind_place (adjusted_if n.adjusts n) _ (if_place n.adjusts n) λ a d. omega arith

-- ---- the answer of any bytes

pub answer_place_lem : (s : List ℕ) (g : Ground) → answer s ≡ refused g → place_of g ≤ 150
unfolding answer_with
answer_place_lem s g e = rw e at most
  where
    most : place (read_sheet s >>= curves_of) ≤ 150
    most = bind_place (read_sheet s) curves_of (omega (arith, read_place s)) λ n d. curves_place n

-- ---- a number is below 256, so that it can stand beside the place in one number

pub number_small : (g : Ground) → number_of g < 256
number_small wrong_length = omega arith
number_small (wrong_record i) = omega arith
number_small (out_of_range i) = omega arith
number_small no_volume = omega arith
number_small after_told_month = omega arith
number_small before_standing_curve = omega arith
number_small (low_below_one t) = omega arith
number_small (high_above_limit t) = omega arith
number_small (end_fails_test t) = omega arith
number_small (band_too_wide t) = omega arith
number_small month_above_last = omega arith
number_small month_before_told = omega arith
number_small year_outside = omega arith
number_small no_curve = omega arith
number_small buffer_too_short = omega arith
number_small age_above_limit = omega arith
number_small no_high_rate = omega arith
number_small no_post_left = omega arith
number_small unknown_profile = omega arith
number_small wrong_count = omega arith
number_small (flow_year_outside i) = omega arith
number_small (cents_above_limit i) = omega arith
number_small no_shift = omega arith
