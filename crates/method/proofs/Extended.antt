-- From any quoted years and any last liquid forward rate on, the years to 150 enclose the true ones of every order, at the sheet's
-- own convergence factor; their highs and bands keep grounds 8 and 10. One law for every curve that is extended.
use mathlib.Core.Path.{◌≡◌, refl, ◌∙◌}
use mathlib.Core.Bool.{Bool, true, false, cond}
use mathlib.Core.List.{List, [], ◌∷◌, ◌++◌}
use Prim.Native.Nat.{ℕ, zero, suc, ◌+◌, ◌-◌, ◌≤◌, ◌<◌}
use native.Mathlib.Nat.{le_of_suc-le-suc}
use native.Mathlib.Omega.{arith}
use borrow.Author.Tests.{eqb-true, leb-true}
use lib.Dec.{leb, eqb, lit<}
use lib.IntN.{pos, nat_abs}
use lib.ListN.{length, get_or, length-append}
use Rattle.fraction.specs.Fraction.{ℚ, ◌≈◌, Positive, nat_ℚ, int_ℚ, ◌÷◌}
use Rattle.fraction.specs.Rounding.{Encloses}
use Rattle.fraction.proofs.Order.{≈-sym}
use Rattle.fraction.proofs.Quotient.{÷-positive}
use Rattle.fraction.proofs.Integer.{nat_ℚ_positive}
use Rattle.method.specs.Units.{Pair, pair, SignedPair}
use Rattle.method.specs.Grounds.{band_too_wide, done}
use Rattle.method.specs.Sheet.{quote_count, smoothing_index, volume_count, Numbers, total}
use Rattle.method.specs.Quotes.{last_year, highest_factor}
use Rattle.method.specs.Series.{ultimate_forward}
use Rattle.method.specs.Extrapolation.{weights, extrapolate, first_too_wide}
use Rattle.method.specs.Curve.{factor_of, within_limit, extended_with, extended}
use Rattle.method.specs.True.{speed, convergence, smoothing_rate, to_last_year}
use Rattle.method.proofs.Outcome.{bind_done, demand_done, done_injective}
use Rattle.method.proofs.Markets.{smoothing_rate_lem}
use Rattle.method.proofs.Enclosed.{AllEnclosed, enclosed_append, enclosed_length}
use Rattle.method.proofs.Liquid.{RatesAbove, last_year_lem}
use Rattle.method.proofs.Logarithm.{ultimate_forward_encloses}
use Rattle.method.proofs.SeriesBounds.{ultimate_forward_bound}
use Rattle.method.proofs.Size.{Within}
use Rattle.method.proofs.Forward.{Weighs}
use Rattle.method.proofs.Step.{extrapolate_encloses, extrapolate-length, extrapolate_highs}
use Rattle.method.proofs.Convergence.{convergence_cong}
use Rattle.method.proofs.Weights.{hundred_millionths, weighs_cong, weights_weigh, weights-length}
use Rattle.method.proofs.Speed.{factor_range, factor_is}

-- what the enclosure asks of a sheet's numbers; grounds 19 and 1 to 4 see to it
pub record Usable (s : Numbers) : Type 0 where
  pub rate_count : length s.rates ≡ quote_count s.profile
  pub rates_above : RatesAbove s.rates
  pub volume_count : length s.volumes ≡ volume_count s.profile
  pub traded : 0 < total s.volumes
  pub ultimate_most : s.ultimate ≤ 10_000
  pub phase_in_least : 10_000 ≤ s.phase_in
  pub phase_in_most : s.phase_in ≤ 20_000
  pub adjustment_size : nat_abs s.adjustment ≤ 500

-- ---- ground 8

abbrev pub HighsAtMost : List Pair → Type 0
HighsAtMost ps = (i : ℕ) → (get_or ps i (pair 0 0)).high ≤ highest_factor

append_at_most : (ps qs : List Pair) → HighsAtMost ps → HighsAtMost qs → HighsAtMost (ps ++ qs)
append_at_most [] qs h k i = k i
append_at_most (p ∷ ps) qs h k zero = h zero
append_at_most (p ∷ ps) qs h k (suc i) = append_at_most ps qs (λ j. h (suc j)) k i

-- ---- ground 10

-- the first year passes, and so do the later ones
passes : (b : Bool) (rest year : ℕ) → 0 < year → cond b rest year ≡ 0 → (b ≡ true) × (rest ≡ 0)
passes true rest year h e = (refl, e)
passes false rest year h e = absurd (omega arith)

not_too_wide : (limit year : ℕ) (ps : List Pair) → 0 < year → first_too_wide limit year ps ≡ 0 → (i : ℕ) → i < length ps →
    (get_or ps i (pair 0 0)).high ≤ (get_or ps i (pair 0 0)).low + limit
unfolding first_too_wide
not_too_wide limit year [] h e i l = absurd (omega arith)
not_too_wide limit year (p ∷ ps) h e zero l =
    omega (arith, leb-true (p.high - p.low) limit (passes (leb (p.high - p.low) limit) (first_too_wide limit (year + 1) ps) year h e).0)
not_too_wide limit year (p ∷ ps) h e (suc i) l =
    not_too_wide limit (year + 1) ps (omega arith) (passes (leb (p.high - p.low) limit) (first_too_wide limit (year + 1) ps) year h e).1 i (le_of_suc-le-suc l)

-- ---- the ultimate forward

ultimate_within : (u : ℕ) → u ≤ 10_000 → Within 250_000_000 (ultimate_forward u)
ultimate_within u h =
    let b = ultimate_forward_bound u h in
    record { low_within = record { bound = omega (arith, b.0) }; high_within = record { bound = omega (arith, b.1) } }

-- ---- the factor

-- the sheet's α is its factor
α_is : (s : Numbers) → Usable s →
    speed (nat_ℚ s.phase_in ÷ nat_ℚ 100_000) (int_ℚ (smoothing_rate s) ÷ nat_ℚ 100_000) ≈ hundred_millionths (factor_of s)
unfolding factor_of
α_is s u = rw (smoothing_rate_lem s u.rate_count) (factor_is s.phase_in _ u.phase_in_least)

factor_positive : (a : ℕ) → 10_000_000 ≤ a → Positive (hundred_millionths a)
factor_positive a h = ÷-positive (nat_ℚ_positive (omega arith)) (nat_ℚ_positive (lit< tt))

-- ---- the years to 150, from any quoted years and LLFR

-- what they were worked through
pub record Extends (s : Numbers) (f : SignedPair) (quoted years : List Pair) : Type 0 where
  pub later : List Pair
  pub later_done :
      extrapolate (ultimate_forward s.ultimate) f (weights (factor_of s) (150 - length quoted)) (length quoted + 1) (last_year quoted) ≡ done later
  pub narrow : first_too_wide s.limit 1 (quoted ++ later) ≡ 0
  pub is : quoted ++ later ≡ years

pub extends : (s : Numbers) (f : SignedPair) (quoted : List Pair) {years : List Pair} → extended s f quoted ≡ done years → Extends s f quoted years
unfolding extended_with within_limit
extends s f quoted e =
    let ext = bind_done (extrapolate _ _ (weights (factor_of s) (150 - length quoted)) (length quoted + 1) (last_year quoted)) _ e in
    let wide = first_too_wide s.limit 1 (quoted ++ ext.0) in
    let ten = demand_done (eqb wide 0) (band_too_wide wide) _ ext.2 in
    record { later = ext.0; later_done = ext.1; narrow = eqb-true wide 0 ten.0; is = done_injective ten.1 }

module _ (s : Numbers) (u : Usable s) (f : SignedPair) (quoted : List Pair) {years : List Pair} (w : Extends s f quoted years)
    (short : length quoted ≤ 150) (long : 10 ≤ length quoted) where
  κ_count : 150 - length quoted ≤ 140
  κ_count = omega arith

  κ_length : length (weights (factor_of s) (150 - length quoted)) ≡ 150 - length quoted
  κ_length = weights-length (factor_of s) (150 - length quoted) κ_count

  κ_weigh : (n i : ℕ) → i < length (weights (factor_of s) (150 - length quoted)) →
      Weighs (get_or (weights (factor_of s) (150 - length quoted)) i (pair 0 0))
      (convergence n (speed (nat_ℚ s.phase_in ÷ nat_ℚ 100_000) (int_ℚ (smoothing_rate s) ÷ nat_ℚ 100_000)) (1 + i))
  unfolding factor_of
  κ_weigh n i h =
      let range = factor_range s.phase_in (get_or s.rates (smoothing_index s.profile) (pos 0)) u.phase_in_most in
      let one : 1 + i ≡ suc i = omega arith in
      let same = convergence_cong n (factor_positive (factor_of s) range.0) (≈-sym (α_is s u)) (suc i) in
      rw one (weighs_cong same (weights_weigh n (factor_of s) (150 - length quoted) range.0 range.1 κ_count i (rw κ_length at h)))

  pub extended-length : length years ≡ 150
  extended-length =
      let rest = extrapolate-length _ _ (weights (factor_of s) (150 - length quoted)) (length quoted + 1) _ w.later_done ∙ κ_length in
      rw (← w.is, length-append) (omega arith)

  -- whatever exact years and LLFR they enclose
  pub extended_holds : (n : ℕ) {xs : List ℚ} {y : ℚ} → Within 250_000_000 f → Encloses f.low f.high y → AllEnclosed quoted xs →
      AllEnclosed years (to_last_year n s y xs)
  unfolding to_last_year
  extended_holds n {xs} bound last-liquid enclosed =
      let ultimate-small = ultimate_within s.ultimate u.ultimate_most in
      let ultimate = ultimate_forward_encloses n s.ultimate u.ultimate_most in
      let κs = weights (factor_of s) (150 - length quoted) in
      let from = extrapolate_encloses n _ _ _ ultimate-small bound ultimate last-liquid κs 1 (length quoted + 1) _ (κ_weigh n) in
      let later = from (last_year_lem enclosed) w.later_done in
      rw (← w.is, ← enclosed_length enclosed) (enclosed_append enclosed (rw κ_length at later))

  pub extended_at_most : HighsAtMost quoted → HighsAtMost years
  extended_at_most h =
      let later = extrapolate_highs _ _ (weights (factor_of s) (150 - length quoted)) (length quoted + 1) _ w.later_done in
      rw (← w.is) (append_at_most quoted w.later h later)

  pub extended_narrow : (i : ℕ) → i < 150 → (get_or years i (pair 0 0)).high ≤ (get_or years i (pair 0 0)).low + s.limit
  extended_narrow i h =
      let all : first_too_wide s.limit 1 years ≡ 0 = rw w.is at w.narrow in
      not_too_wide s.limit 1 years (omega arith) all i (rw extended-length h)
