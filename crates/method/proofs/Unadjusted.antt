-- An adjustment of 0 gives the plain curve, digit for digit: growth at 0 is known, so a step of 0 leaves a pair as it is.
use mathlib.Core.Path.{◌≡◌, refl, ap, ap₂, ◌∙◌}
use mathlib.Core.List.{List, [], ◌∷◌}
use Prim.Native.Nat.{ℕ, zero, suc, ◌+◌, ◌*◌}
use native.Mathlib.Nat.{mul-div_cancel, mul-add-div_right, add-zero}
use borrow.Author.Tests.{le-leb}
use lib.IntN.{pos, +ℤ_idr}
use Rattle.fraction.specs.Rounding.{U, ceil_div}
use Rattle.fraction.proofs.Rounding.{U-positive}
use Rattle.method.specs.Units.{Pair, pair, SignedPair, signed_pair}
use Rattle.method.specs.Grounds.{done}
use Rattle.method.specs.Sheet.{Numbers}
use Rattle.method.specs.Series.{added, growth_sum, growth}
use Rattle.method.specs.Extrapolation.{step_with, step, steps_with, steps, adjusted_years_with, adjusted_years, first_raised}
use Rattle.method.specs.Curve.{liquid_of, curve_of_with, curve_of, adjusted_curve_with, adjusted_curve}
use Rattle.method.proofs.Outcome.{bind_with}
use Rattle.method.proofs.Stretches.{liquid_factors}
use Rattle.method.proofs.Extended.{HighsAtMost}
use Rattle.method.proofs.Enclosure.{factors_at_most}

abbrev pub unmoved : SignedPair
unmoved = signed_pair (pos 0) (pos 0)

whole : (a : ℕ) → ceil_div (a * U) U ≡ a
whole a = mul-add-div_right U-positive a 999_999_999 ∙ add-zero a

pub step_stays : (p : Pair) → step unmoved p ≡ p
unfolding step_with growth growth_sum added
step_stays p = ap₂ pair (mul-div_cancel p.low U-positive) (whole p.high)

steps_stay : (t : ℕ) (p : Pair) → steps unmoved t p ≡ p
unfolding steps_with
steps_stay zero p = refl
steps_stay (suc t) p = ap (steps unmoved t) (step_stays p) ∙ steps_stay t p

years_stay : (year : ℕ) (ps : List Pair) → HighsAtMost ps → adjusted_years (pos 0) year ps ≡ done ps
unfolding adjusted_years_with
years_stay year [] h = refl
years_stay year (p ∷ ps) h = rw (steps_stay year p, le-leb _ _ (h 0), years_stay (year + 1) ps (λ i. h (suc i))) refl

forwards_stay : (gs : List SignedPair) → first_raised (pos 0) gs ≡ gs
unfolding first_raised
forwards_stay [] = refl
forwards_stay (g ∷ gs) = ap₂ (λ l h. signed_pair l h ∷ gs) (+ℤ_idr g.low) (+ℤ_idr g.high)

pub unadjusted : (n : Numbers) → n.adjustment ≡ pos 0 → adjusted_curve n ≡ curve_of n
unfolding curve_of_with adjusted_curve_with
unadjusted n e =
    bind_with (liquid_of n)
    λ b d. rw (e, years_stay 1 b.factors (factors_at_most (liquid_factors n d)), forwards_stay _) refl
