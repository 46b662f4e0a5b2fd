-- Rates and an ultimate rate of 0 give U to U in every year, in every market, whatever the month, the volumes, the phase-in and the limit.
use mathlib.Core.Path.{◌≡◌, refl, ap, ◌∙◌}
use native.Mathlib.Omega.{arith}
use lib.IntN.{pos}
use lib.ListN.{length, replicate}
use Rattle.method.specs.Grounds.{done}
use Rattle.method.specs.Sheet.{quote_count, volume_count, smoothing_year, Numbers}
use Rattle.method.specs.Series.{ultimate_forward}
use Rattle.method.specs.Curve.{curve_with, curve_of_with, curve_of}
use Rattle.method.proofs.Markets.{smoothing_least, smoothing_most}
use Rattle.figures.proofs.ZeroYears.{one, gaps_unmoved, ultimate_unmoved, llfr_unmoved, extended_level, liquid_level}

module _ (n : Numbers) (rates : n.rates ≡ replicate (quote_count n.profile) (pos 0)) (ultimate : n.ultimate ≡ 0)
    (volumes : length n.volumes ≡ volume_count n.profile) where
  pub zero_sheets : curve_of n ≡ done (curve_with n (replicate 150 one))
  unfolding curve_of_with
  zero_sheets =
      let p = n.profile in
      let unmoved_ultimate = ap ultimate_forward ultimate ∙ ultimate_unmoved in
      rw (
        liquid_level n rates volumes,
        gaps_unmoved (volume_count p),
        llfr_unmoved p n.volumes,
        extended_level n unmoved_ultimate (smoothing_year p) (smoothing_least p) (omega (arith, smoothing_most p)),
      )
      refl
