-- With an adjustment of 0 the adjusted curve of such a sheet is U to U in every year, too.
use mathlib.Core.Path.{◌≡◌, ◌∙◌}
use lib.IntN.{pos}
use lib.ListN.{length, replicate}
use Rattle.method.specs.Grounds.{done}
use Rattle.method.specs.Sheet.{quote_count, volume_count, Numbers}
use Rattle.method.specs.Curve.{curve_with, adjusted_curve}
use Rattle.method.proofs.Unadjusted.{unadjusted}
use Rattle.figures.proofs.ZeroYears.{one}
use Rattle.figures.proofs.ZeroSheets.{zero_sheets}

module _ (n : Numbers) (rates : n.rates ≡ replicate (quote_count n.profile) (pos 0)) (ultimate : n.ultimate ≡ 0)
    (volumes : length n.volumes ≡ volume_count n.profile) where
  pub zero_sheets_adjusted : n.adjustment ≡ pos 0 → adjusted_curve n ≡ done (curve_with n (replicate 150 one))
  zero_sheets_adjusted e = unadjusted n e ∙ zero_sheets n rates ultimate volumes
