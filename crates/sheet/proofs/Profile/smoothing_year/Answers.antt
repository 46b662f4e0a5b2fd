-- The maturity at the smoothing year's place.
use mathlib.Core.Path.{◌∙◌, ap}
use Prim.Native.Nat.{ℕ}
use lib.ListN.{get_or}
use Rattle.method.specs.Sheet.{maturities, smoothing_year}
use Rattle.sheet.proofs.Profile.smoothing_year.Goals as goal

pub returns : goal.returns
unfolding smoothing_year
returns c = c.maturity.ensures ∙ ap (λ (i : ℕ). get_or maturities i 0) c.market.ensures.smoothing
