-- Where the growth, rounded up, passes U × U over the high.
use Rattle.std.proofs.Common.{sym, ap, ◌∙◌, arith}
use Rattle.zero_rates.specs.Rates.{low_multiplier}
use Rattle.rate_search.proofs.Turning.{low_is, low_of-zero}
use Rattle.rate_search.proofs.low_multiplier.Goals as goal

pub returns-then-high-eq0 : goal.returns-then-high-eq0
returns-then-high-eq0 c =
    let a = c.args in
    (low_of-zero a.years ∙ ap (low_multiplier a.years) (sym c.if-high-eq0.true), omega arith)

pub returns : goal.returns
returns c =
    let a = c.args in
    let turns = c.turning_point.ensures in
    (low_is a.years a.high _ (omega (arith, c.if-high-eq0.false)) turns, omega (arith, turns.between.below))
