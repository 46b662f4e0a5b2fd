use mathlib.Core.Path.{ap, ◌∙◌}
use Rattle.method.specs.Extrapolation.{cut_to_unit}
use Rattle.rounding.specs.Pairs.{as_pair}
use Rattle.convergence.proofs.Working.{at_start, after_pair, all_pairs}
use borrow.Author.Rules.{rules}
use Rattle.convergence.proofs.worked.Goals as goal

pub loop-weight-init : goal.loop-weight-init
loop-weight-init c = at_start (as_pair c.args.q) (as_pair c.args.m) _ (search rules)

pub loop-weight-preserved : goal.loop-weight-preserved
loop-weight-preserved c =
    let k = c.cut_to_unit.ensures ∙ ap cut_to_unit c.scaled.ensures in
    after_pair c.loop-weight.invariant c.loop-weight-test.true k c.scaled-p.ensures c.requires.0.low c.requires.0.high

pub returns : goal.returns
returns c = all_pairs c.loop-weight.invariant (search rules)
