-- The definition's negation, written out.
use mathlib.Core.Path.{ap, ◌∙◌}
use Rattle.method.specs.Series.{ultimate_forward_with}
use Rattle.series.specs.Sides.{negated}
use Rattle.series.proofs.ultimate_forward.Goals as goal

pub returns : goal.returns
unfolding ultimate_forward_with
returns c = (c.negate.ensures.0 ∙ ap negated c.minus_log.ensures.0, c.negate.ensures.1)
