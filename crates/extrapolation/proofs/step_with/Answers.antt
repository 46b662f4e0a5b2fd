-- The sign of the forward, read back from its bits, says which case of the definition the step is.
use mathlib.Core.Path.{◌∙◌}
use Rattle.rounding.proofs.Machine.{read_negative, read_non_negative}
use Rattle.extrapolation.proofs.Stepping.{multiplied, divided}
use Rattle.extrapolation.proofs.step_with.Goals as goal

pub returns-then-f-lt0 : goal.returns-then-f-lt0
returns-then-f-lt0 c =
    c.scale.ensures ∙ rw c.requires.0.is (multiplied c.args.up c.args.f c.args.factor (read_negative c.ranges.f c.if-f-lt0.true))

pub returns-else-f-lt0 : goal.returns-else-f-lt0
returns-else-f-lt0 c =
    c.quotient.ensures ∙ rw c.requires.0.is (divided c.args.up c.args.f c.args.factor (read_non_negative c.ranges.f c.if-f-lt0.false))
