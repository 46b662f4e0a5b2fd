-- Both sizes fit a signed number; the pair is G's up to U, and negated above it.
use mathlib.Core.Path.{ap, ◌∙◌}
use Rattle.series.specs.Sides.{negated}
use Rattle.series.proofs.Logarithm.{cast_is, cast_size, G-to-U, G-above-U}
use Rattle.series.proofs.minus_log.Goals as goal

pub returns-then-x-le-UNIT : goal.returns-then-x-le-UNIT
returns-then-x-le-UNIT c =
    let gain = c.added.ensures in
    let high = c.log_size.ensures in
    let low = c.log_size-low.ensures in
    (cast_is low.1 high.1 gain.1 ∙ G-to-U low.0 high.0 gain.0 c.if-x-le-UNIT.true, cast_size low.1 high.1 gain.1)

pub returns-else-x-le-UNIT : goal.returns-else-x-le-UNIT
returns-else-x-le-UNIT c =
    let gain = c.added.ensures in
    let high = c.log_size.ensures in
    let low = c.log_size-low.ensures in
    let g = G-above-U low.0 high.0 gain.0 c.if-x-le-UNIT.false in
    (c.negate.ensures.0 ∙ ap negated (cast_is low.1 high.1 gain.1) ∙ g, c.negate.ensures.1)
