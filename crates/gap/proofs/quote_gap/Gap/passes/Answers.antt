-- By the rate's sign: the sums that a test asks for are those of one side, or of both.
use mathlib.Core.Path.{sym, ◌∙◌}
use mir.Syntax.{w64}
use mir.ValLaws.{to_z-of_z}
use Rattle.rounding.proofs.Machine.{read_negative, read_non_negative}
use Rattle.gap.specs.Gaps.{as_gap}
use mir.Val.{SFits}
use native.Mathlib.Omega.{arith}
use Rattle.gap.proofs.Testing.{passes_at, passes_below}
use Rattle.gap.proofs.quote_gap.Gap.passes.Goals as goal

pub returns-then-self-lt0 : goal.returns-then-self-lt0
returns-then-self-lt0 c =
    let g = c.args.self.now in
    let fits : SFits w64 g.rate = record { sfits = omega (arith, g.fits.small_rate) } in
    (rw (to_z-of_z w64 _ fits, c.side-other.ensures.total, c.side-same.ensures.last) at c.compared.ensures)
    ∙ sym (passes_below (as_gap g) c.args.x c.args.up (read_negative fits c.if-self-lt0.true))

pub returns-else-self-lt0 : goal.returns-else-self-lt0
returns-else-self-lt0 c =
    let g = c.args.self.now in
    let fits : SFits w64 g.rate = record { sfits = omega (arith, g.fits.small_rate) } in
    (rw (to_z-of_z w64 _ fits, c.side-same.ensures.total, c.side-same.ensures.last) at c.compared-else-self-lt0.ensures)
    ∙ sym (passes_at (as_gap g) c.args.x c.args.up (read_non_negative fits c.if-self-lt0.false))
