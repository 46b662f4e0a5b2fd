use mathlib.Core.Path.{sym, ◌∙◌}
use mathlib.Core.Bool.{true, false}
use Rattle.gap.specs.Gaps.{as_gap}
use Rattle.gap.proofs.Halving.{halved_up, halved_down, halved_ends}
use Rattle.gap.proofs.quote_gap.Gap.+halve.Goals as goal

pub returns-then-rises : goal.returns-then-rises
returns-then-rises t c =
    let a = c.args in
    halved_up a.low (as_gap a.self.now) a.lo a.hi c.if-hi-lo-gt1.true (sym c.rises.ensures ∙ c.if-rises.true) c.halve.ensures

pub returns-else-rises : goal.returns-else-rises
returns-else-rises t c =
    let a = c.args in
    halved_down a.low (as_gap a.self.now) a.lo a.hi c.if-hi-lo-gt1.true (sym c.rises.ensures ∙ c.if-rises.false) c.halve-else-rises.ensures

pub returns-then-low : goal.returns-then-low
returns-then-low t c =
    let a = c.args in
    rw c.if-low.true (halved_ends true (as_gap a.self.now) a.lo a.hi c.if-hi-lo-gt1.false)

pub returns-else-low : goal.returns-else-low
returns-else-low t c =
    let a = c.args in
    rw c.if-low.false (halved_ends false (as_gap a.self.now) a.lo a.hi c.if-hi-lo-gt1.false)
