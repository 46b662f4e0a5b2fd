use native.Mathlib.Omega.{arith}
use borrow.Author.Rules.{rules}
use Rattle.series.proofs.Exponential.{growth_in_range, growth_below, at_start, after_term, grown, grown_high, grown_low}
use Rattle.series.proofs.growth.Goals as goal

pub loop-i-init : goal.loop-i-init
loop-i-init c = at_start c.args.y c.args.up

pub loop-i-preserved : goal.loop-i-preserved
loop-i-preserved c = rw c.quotient-t.ensures (after_term c.loop-i.invariant (search rules) (search rules))

pub overflow_add-sum : goal.overflow_add-sum
overflow_add-sum c =
    let again = after_term c.loop-i.invariant (search rules) (search rules) in
    record { fits = omega (arith, again.whole, growth_below c.args.up c.requires, c.quotient-t.ensures) }

pub overflow_add-result : goal.overflow_add-result
overflow_add-result c =
    record { fits = omega (arith, grown c.loop-i.invariant (search rules), growth_below c.args.up c.requires, c.added.ensures.1) }

pub returns-then-up : goal.returns-then-up
returns-then-up c =
    growth_in_range c.args.up c.requires (grown_high c.loop-i.invariant (search rules) c.if-up.true c.added.ensures.0)

pub returns-else-up : goal.returns-else-up
returns-else-up c =
    growth_in_range c.args.up c.requires (grown_low c.loop-i.invariant (search rules) c.if-up.false)
