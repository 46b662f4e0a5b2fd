-- The quotes inside their range, then the cost on the numbers that they make.
use mathlib.Core.Path.{refl, sym, ◌∙◌}
use Rattle.shift.specs.Shift.{meets}
use Rattle.rounding.proofs.Machine.{stored_is}
use Rattle.shift_search.proofs.meets.Goals as goal

pub returns-in_default : goal.returns-in_default
unfolding meets
returns-in_default c = λ fs of.
    let inside = rw (stored_is c.args.s c.requires tt) at c.in_default.ensures.inside in
    rw (sym inside) refl

pub returns : goal.returns
unfolding meets
returns c = λ fs of.
    let s = stored_is c.args.s c.requires tt in
    let moved = c.in-Some.ensures in
    c.costs_at_most.ensures fs of ∙ rw (rw s at moved.numbers, sym (rw s at moved.inside)) refl
