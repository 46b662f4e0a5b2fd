use native.Mathlib.Nat.{mul-le-mul}
use native.Mathlib.Omega.{arith}
use borrow.Author.Rules.{rules}
use Rattle.series.proofs.Logarithm.{z_bound_lem, at_start, after_term, summed}
use Rattle.series.proofs.log_size.Goals as goal

pub scale-s-requires : goal.scale-s-requires
scale-s-requires c =
    let z = z_bound_lem c.args.up c.requires.0 c.requires.1 (rw c.abs_diff.ensures at c.quotient-z.ensures) in
    omega (arith, mul-le-mul z z)

pub loop-i-init : goal.loop-i-init
loop-i-init c =
    at_start c.args.up c.requires.0 c.requires.1 (rw c.abs_diff.ensures at c.quotient-z.ensures) c.scale-s.ensures

pub loop-i-preserved : goal.loop-i-preserved
loop-i-preserved c =
    rw (c.quotient-sum.ensures, c.scale-p.ensures) (after_term c.loop-i.invariant (search rules))

pub overflow_add-sum : goal.overflow_add-sum
overflow_add-sum c =
    let d = after_term c.loop-i.invariant (search rules) in
    record { fits = omega (arith, d.whole, d.small, c.quotient-sum.ensures) }

pub returns : goal.returns
returns c =
    let d = c.loop-i.invariant in
    let e = summed d (search rules) in
    (e, rw e d.small)
