use Prim.Native.Nat.{◌+◌}
use native.Mathlib.Omega.{arith}
use Rattle.gap.specs.Gaps.{SumsOf}
use Rattle.gap.proofs.Trials.{last_fits, sums_none, sums_more}
use Rattle.gap.proofs.trial.Goals as goal
use Rattle.gap.proofs.trial.Goals.{After-year_on-last}

next-sums : (c : After-year_on-last) →
    let v = c.year_on-last.result in
    SumsOf c.args.up c.args.start c.args.x (c.loop.counter + 1) (record { total = c.loop.total + v; last = v })
next-sums c = sums_more c.args.up c.requires.0 c.requires.1 c.loop.counter (omega arith) _ _ c.loop.invariant c.year_on-last.ensures

pub loop-init : goal.loop-init
loop-init c = sums_none c.args.up c.requires.0 c.requires.1

pub year_on-last-requires : goal.year_on-last-requires
year_on-last-requires c =
    let a = c.args in
    (last_fits a.up c.requires.0 c.requires.1 c.loop.counter a.years (omega arith) c.requires.2 _ c.loop.invariant, c.requires.1)

pub overflow_add-total : goal.overflow_add-total
overflow_add-total c = record { fits = omega (arith, (next-sums c).total_small) }

pub loop-preserved : goal.loop-preserved
loop-preserved c = next-sums c
