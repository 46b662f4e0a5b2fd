use lib.ListN.{get_or-map}
use Rattle.rounding.specs.Pairs.{as_pair}
use borrow.Author.Rules.{rules}
use Rattle.extrapolation.proofs.Gaps.{no_gap, after_gap, all_gaps}
use Rattle.extrapolation.proofs.gap_forwards.Goals as goal

pub gap_forward-requires : goal.gap_forward-requires
gap_forward-requires c =
    rw (get_or-map as_pair c.args.xs c.loop-i.i (record { low = 0; high = 0 })) at (c.requires c.loop-i.i c.loop-i-test.true)

pub loop-i-init : goal.loop-i-init
loop-i-init c = no_gap (search rules)

pub loop-i-preserved : goal.loop-i-preserved
loop-i-preserved c =
    after_gap (search rules) c.loop-i.invariant c.gap_forward.result c.loop-i-test.true c.gap_forward.ensures.0 c.gap_forward.ensures.1

pub returns : goal.returns
returns c = (all_gaps (search rules) c.loop-i.invariant c.loop-i-test.false, c.loop-i.invariant.small)
