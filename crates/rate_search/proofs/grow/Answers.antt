use Rattle.std.proofs.Common.{◌+◌, sym}
use Rattle.rate_search.proofs.Growing.{cut_none, grown_more}
use Rattle.rate_search.proofs.grow.Goals as goal

pub loop-init : goal.loop-init
loop-init c = record { here = sym (cut_none c.args.up c.args.m); next = sym (cut_none c.args.up (c.args.m + 1)) }

pub loop-preserved : goal.loop-preserved
loop-preserved c =
    let l = c.loop in
    let a = c.args in
    record {
      here = grown_more a.up a.m l.counter l.invariant.here c.year_on-here.ensures;
      next = grown_more a.up (a.m + 1) l.counter l.invariant.next c.year_on-next.ensures;
    }
