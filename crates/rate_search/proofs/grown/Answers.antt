use Rattle.std.proofs.Common.{sym}
use Rattle.rate_search.proofs.Growing.{cut_none, grown_more}
use Rattle.rate_search.proofs.grown.Goals as goal

pub loop-init : goal.loop-init
loop-init c = sym (cut_none c.args.up c.args.m)

pub loop-preserved : goal.loop-preserved
loop-preserved c = let l = c.loop in grown_more c.args.up c.args.m l.counter l.invariant c.year_on-g.ensures
