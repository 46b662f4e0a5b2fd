-- The arrays with the gap set at their count.
use Rattle.bootstrap.proofs.Soundness.{gaps_more, gap_sound}
use Rattle.bootstrap.proofs.Liquid.join_gap.Goals as goal

pub invariant_of-self : goal.invariant_of-self
invariant_of-self c = record { sound = gap_sound c.args.self.now _ c.requires }

pub returns-clause-gap : goal.returns-clause-gap
returns-clause-gap c = rw (gaps_more c.args.self.now c.args.x c.requires)
