use native.Mathlib.Omega.{arith}
use Rattle.big_endian.proofs.Gathering.{gathered_more, gathered_room, gathered_all}
use Rattle.big_endian.proofs.number.Goals as goal

pub overflow_mul-n : goal.overflow_mul-n
overflow_mul-n c = omega (arith, gathered_room _ c.loop-byte.n _ c.loop-byte.invariant c.loop-byte-test.true c.requires)

pub loop-byte-preserved : goal.loop-byte-preserved
loop-byte-preserved c = gathered_more _ _ _ _ c.loop-byte.invariant c.loop-byte-test.true c.wide.ensures.0 c.wide.ensures.1

pub returns : goal.returns
returns c = gathered_all _ _ _ c.loop-byte.invariant (omega arith)
