use Rattle.std.proofs.Common.{arith, rules}
use Rattle.desk_core.proofs.Putting.{one_more, room_for, all_of}
use Rattle.desk_core.proofs.lines.put_numbers.Goals as goal

pub put_number-end-requires : goal.put_number-end-requires
put_number-end-requires c = omega (arith, c.loop-n.invariant, room_for c.args.numbers.now c.loop-n.n-index (omega arith))

pub loop-n-preserved : goal.loop-n-preserved
loop-n-preserved c = (search rules, one_more c.args.numbers.now c.loop-n.n-index (omega arith) c.loop-n.invariant.1 c.put_number-end.ensures)

pub returns : goal.returns
returns c = all_of c.args.numbers.now c.loop-n.n-index (omega arith) c.loop-n.invariant.1
