-- The line that is put at the front of the text is the one that is written out.
use Rattle.std.proofs.Common.{[], ◌∷◌, arith}
use Rattle.desk_core.proofs.Lengths.{line_short}
use Rattle.desk_core.proofs.Putting.{at_front}
use Rattle.desk_core.proofs.write_broken.Goals as goal

pub put_line-end-requires : goal.put_line-end-requires
put_line-end-requires g c = omega (arith, line_short 0x58 (c.args.offset ∷ []), c.requires)

pub returns : goal.returns
returns g c = at_front c.put_line-end.ensures
