-- Invariant: what is left to write, put into the buffer as it now is, gives the whole.
use mathlib.Core.Path.{◌≡◌}
use Rattle.method.specs.Bytes.{in_bytes, put_at}
use Rattle.big_endian.proofs.put.Given as goal

abbrev pub invariant-loop-left : goal.invariant-loop-left
invariant-loop-left l = put_at l.at (in_bytes l.width l.n) l.initial.out ≡ put_at l.at (in_bytes l.left l.rest) l.out
