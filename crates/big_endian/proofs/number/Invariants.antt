-- Invariant: what is left of the bytes, read on from the number so far, is the whole.
use Rattle.big_endian.proofs.Gathering.{Gathered}
use Rattle.big_endian.proofs.number.Given as goal

abbrev pub invariant-loop-byte : goal.invariant-loop-byte
invariant-loop-byte l = Gathered l.bytes l.n l.byte-index
