-- The loop's invariant: twice the terms before i and those that are left make the whole.
use Rattle.series.proofs.Logarithm.{Summed}
use Rattle.series.proofs.log_size.Given as goal

abbrev pub invariant-loop-i : goal.invariant-loop-i
invariant-loop-i l = Summed l.up l.x l.s l.p l.sum l.i
