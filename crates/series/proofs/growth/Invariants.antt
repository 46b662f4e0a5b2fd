-- The loop's invariant: the terms before i and those that are left make the whole sum.
use Rattle.series.proofs.Exponential.{Grown}
use Rattle.series.proofs.growth.Given as goal

abbrev pub invariant-loop-i : goal.invariant-loop-i
invariant-loop-i l = Grown l.y l.up l.t l.sum l.i
