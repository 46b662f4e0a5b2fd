-- Invariant: the forwards before i are the definition's, and every entry is small.
use Rattle.extrapolation.proofs.Gaps.{Worked}
use Rattle.extrapolation.proofs.gap_forwards.Given as goal

abbrev pub invariant-loop-i : goal.invariant-loop-i
invariant-loop-i l = Worked l.fn.xs l.forwards l.i
