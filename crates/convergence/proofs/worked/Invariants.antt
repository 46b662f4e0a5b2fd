-- Invariant: the pairs from the index on are worked from P, and those before it are written.
use Rattle.rounding.specs.Pairs.{as_pair}
use Rattle.convergence.proofs.Working.{Worked}
use Rattle.convergence.proofs.worked.Given as goal

abbrev pub invariant-loop-weight : goal.invariant-loop-weight
invariant-loop-weight l = Worked (as_pair l.q) (as_pair l.m) l.weight-items l.p l.weight-index
