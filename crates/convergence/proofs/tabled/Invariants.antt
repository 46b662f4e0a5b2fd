-- Invariant: the pairs before the index are the table's.
use Rattle.method.specs.Table.{table}
use Rattle.method.specs.Extrapolation.{κ_pairs}
use Rattle.method.proofs.Filling.{Filled}
use mathlib.Core.List.{map}
use Rattle.rounding.specs.Pairs.{as_pair}
use Rattle.convergence.proofs.tabled.Given as goal

abbrev pub invariant-loop-i : goal.invariant-loop-i
invariant-loop-i l = Filled (κ_pairs table) (map as_pair l.weights) l.i
