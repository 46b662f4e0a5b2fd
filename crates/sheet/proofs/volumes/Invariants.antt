-- Invariant: the first volumes before the index are filled in.
use mathlib.Core.List.{map}
use lib.IntN.{nat_abs}
use lib.ListN.{length, take}
use Rattle.method.proofs.Filling.{Filled}
use Rattle.sheet.proofs.volumes.Given as goal

abbrev pub invariant-loop-i : goal.invariant-loop-i
invariant-loop-i l = Filled (map nat_abs l.numbers) (take (length l.numbers) l.volumes) l.i
