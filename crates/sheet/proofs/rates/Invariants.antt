-- Invariant: the first rates before the index are filled in.
use lib.ListN.{length, take}
use Rattle.method.proofs.Filling.{Filled}
use Rattle.sheet.proofs.rates.Given as goal

abbrev pub invariant-loop-i : goal.invariant-loop-i
invariant-loop-i l = Filled l.numbers (take (length l.numbers) l.rates) l.i
