-- Invariant: the ends before the index are written.
use mathlib.Core.List.{map}
use Rattle.method.proofs.Filling.{Filled}
use Rattle.extrapolation.specs.Extrapolated.{signed_end}
use Rattle.extrapolation.proofs.ends.Given as goal

abbrev pub invariant-loop-i : goal.invariant-loop-i
invariant-loop-i l = Filled (map (signed_end l.up) l.fn.g) l.ends l.i
