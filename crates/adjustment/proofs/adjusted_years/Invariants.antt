-- Invariant: what is left, put after the years that are written, is the whole adjustment.
use Prim.Native.Nat.{◌-◌}
use Rattle.adjustment.proofs.Years.{Reached}
use Rattle.adjustment.proofs.adjusted_years.Given as goal

abbrev pub invariant-loop-i : goal.invariant-loop-i
invariant-loop-i l = Reached l.a l.fn.years l.years l.i

abbrev pub decreases-loop-i : goal.decreases-loop-i
decreases-loop-i l = 20 - l.i
