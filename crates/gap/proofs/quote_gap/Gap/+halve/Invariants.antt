-- Measure: the distance of the ends, which falls at each call.
use Prim.Native.Nat.{◌-◌}
use Rattle.gap.proofs.quote_gap.Gap.+halve.Given as goal

abbrev pub decreases-halve : goal.decreases-halve
decreases-halve l = l.hi - l.lo
