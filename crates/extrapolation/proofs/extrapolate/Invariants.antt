-- Invariant: what is left, put after the years that are written, is the whole extrapolation.
use mathlib.Core.List.{map}
use Rattle.rounding.specs.Pairs.{as_pair, as_signed_pair}
use Rattle.extrapolation.proofs.LaterYears.{Reached}
use Rattle.extrapolation.proofs.extrapolate.Given as goal

abbrev pub invariant-loop-i : goal.invariant-loop-i
invariant-loop-i l =
    Reached (as_signed_pair l.l) (as_signed_pair l.f) (map as_pair l.weights) l.start l.fn.years l.years (as_pair l.p) l.i
