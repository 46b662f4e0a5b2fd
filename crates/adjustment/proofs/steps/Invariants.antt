-- Invariant: what is left of the steps takes x where all of them take the factor.
use Prim.Native.Nat.{◌-◌}
use Rattle.adjustment.proofs.Stepping.{Stepped}
use Rattle.adjustment.proofs.steps.Given as goal

abbrev pub invariant-loop : goal.invariant-loop
invariant-loop l = Stepped l.up l.f l.factor l.t l.x l.counter

abbrev pub decreases-loop : goal.decreases-loop
decreases-loop l = l.t - l.counter
