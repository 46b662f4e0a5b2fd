-- Invariant: the sums are those of a trial of as many years as are done.
use Rattle.gap.specs.Gaps.{SumsOf}
use Rattle.gap.proofs.trial.Given as goal

abbrev pub invariant-loop : goal.invariant-loop
invariant-loop l = SumsOf l.up l.start l.x l.counter (record { total = l.total; last = l.last })
