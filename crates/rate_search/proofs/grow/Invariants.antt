-- Invariant: both growths are those of as many years as are done, cut.
use Rattle.rate_search.specs.Search.{GrowthsOf}
use Rattle.rate_search.proofs.grow.Given as goal

abbrev pub invariant-loop : goal.invariant-loop
invariant-loop l = GrowthsOf l.up l.m l.counter (record { here = l.here; next = l.next })
