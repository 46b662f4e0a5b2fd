-- Invariant: the growth is that of as many years as are done, cut.
use Rattle.std.proofs.Common.{◌≡◌}
use Rattle.rate_search.specs.Search.{growth_cut}
use Rattle.rate_search.proofs.grown.Given as goal

abbrev pub invariant-loop : goal.invariant-loop
invariant-loop l = l.g ≡ growth_cut l.up l.m l.counter
