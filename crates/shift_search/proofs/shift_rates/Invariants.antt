-- Invariant: the first i quotes are moved, and none of them has left its range.
use mathlib.Core.Path.{◌≡◌}
use mathlib.Core.List.{List}
use Prim.Native.Nat.{ℕ}
use lib.IntN.{ℤ}
use lib.ListN.{length, take, drop}
use Rattle.method.proofs.Filling.{Filled}
use Rattle.shift.specs.Shift.{shifted_rates, quotes_inside}
use Rattle.shift_search.proofs.shift_rates.Given as goal

pub record Moved (quotes : ℕ) (s : ℤ) (rates next : List ℤ) (i : ℕ) : Type 0 where
  pub long : length next ≡ 17
  pub filled : Filled (shifted_rates s (take quotes rates)) (take quotes next) i
  pub left : quotes_inside (shifted_rates s (take quotes rates)) ≡ quotes_inside (drop i (shifted_rates s (take quotes rates)))

abbrev pub invariant-loop-i : goal.invariant-loop-i
invariant-loop-i l = Moved l.quotes l.s l.rates l.next l.i
