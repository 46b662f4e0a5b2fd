-- Invariant: the millions' products and the rest's together are the first i years' sum, and neither is above i products of the largest
-- size: a total is at most a million millions, a rest below a million, and a factor below 2^32.
use mathlib.Core.List.{List}
use mathlib.Core.Path.{◌≡◌}
use Prim.Native.Nat.{ℕ, ◌+◌, ◌*◌, ◌≤◌}
use lib.ListN.{length}
use Rattle.block.specs.Views.{Totals}
use Rattle.block.specs.Views.{weighed}
use Rattle.block.proofs.multiplied.Given as goal

-- the largest product of either kind
abbrev pub largest : ℕ
largest = 1_000_000 * 4_294_967_296

pub record Multiplied (totals factors : List ℕ) (millions rest i : ℕ) : Type 0 where
  pub held : Totals totals
  pub long : length factors ≡ 150
  pub within : i ≤ 150
  pub sum_is : millions * 1_000_000 + rest ≡ weighed totals factors i
  pub millions_fit : millions ≤ i * largest
  pub rest_fits : rest ≤ i * largest

abbrev pub invariant-loop-total : goal.invariant-loop-total
invariant-loop-total l = Multiplied l.totals l.factors l.millions l.rest (length l.yielded)
