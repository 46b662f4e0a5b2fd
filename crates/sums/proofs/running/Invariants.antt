-- Invariant: the zeros, with as many running sums as the loop has come to; and the sum before the next factor, below 2^32 for each factor in it.
use mathlib.Core.Path.{◌≡◌}
use mathlib.Core.List.{List}
use Prim.Native.Nat.{ℕ, ◌*◌, ◌≤◌}
use lib.ListN.{replicate}
use Rattle.ledger.specs.Sums.{running_from}
use Rattle.method.proofs.Copying.{Copied}
use Rattle.sums.proofs.Adding.{before}
use Rattle.sums.proofs.running.Given as goal

pub record Added (factors sums : List ℕ) (sum i : ℕ) : Type 0 where
  pub written : Copied (replicate 150 0) (running_from 0 factors) sums 150 i
  pub sum_is : sum ≡ before 0 factors i
  pub at_most : sum ≤ i * 4_294_967_295

abbrev pub invariant-loop-i : goal.invariant-loop-i
invariant-loop-i l = Added l.factors l.sums l.sum l.i
