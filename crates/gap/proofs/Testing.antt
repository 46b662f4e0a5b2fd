-- The two tests by the sums of one side of a trial and, for a rate below 0, of the other.
use mathlib.Core.Path.{◌≡◌}
use mathlib.Core.Bool.{Bool, true, false, not}
use Prim.Native.Nat.{ℕ, ◌+◌}
use lib.Signed.{non_neg}
use Rattle.method.specs.Units.{end_of}
use Rattle.method.specs.Quotes.{Gap, surely_not_above, surely_not_below}
use Rattle.gap.specs.Gaps.{par_test, passes_by, sum_by, last_by}

module _ (g : Gap) (x : ℕ) where
  pub passes_at : (up : Bool) → non_neg g.rate ≡ true →
      passes_by up g x ≡ par_test up g.rate (end_of up g.annuity + sum_by g x up) (last_by g x up)
  unfolding surely_not_above surely_not_below
  passes_at true e = rw e
  passes_at false e = rw e

  pub passes_below : (up : Bool) → non_neg g.rate ≡ false →
      passes_by up g x ≡ par_test up g.rate (end_of (not up) g.annuity + sum_by g x (not up)) (last_by g x up)
  unfolding surely_not_above surely_not_below
  passes_below true e = rw e
  passes_below false e = rw e
