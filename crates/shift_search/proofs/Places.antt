-- The place that a shift is answered is at most 1,000: a record's or an entry's, and 23 has none.
use mathlib.Core.Bool.{Bool, true, false, cond}
use mathlib.Core.List.{List}
use Prim.Native.Nat.{ℕ, zero, suc, ◌≤◌}
use native.Mathlib.Omega.{arith}
use lib.IntN.{ℤ}
use Rattle.method.specs.Grounds.{Outcome, done}
use Rattle.method.specs.Sheet.{read_sheet}
use Rattle.method.proofs.Places.{place, bind_place, read_place}
use Rattle.valuation.specs.Block.{Flow, block_checked}
use Rattle.valuation.proofs.Checks.{list_place}
use Rattle.shift.specs.Shift.{meets, shift_at, shift_count, first_shift, shift_for}

search_place : (does : ℤ → Bool) (k i : ℕ) → place (first_shift does k i) ≤ 0
unfolding first_shift
search_place does zero i = omega arith
search_place does (suc k) i = go (does (shift_at i)) _ (search_place does k (suc i))
  where
    go : (b : Bool) (later : Outcome ℤ) → place later ≤ 0 → place (cond b (done (shift_at i)) later) ≤ 0
    go true later h = omega arith
    go false later h = h

pub shift_place : (sheet : List ℕ) (fs : List Flow) (target : ℕ) → place (shift_for sheet fs target) ≤ 1_000
unfolding shift_for
shift_place sheet fs target =
    bind_place (read_sheet sheet) _ (omega (arith, read_place sheet))
    λ n e. bind_place (block_checked fs) _ (list_place fs) λ x d. omega (arith, search_place (meets fs target n) shift_count 0)
