-- Invariant: no shift before this one, which is the one at some place, does.
use mathlib.Core.Path.{◌≡◌}
use mathlib.Core.List.{List}
use Prim.Native.Nat.{ℕ, ◌-◌, ◌≤◌}
use lib.IntN.{ℤ}
use Rattle.method.specs.Grounds.{done}
use Rattle.method.specs.Sheet.{Numbers}
use Rattle.valuation.specs.Block.{Flow}
use Rattle.shift.specs.Shift.{shift_at, shift_count, meets, first_shift}
use Rattle.sheet.specs.Views.{as_numbers}
use Rattle.block.specs.Views.{block_of}
use Rattle.shift_search.proofs.search.Given as goal

pub record Tried (n : Numbers) (totals : List ℕ) (target : ℕ) (s : ℤ) : Type 0 where
  pub i : ℕ
  pub within : i ≤ 1_001
  pub here : s ≡ shift_at i
  pub left : (fs : List Flow) → block_of fs ≡ done totals → first_shift (meets fs target n) shift_count 0 ≡ first_shift (meets fs target n) (shift_count - i) i

abbrev pub invariant-loop-s : goal.invariant-loop-s
invariant-loop-s l = Tried (as_numbers l.n) l.block l.target l.s
