-- What the search's functions cite, whatever the list is of which they have the block, by its totals.
use Rattle.std.specs.Prelude.{◌≡◌, Bool, List, ℕ, ℤ, Result}
use Rattle.method.specs.Grounds.{done}
use Rattle.method.specs.Sheet.{Numbers}
use Rattle.method.specs.Curve.{curves_of}
use Rattle.valuation.specs.Block.{Flow}
use Rattle.shift.specs.Shift.{high_at_most, meets, shift_count, first_shift, shift_for}
use Rattle.shift.specs.Meaning.{ShiftTells}
use Rattle.grounds.specs.declared.Ground.{Ground}
use Rattle.grounds.specs.Answers.{as_answered}
use Rattle.block.specs.Views.{block_of}

-- as a sheet, a list and a target are, which is as the promise tells
pub record ShiftedAs (sheet : List ℕ) (fs : List Flow) (target : ℕ) (r : Result ℤ Ground) : Type 0 where
  pub outcome : as_answered r ≡ shift_for sheet fs target
  pub told : ShiftTells sheet fs target (as_answered r)

abbrev pub CostsAtMost : Numbers → List ℕ → ℕ → Bool → Type 0
CostsAtMost n totals target r = (fs : List Flow) → block_of fs ≡ done totals → r ≡ high_at_most fs target (curves_of n)

abbrev pub Meets : Numbers → List ℕ → ℕ → ℤ → Bool → Type 0
Meets n totals target s r = (fs : List Flow) → block_of fs ≡ done totals → r ≡ meets fs target n s

abbrev pub Searches : Numbers → List ℕ → ℕ → Result ℤ Ground → Type 0
Searches n totals target r = (fs : List Flow) → block_of fs ≡ done totals → as_answered r ≡ first_shift (meets fs target n) shift_count 0

abbrev pub ShiftsBlock : List ℕ → Result (List ℕ) Ground → ℕ → Result ℤ Ground → Type 0
ShiftsBlock sheet block target r = (fs : List Flow) → as_answered block ≡ block_of fs → ShiftedAs sheet fs target r
