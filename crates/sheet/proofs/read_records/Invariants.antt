-- Invariant: the cursor stands where record i starts, the first places before the index are kept, and the numbers before it are the definition's.
use mathlib.Core.Path.{◌≡◌}
use mathlib.Core.List.{List, map}
use Prim.Native.Nat.{ℕ}
use lib.IntN.{ℤ}
use lib.ListN.{length, take}
use Rattle.std.specs.Prelude.{Option}
use Rattle.method.specs.Sheet.{right_record, in_range, number_of_record, Layout, slots_of}
use Rattle.sheet.specs.Views.{as_layout}
use Rattle.sheet.proofs.Cursor.{cursor}
use Rattle.method.proofs.Filling.{Filled}
use Rattle.sheet.proofs.Places.{Found}
use Rattle.sheet.proofs.read_records.Given as goal

pub record Read (s : List ℕ) (l : Layout) (wrong outside : Option ℕ) (numbers : List ℤ) (start i : ℕ) : Type 0 where
  pub at : start ≡ cursor l i
  pub right : Found (right_record s) (slots_of l) wrong i
  pub inside : Found (in_range s) (slots_of l) outside i
  pub filled : Filled (map (number_of_record s) (slots_of l)) (take (length (slots_of l)) numbers) i

abbrev pub invariant-loop-i : goal.invariant-loop-i
invariant-loop-i l = Read l.sheet (as_layout l.layout) l.wrong l.outside l.numbers l.start l.i
