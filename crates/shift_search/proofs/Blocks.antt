-- What the block of a list says of the list's checks; and what the shift's answer is, as the promise tells it.
use mathlib.Core.Path.{◌≡◌, refl, sym, subst}
use mathlib.Core.List.{List}
use Prim.Native.Nat.{ℕ}
use lib.IntN.{ℤ}
use Rattle.std.specs.Prelude.{Result}
use Rattle.method.specs.Grounds.{Outcome, refused, done, ◌>>=◌}
use Rattle.method.specs.Grounds as method
use Rattle.method.proofs.Outcome.{refused_not_done}
use Rattle.valuation.specs.Block.{Flow, block_checked}
use Rattle.shift.specs.Shift.{shift_for}
use Rattle.shift.specs.Meaning.{ShiftTells}
use Rattle.shift.proofs.Theorem.{shift_tells}
use Rattle.grounds.specs.declared.Ground.{Ground}
use Rattle.grounds.specs.Answers.{as_answered}
use Rattle.block.specs.Views.{block_of}
use Rattle.shift_search.specs.Views.{ShiftedAs}

module _ (fs : List Flow) where
  pub list_refused : {g : method.Ground} → block_of fs ≡ refused g → block_checked fs ≡ refused g
  unfolding block_of
  list_refused {g} e = go _ (block_checked fs) e
    where
      go : (ts : List ℕ) (o : Outcome (Unit {0})) → (o >>= λ _. done ts) ≡ refused g → o ≡ refused g
      go ts (refused x) e = let same : x ≡ g = cc in rw same
      go ts (done x) e = absurd (refused_not_done (sym e))

  pub list_passed : {ts : List ℕ} → block_of fs ≡ done ts → block_checked fs ≡ done tt
  unfolding block_of
  list_passed e = go _ (block_checked fs) e
    where
      go : (us : List ℕ) {ts : List ℕ} (o : Outcome (Unit {0})) → (o >>= λ _. done us) ≡ done ts → o ≡ done tt
      go us (refused x) e = absurd (refused_not_done e)
      go us (done x) e = refl

pub as_told : (sheet : List ℕ) (fs : List Flow) (target : ℕ) (r : Result ℤ Ground) → as_answered r ≡ shift_for sheet fs target → ShiftedAs sheet fs target r
as_told sheet fs target r e = record { outcome = e; told = subst (ShiftTells sheet fs target) (sym e) (shift_tells sheet fs target) }
