-- Quotes inside their range, quote by quote.
use mathlib.Core.Path.{◌≡◌, refl, sym, ◌∙◌}
use mathlib.Core.Bool.{Bool, true, ◌&&◌, and_assoc}
use mathlib.Core.List.{List, [], ◌∷◌}
use Prim.Native.Nat.{ℕ, zero, suc, ◌<◌}
use native.Mathlib.Omega.{arith}
use lib.IntN.{ℤ, pos}
use lib.ListN.{length, get_or}
use lib.Signed.{le_z}
use Rattle.method.specs.Sheet.{rate, lowest, highest}
use Rattle.method.proofs.Outcome.{both_true}
use Rattle.shift.specs.Shift.{quotes_inside}

abbrev pub inside : ℤ → Bool
inside z = le_z (lowest rate) z && le_z z (highest rate)

pub inside_first : (z : ℤ) (zs : List ℤ) → quotes_inside (z ∷ zs) ≡ (inside z && quotes_inside zs)
unfolding quotes_inside
inside_first z zs = sym (and_assoc (le_z (lowest rate) z) (le_z z (highest rate)) (quotes_inside zs))

pub inside_each : (zs : List ℤ) → quotes_inside zs ≡ true → (i : ℕ) → i < length zs → inside (get_or zs i (pos 0)) ≡ true
inside_each [] e i h = absurd (omega arith)
inside_each (z ∷ zs) e zero h = (both_true (inside z) (quotes_inside zs) (rw inside_first at e)).0
inside_each (z ∷ zs) e (suc i) h = inside_each zs (both_true (inside z) (quotes_inside zs) (rw inside_first at e)).1 i (omega arith)

pub each_inside : (zs : List ℤ) → ((i : ℕ) → i < length zs → inside (get_or zs i (pos 0)) ≡ true) → quotes_inside zs ≡ true
unfolding quotes_inside
each_inside [] each = refl
each_inside (z ∷ zs) each = inside_first z zs ∙ rw (each 0 (omega arith)) (each_inside zs (λ i h. each (suc i) (omega arith)))
