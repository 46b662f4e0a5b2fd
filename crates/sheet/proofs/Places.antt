-- The place of the first record that fails a test, kept from slot to slot.
use mathlib.Core.Path.{◌≡◌, refl, sym, ap, ◌∙◌}
use mathlib.Core.Bool.{Bool, true, false, not}
use mathlib.Core.List.{List}
use Prim.Native.Nat.{ℕ, zero, suc, ◌+◌, ◌≤◌, ◌<◌}
use native.Mathlib.Numerals.{add-one}
use lib.ListN.{length, drop, get_or}
use Rattle.std.specs.Prelude.{Option, Some, None}
use Rattle.std.specs.Option.{option_or}
use Rattle.std.specs.Bool.{then_some}
use Rattle.method.specs.Sheet.{Slot, no_slot, first_failure}
use Rattle.method.proofs.Slots.{failure_later, failure_here, failure_none}
use Rattle.sheet.specs.Records.{found}

module _ (p : Slot → Bool) (ts : List Slot) where
  -- the place found before index i stays; where there is none, the slots from i on decide
  abbrev pub Found : Option ℕ → ℕ → Type 0
  Found so_far i = found (first_failure p 1 ts) ≡ option_or so_far (found (first_failure p (suc i) (drop i ts)))

  pub found_none : Found None 0
  found_none = refl

  pub found_more : (so_far : Option ℕ) (i : ℕ) (passes : Bool) → i < length ts → passes ≡ p (get_or ts i no_slot) → Found so_far i →
      Found (option_or so_far (then_some (not passes) (i + 1))) (i + 1)
  found_more (Some place) i passes h e f = f
  found_more None i true h e f = f ∙ ap found (rw add-one (failure_later p ts i h (sym e)))
  found_more None i false h e f = f ∙ ap found (failure_here p ts i h (sym e)) ∙ rw add-one refl

  pub found_all : (so_far : Option ℕ) (i : ℕ) → length ts ≤ i → Found so_far i → so_far ≡ found (first_failure p 1 ts)
  found_all (Some place) i h f = sym f
  found_all None i h f = sym (f ∙ ap found (failure_none p ts i h))

-- ---- the definition's place, by the one that was found

pub place_found : (n : ℕ) {place : ℕ} → found n ≡ Some place → (n ≡ 0 → ⊥) × (n ≡ place)
place_found zero e = absurd cc
place_found (suc n) e = (λ z. cc, cc)

pub none_found : (n : ℕ) → found n ≡ None → n ≡ 0
none_found zero e = refl
none_found (suc n) e = absurd cc

-- ---- places as numbers, 0 where there is none

-- a place, or another where it is 0
abbrev pub or_else : ℕ → ℕ → ℕ
or_else zero later = later
or_else (suc place) later = suc place

pub or_found : (found later : ℕ) → (found ≡ 0 → ⊥) → found ≡ or_else found later
or_found zero later n = absurd (n refl)
or_found (suc found) later n = refl

-- it is the code's choice between two places that may be missing
pub or_is : (place later : ℕ) → found (or_else place later) ≡ option_or (found place) (found later)
or_is zero later = refl
or_is (suc place) later = refl
