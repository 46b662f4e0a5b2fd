-- Plain numbers, year and cents in turn, as a list of entries: how many there are, and which.
use mathlib.Core.List.{List, [], ◌∷◌}
use mathlib.Core.Path.{◌≡◌, refl, sym, ap, ◌∙◌}
use Prim.Native.Nat.{ℕ, zero, suc, ◌+◌, ◌*◌, ◌/◌, ◌%◌, ◌<◌}
use native.Mathlib.Omega.{arith}
use lib.ListN.{length, get_or}
use borrow.Author.Tests.{eq-eqb, ne_eqb}
use Rattle.method.specs.Grounds.{refused, wrong_count}
use Rattle.valuation.specs.Block as valuation
use Rattle.block.specs.declared.Flow.{Flow}
use Rattle.block.specs.Views.{in_turn, paired, no_flow, block_of, Lists}

-- ---- by the one test

paired_even : (l : List ℕ) → length l % 2 ≡ 0 → paired l ≡ in_turn l
unfolding paired
paired_even l h = rw (eq-eqb (length l % 2) 0 h)

pub odd_refused : (l : List ℕ) → (length l % 2 ≡ 0 → ⊥) → block_of (paired l) ≡ refused wrong_count
unfolding paired block_of valuation.block_checked
odd_refused l h = rw (ne_eqb (length l % 2) 0 h) refl

-- ---- in turn

turn-length : (l : List ℕ) → length (in_turn l) ≡ length l / 2
unfolding in_turn
turn-length [] = refl
turn-length (x ∷ []) = refl
turn-length (x ∷ y ∷ l) = omega (arith, turn-length l)

-- a year, and the cents after it
abbrev pair_in : List ℕ → ℕ → valuation.Flow
pair_in l k = record { year = get_or l k 0; cents = get_or l (suc k) 0 }

turn_at : (l : List ℕ) (i : ℕ) → i < length (in_turn l) → get_or (in_turn l) i no_flow ≡ pair_in l (i * 2)
unfolding in_turn
turn_at [] i h = absurd (omega arith)
turn_at (x ∷ []) i h = absurd (omega arith)
turn_at (x ∷ y ∷ l) zero h = refl
turn_at (x ∷ y ∷ l) (suc i) h = turn_at l i (omega arith) ∙ ap (pair_in (x ∷ y ∷ l)) {x = suc (suc (i * 2))} {y = suc i * 2} (omega arith)

-- ---- the list that is meant, and what a function answers by its places

module _ (l : List ℕ) (answers : ℕ → Flow → Type 0) where
  in_pairs : (i : ℕ) → ◌≡◌ {A = valuation.Flow} (record { year = get_or l (2 * i) 0; cents = get_or l (2 * i + 1) 0 }) (pair_in l (i * 2))
  in_pairs i =
      let (even, odd) : ◌≡◌ {A = ℕ} (2 * i) (i * 2) × ◌≡◌ {A = ℕ} (2 * i + 1) (suc (i * 2)) = (omega arith, omega arith) in
      rw (odd, even) refl

  pub lists_even : length l % 2 ≡ 0 →
      ((i : ℕ) (f : Flow) → i < length l / 2 → answers i f → (f.year ≡ get_or l (2 * i) 0) × (f.cents ≡ get_or l (2 * i + 1) 0)) →
      Lists answers (length l / 2) (paired l)
  lists_even e h =
      rw (paired_even l e) (record {
        long = turn-length l;
        each = λ i f k a. let (year, cents) = h i f k a in rw (year, cents) (in_pairs i) ∙ sym (turn_at l i (omega (arith, turn-length l)));
      })
