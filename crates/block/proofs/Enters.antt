-- One entry after another: the theory's test of a list is that of its first entry and then of the others, and what entries still to come
-- make of the totals.
use mathlib.Core.List.{List, [], ◌∷◌}
use mathlib.Core.Path.{◌≡◌, refl, sym, ◌∙◌}
use Prim.Native.Nat.{ℕ, suc, ◌+◌, ◌≤◌, ◌<◌}
use lib.Dec.{leb}
use native.Mathlib.Numerals.{add-one}
use lib.ListN.{length, get_or, drop, replicate}
use lib.Seq.{drop-cons, drop-length}
use borrow.Author.Tests.{le-leb, lt-leb, leb-true, leb-false}
use Rattle.method.specs.Curve.{year_inside}
use Rattle.method.specs.Grounds.{Ground, Outcome, refused, done, ◌>>=◌, wrong_count, flow_year_outside, cents_above_limit}
use Rattle.valuation.specs.Block as valuation
use Rattle.valuation.specs.Block.{flows_checked, block_checked}
use Rattle.valuation.specs.Meaning.{Counted, YearRight}
use Rattle.valuation.proofs.Checks.{count_wrong}
use Rattle.method.proofs.Outcome.{split, bind_assoc}
use Rattle.block.specs.Views.{no_flow, totals_from, block_of}

module _ (entry : ℕ) (f : valuation.Flow) (fs : List valuation.Flow) where
  -- ---- by the ways of the first entry

  pub checked_outside : (YearRight f → ⊥) → flows_checked entry (f ∷ fs) ≡ refused (flow_year_outside entry)
  unfolding flows_checked
  checked_outside n =
      split (leb 1 f.year)
      (λ p. split (leb f.year 150) (λ q. absurd (n (leb-true 1 f.year p, leb-true f.year 150 q))) (λ q. rw (p, q)))
      (λ p. rw p)

  pub checked_large : 1 ≤ f.year → f.year ≤ 150 → 1_000_000_000 < f.cents → flows_checked entry (f ∷ fs) ≡ refused (cents_above_limit entry)
  unfolding flows_checked
  checked_large h k l = rw (le-leb 1 f.year h, le-leb f.year 150 k, lt-leb f.cents 1_000_000_000 l)

  -- ---- the first, and then the others

  checked_first : flows_checked entry (f ∷ fs) ≡ (flows_checked entry (f ∷ []) >>= λ _. flows_checked (entry + 1) fs)
  unfolding flows_checked
  checked_first =
      split (year_inside f.year)
      (λ p. split (leb f.cents 1_000_000_000) (λ q. rw (p, q)) (λ q. rw (p, q)))
      (λ p. rw p)

pub checked_alone : (entry : ℕ) (f : valuation.Flow) → 1 ≤ f.year → f.year ≤ 150 → f.cents ≤ 1_000_000_000 → flows_checked entry (f ∷ []) ≡ done tt
unfolding flows_checked
checked_alone entry f h k l = rw (le-leb 1 f.year h, le-leb f.year 150 k, le-leb f.cents 1_000_000_000 l)

-- what entries still to come make of the totals, so many having been made
unfoldable pub still : List ℕ → ℕ → List valuation.Flow → Outcome (List ℕ)
still ts at fs = flows_checked (at + 1) fs >>= λ _. done (totals_from ts fs)

module _ (fs : List valuation.Flow) where
  -- the list comes to what the totals come to, with the entries from i on
  pub record Left (ts : List ℕ) (i : ℕ) : Type 0 where
    pub left : block_of fs ≡ still ts i (drop i fs)

  pub left_first : 1 ≤ length fs → length fs ≤ 1_000 → Left (replicate 150 0) 0
  unfolding block_of block_checked still
  left_first h k = record { left = rw (le-leb 1 (length fs) h, le-leb (length fs) 1_000 k) refl }

  pub left_none : (ts : List ℕ) (i : ℕ) → Left ts i → length fs ≡ i → block_of fs ≡ done ts
  unfolding still flows_checked totals_from
  left_none ts i l e = l.left ∙ rw (sym e, drop-length fs) refl

  module _ (ts : List ℕ) (i : ℕ) (f : valuation.Flow) (h : i < length fs) (here : f ≡ get_or fs i no_flow) (l : Left ts i) where
    from_here : drop i fs ≡ f ∷ drop (suc i) fs
    from_here = drop-cons fs i no_flow h ∙ rw here refl

    whole : block_of fs ≡ (flows_checked (i + 1) (f ∷ []) >>= λ _. still (totals_from ts (f ∷ [])) (i + 1) (drop (suc i) fs))
    unfolding still totals_from
    whole =
        l.left
        ∙ rw (from_here, checked_first (i + 1) f (drop (suc i) fs))
        (bind_assoc (flows_checked (i + 1) (f ∷ [])) (λ _. flows_checked (i + 1 + 1) (drop (suc i) fs)) (λ _. done (totals_from ts (f ∷ drop (suc i) fs))))

    pub left_refused : {g : Ground} → flows_checked (i + 1) (f ∷ []) ≡ refused g → block_of fs ≡ refused g
    left_refused e = whole ∙ rw e refl

    pub left_next : flows_checked (i + 1) (f ∷ []) ≡ done tt → Left (totals_from ts (f ∷ [])) (i + 1)
    left_next e = record { left = whole ∙ rw (e, add-one i) refl }

pub wrong : (fs : List valuation.Flow) → (Counted fs → ⊥) → block_of fs ≡ refused wrong_count
unfolding block_of
wrong fs h = rw (count_wrong fs h) refl

-- by the ways of a year and cents
pub judged : {P : Type 0} (year cents : ℕ) → (year < 1 → P) → (150 < year → P) → (1 ≤ year → year ≤ 150 → 1_000_000_000 < cents → P) →
    (1 ≤ year → year ≤ 150 → cents ≤ 1_000_000_000 → P) → P
judged {P} year cents early late large inside = split (leb 1 year) (λ e. from_1 (leb-true _ _ e)) (λ e. early (leb-false _ _ e))
  where
    to_150 : 1 ≤ year → year ≤ 150 → P
    to_150 h k = split (leb cents 1_000_000_000) (λ e. inside h k (leb-true _ _ e)) (λ e. large h k (leb-false _ _ e))

    from_1 : 1 ≤ year → P
    from_1 h = split (leb year 150) (λ e. to_150 h (leb-true _ _ e)) (λ e. late (leb-false _ _ e))
