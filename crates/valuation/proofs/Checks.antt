-- The checks of a list: entry by entry, each passes on to the next or refuses with its own place.
use mathlib.Core.Path.{◌≡◌, refl, ap, sym, subst, ◌∙◌}
use mathlib.Core.Bool.{Bool, true, false, ◌&&◌}
use mathlib.Core.List.{List, [], ◌∷◌}
use Prim.Native.Nat.{ℕ, zero, suc, ◌+◌, ◌-◌, ◌≤◌, ◌<◌}
use native.Mathlib.Omega.{arith}
use borrow.Author.Tests.{leb-true, le-leb, lt-leb}
use lib.Dec.{leb}
use lib.ListN.{length, get_or}
use Rattle.method.specs.Units.{Pair}
use Rattle.method.specs.Grounds.{Ground, number_of, place_of, wrong_count, flow_year_outside, cents_above_limit, Outcome, refused, done, ◌>>=◌, demand}
use Rattle.method.proofs.Places.{place}
use Rattle.method.proofs.Outcome.{split, demand_done, both_true, refused_not_done}
use Rattle.valuation.specs.Block.{Flow, most_flows, most_cents, flows_checked, block_checked, value_by}
use Rattle.valuation.specs.Meaning.{entry_at, Counted, YearRight, Right, RightTo}

abbrev no_entry : Flow
no_entry = record { year = 0; cents = 0 }

-- ---- the checks of the entries

module _ (k : ℕ) (f : Flow) (rest : List Flow) where
  pass_on : Right f → flows_checked k (f ∷ rest) ≡ flows_checked (k + 1) rest
  unfolding flows_checked
  pass_on r = rw (le-leb 1 f.year r.0.0, le-leb f.year 150 r.0.1, le-leb f.cents most_cents (omega (arith, r.1)))

  year_fails : (YearRight f → ⊥) → flows_checked k (f ∷ rest) ≡ refused (flow_year_outside k)
  unfolding flows_checked
  year_fails n =
      split (leb 1 f.year)
      (λ p. split (leb f.year 150) (λ q. absurd (n (leb-true 1 f.year p, leb-true f.year 150 q))) (λ q. rw (p, q)))
      (λ p. rw p)

  cents_fail : YearRight f → 1_000_000_000 < f.cents → flows_checked k (f ∷ rest) ≡ refused (cents_above_limit k)
  unfolding flows_checked
  cents_fail y c = rw (le-leb 1 f.year y.0, le-leb f.year 150 y.1, lt-leb f.cents most_cents (omega (arith, c)))

-- the entries by their places from 0
by_place : (fs : List Flow) (n : ℕ) → RightTo fs n → (j : ℕ) → j < n → Right (get_or fs j no_entry)
by_place fs n r j h = let e : suc j - 1 ≡ j = omega arith in rw e at (r (suc j) (omega arith) (omega arith))

all_pass : (k : ℕ) (fs : List Flow) → ((j : ℕ) → j < length fs → Right (get_or fs j no_entry)) → flows_checked k fs ≡ done tt
unfolding flows_checked
all_pass k [] r = refl
all_pass k (f ∷ fs) r = pass_on k f fs (r 0 (omega arith)) ∙ all_pass (k + 1) fs (λ j h. r (suc j) (omega arith))

-- entry j is the first that fails, on a ground that its place makes
fails_at : (g : ℕ → Ground) (fs : List Flow) (j : ℕ) → j < length fs → ((i : ℕ) → i < j → Right (get_or fs i no_entry)) →
    ((k : ℕ) (rest : List Flow) → flows_checked k (get_or fs j no_entry ∷ rest) ≡ refused (g k)) → (k : ℕ) → flows_checked k fs ≡ refused (g (k + j))
fails_at g [] j h r w k = absurd (omega (arith, h))
fails_at g (f ∷ fs) zero h r w k = w k fs ∙ ap (λ (n : ℕ). refused (g n)) (omega arith)
fails_at g (f ∷ fs) (suc j) h r w k =
    pass_on k f fs (r 0 (omega arith))
    ∙ fails_at g fs j (omega arith) (λ i l. r (suc i) (omega arith)) w (k + 1)
    ∙ ap (λ (n : ℕ). refused (g n)) (omega arith)

module _ (fs : List Flow) where
  pub count_wrong : (Counted fs → ⊥) → block_checked fs ≡ refused wrong_count
  unfolding block_checked
  count_wrong n =
      split (leb 1 (length fs))
      (λ p. split (leb (length fs) most_flows)
      (λ q. absurd (n (leb-true 1 (length fs) p, omega (arith, leb-true (length fs) most_flows q))))
      (λ q. rw (p, q)))
      (λ p. rw p)

  module _ (n : Counted fs) where
    counted : block_checked fs ≡ flows_checked 1 fs
    unfolding block_checked
    counted = rw (le-leb 1 (length fs) n.0, le-leb (length fs) most_flows (omega (arith, n.1)))

    pub all_right : RightTo fs (length fs) → block_checked fs ≡ done tt
    all_right r = counted ∙ all_pass 1 fs (by_place fs (length fs) r)

    -- the first wrong entry, by its place from 1
    module _ (i : ℕ) (from : 1 ≤ i) (to : i ≤ length fs) (r : RightTo fs (i - 1)) where
      first_wrong_lem : (g : ℕ → Ground) → ((k : ℕ) (rest : List Flow) → flows_checked k (entry_at fs i ∷ rest) ≡ refused (g k)) → block_checked fs ≡ refused (g i)
      first_wrong_lem g w =
          counted ∙ fails_at g fs (i - 1) (omega arith) (by_place fs (i - 1) r) w 1 ∙ ap (λ (n : ℕ). refused (g n)) (omega arith)

      pub first_year : (YearRight (entry_at fs i) → ⊥) → block_checked fs ≡ refused (flow_year_outside i)
      first_year n = first_wrong_lem flow_year_outside (λ k rest. year_fails k (entry_at fs i) rest n)

      pub first_cents : YearRight (entry_at fs i) → 1_000_000_000 < (entry_at fs i).cents → block_checked fs ≡ refused (cents_above_limit i)
      first_cents y c = first_wrong_lem cents_above_limit (λ k rest. cents_fail k (entry_at fs i) rest y c)

-- ---- and nothing else passes

pub first-passed : (k : ℕ) (f : Flow) (fs : List Flow) {x : Unit {0}} → flows_checked k (f ∷ fs) ≡ done x → Right f × (flows_checked (k + 1) fs ≡ done x)
unfolding flows_checked
first-passed k f fs e =
    let year = demand_done (leb 1 f.year && leb f.year 150) _ _ e in
    let inside = both_true (leb 1 f.year) (leb f.year 150) year.0 in
    let cents = demand_done (leb f.cents most_cents) _ _ year.1 in (
      ((leb-true 1 f.year inside.0, leb-true f.year 150 inside.1), omega (arith, leb-true f.cents most_cents cents.0)),
      cents.1,
    )

passed : (k : ℕ) (fs : List Flow) {x : Unit {0}} → flows_checked k fs ≡ done x → (j : ℕ) → j < length fs → Right (get_or fs j no_entry)
passed k [] e j h = absurd (omega (arith, h))
passed k (f ∷ fs) e zero h = (first-passed k f fs e).0
passed k (f ∷ fs) e (suc j) h = passed (k + 1) fs (first-passed k f fs e).1 j (omega arith)

pub count-passed : (fs : List Flow) {x : Unit {0}} → block_checked fs ≡ done x → Counted fs × (flows_checked 1 fs ≡ done x)
unfolding block_checked
count-passed fs e =
    let count = demand_done (leb 1 (length fs) && leb (length fs) most_flows) _ _ e in
    let both = both_true (leb 1 (length fs)) (leb (length fs) most_flows) count.0 in
    ((leb-true 1 (length fs) both.0, omega (arith, leb-true (length fs) most_flows both.1)), count.1)

pub passed_right : (fs : List Flow) {x : Unit {0}} → block_checked fs ≡ done x → Counted fs × RightTo fs (length fs)
passed_right fs e = let (count, entries) = count-passed fs e in (count, λ i h k. passed 1 fs entries (i - 1) (omega arith))

-- ---- the grounds of a list: 20, and 21 and 22 with a place in it

module _ (p : Ground → Type 0) where
  abbrev OnGround : Outcome (Unit {0}) → Type 0
  OnGround (refused g) = p g
  OnGround (done x) = Unit {0}

  entries_on : (k : ℕ) (fs : List Flow) → ((i : ℕ) → k ≤ i → i < k + length fs → p (flow_year_outside i) × p (cents_above_limit i)) → OnGround (flows_checked k fs)
  unfolding flows_checked
  entries_on k [] h = tt
  entries_on k (f ∷ fs) h =
      go (leb 1 f.year && leb f.year 150) (leb f.cents most_cents) (h k (omega arith) (omega arith))
      (entries_on (k + 1) fs (λ i a b. h i (omega arith) (omega (arith, b))))
    where
      go : (y c : Bool) → p (flow_year_outside k) × p (cents_above_limit k) → OnGround (flows_checked (k + 1) fs) →
          OnGround (demand y (flow_year_outside k) >>= (λ _. demand c (cents_above_limit k) >>= (λ _. flows_checked (k + 1) fs)))
      go true true here later = later
      go true false here later = here.1
      go false c here later = here.0

  block_on : (fs : List Flow) → p wrong_count → ((i : ℕ) → 1 ≤ i → i ≤ 1_000 → p (flow_year_outside i) × p (cents_above_limit i)) → OnGround (block_checked fs)
  unfolding block_checked
  block_on fs n h =
      split (leb 1 (length fs))
      (λ a. split (leb (length fs) most_flows)
      (λ b. rw (a, b) (entries_on 1 fs (λ i from to. h i from (omega (arith, to, leb-true (length fs) most_flows b)))))
      (λ b. rw (a, b) n))
      (λ a. rw a n)

pub list_place : (fs : List Flow) → place (block_checked fs) ≤ 1_000
list_place fs = go (block_checked fs) (block_on (λ g. place_of g ≤ 1_000) fs (omega arith) (λ i a b. (b, b)))
  where
    go : (o : Outcome (Unit {0})) → OnGround (λ g. place_of g ≤ 1_000) o → place o ≤ 1_000
    go (refused g) h = h
    go (done x) h = omega arith

-- a ground of a value is one of its list
valued_on_lem : (p : Ground → Type 0) (low high : ℕ → ℕ) (fs : List Flow) (g : Ground) → OnGround p (block_checked fs) → value_by low high fs ≡ refused g → p g
unfolding value_by
valued_on_lem p low high fs g h e = go (block_checked fs) _ h (λ x. refused_not_done (sym x)) e
  where
    go : (o : Outcome (Unit {0})) (value : Outcome Pair) → OnGround p o → (value ≡ refused g → ⊥) → (o >>= (λ _. value)) ≡ refused g → p g
    go (refused x) value h n e = let same : x ≡ g = cc in subst p same h
    go (done x) value h n e = absurd (n e)

-- neither 14 nor 16, and a place in the list
module _ (low high : ℕ → ℕ) (fs : List Flow) (g : Ground) (e : value_by low high fs ≡ refused g) where
  pub value_from_20 : 20 ≤ number_of g
  value_from_20 = valued_on_lem (λ x. 20 ≤ number_of x) low high fs g (block_on _ fs (omega arith) (λ i a b. (omega arith, omega arith))) e

  pub value_place : place_of g ≤ 1_000
  value_place = valued_on_lem (λ x. place_of x ≤ 1_000) low high fs g (block_on _ fs (omega arith) (λ i a b. (b, b))) e
