-- Demand 2: what a post accepts and stores, and what a page carries.
use mathlib.Core.Path.{◌≡◌, refl, ap, ◌∙◌}
use mathlib.Core.Bool.{true}
use mathlib.Core.List.{List, ◌∷◌}
use Prim.Native.Nat.{ℕ, ◌≤◌}
use native.Mathlib.Omega.{arith}
use borrow.Author.Tests.{leb-true, le-leb}
use lib.Dec.{leb}
use Rattle.method.specs.Grounds.{after_told_month, before_standing_curve, Outcome, refused, done}
use Rattle.method.specs.Sheet.{read_sheet}
use Rattle.method.specs.Curve.{Held, none, some, Curves, answer}
use Rattle.method.proofs.Outcome.{bind_done, demand_done}
use Rattle.ledger.specs.Sums.{Summed}
use Rattle.ledger.specs.Book.{Standing, Book, booked, not_before, post_outcome, with_curves, post, withdraw}
use Rattle.ledger.specs.Demands.{with_sums, holding, holding_post, Accepted, Demand2}
use Rattle.ledger.proofs.Asked.{refusal_kept, page_of_book}
use Rattle.ledger.proofs.Count.{outcome_answer, worked_sums}
use Rattle.ledger.proofs.FirstGround.{withdrawn}

not_before_lem : (k : Standing) (m : ℕ) → ((c : Summed) → k ≡ some c → c.curves.plain.month ≤ m) → not_before k m ≡ true
not_before_lem none m h = refl
not_before_lem (some c) m h = le-leb c.curves.plain.month m (h c refl)

before_none : (k : Standing) (m : ℕ) → not_before k m ≡ true → (c : Summed) → k ≡ some c → c.curves.plain.month ≤ m
before_none none m t c e = let z : ◌≡◌ {A = ℕ} 0 1 = cc in absurd (omega arith)
before_none (some d) m t c e = let same : d ≡ c = cc e in rw (← same) (leb-true d.curves.plain.month m t)

accepts_it : (b : Book) (s : List ℕ) (c : Curves) → Accepted b s c → post_outcome b s ≡ done c
unfolding post_outcome
accepts_it b s c a =
    let n = a.numbers in
    rw (a.reads, le-leb n.month b.told a.month_told, not_before_lem b.standing n.month a.in_order) a.worked

was_accepted : (b : Book) (s : List ℕ) (c : Curves) → post_outcome b s ≡ done c → Accepted b s c
unfolding post_outcome
was_accepted b s c e =
    let read = bind_done (read_sheet s) _ e in
    let n = read.0 in
    let five = demand_done (leb n.month b.told) after_told_month _ read.2 in
    let six = demand_done (not_before b.standing n.month) before_standing_curve _ five.1 in
    record {
      numbers = n;
      reads = read.1;
      month_told = leb-true n.month b.told five.0;
      in_order = before_none b.standing n.month six.0;
      worked = six.1;
    }

accepted_only : (b : Book) (s : List ℕ) (m : ℕ) → (post b s).answer ≡ done m →
    (c : Curves) × Accepted b s c × ((post b s).book ≡ holding_post b s c) × (c.plain.month ≡ m)
unfolding post
accepted_only b s m e = go (post_outcome b s) refl e
  where
    go : (o : Outcome Curves) → post_outcome b s ≡ o → (booked b (with_curves b s) (λ c. c.plain.month) o).answer ≡ done m →
        (c : Curves) × Accepted b s c × ((booked b (with_curves b s) (λ c. c.plain.month) (post_outcome b s)).book ≡ holding_post b s c) × (c.plain.month ≡ m)
    go (refused g) p a = absurd (refusal_kept a refl)
    go (done c) p a = (c, was_accepted b s c p, rw (p, worked_sums s (outcome_answer b s p)), cc a)

brought_back : (b : Book) (s : List ℕ) (c : Curves) (hs : List (Held (List ℕ))) → b.history.below ≡ some s ∷ hs → answer s ≡ done c →
    withdraw b ≡ record { book = holding b (some (with_sums c)) (some s) hs; answer = done tt }
unfolding withdraw
brought_back b s c hs e worked = ap (withdrawn b) e ∙ rw (worked, worked_sums s worked)

brought_none : (b : Book) (hs : List (Held (List ℕ))) → b.history.below ≡ none ∷ hs →
    withdraw b ≡ record { book = holding b none none hs; answer = done tt }
unfolding withdraw
brought_none b hs e = ap (withdrawn b) e

pub demand_2 : (b : Book) → Demand2 b
unfolding post
demand_2 b =
    record {
      accepts = λ s c a. let posted = accepts_it b s c a in rw (posted, worked_sums s (outcome_answer b s posted));
      accepts_only = accepted_only b;
      brings_back = brought_back b;
      brings_none = brought_none b;
      pages = page_of_book b;
    }
