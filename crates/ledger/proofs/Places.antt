-- The place that a post is answered is at most 150, and that any call is, at most 1,000, for every book: only the grounds of a post and of a
-- valuation name one.
use mathlib.Core.Path.{◌≡◌, refl}
use mathlib.Core.List.{List, [], ◌∷◌}
use Prim.Native.Nat.{ℕ, ◌≤◌}
use native.Mathlib.Omega.{arith}
use lib.Dec.{leb}
use lib.ListN.{length}
use Rattle.method.specs.Grounds.{Ground, place_of, Outcome, refused, done, ◌>>=◌}
use Rattle.method.specs.Sheet.{read_sheet}
use Rattle.method.specs.Units.{Which, plain, Pair}
use Rattle.method.specs.Curve.{Curve, year_inside, Held, none, some}
use Rattle.method.proofs.Places.{place, bind_place, demand_place, read_place, curves_place}
use Rattle.method.specs.Enclosure.{low_of, high_of}
use Rattle.zero_rates.specs.Rates.{greatest_multiplier, reaches, zero_rates}
use Rattle.valuation.specs.Block.{Flow, value_on}
use Rattle.valuation.proofs.Checks.{value_place as list_place}
use Rattle.ledger.specs.Answers.{Wanted, factor, sum, Finding, Value, answer_place}
use Rattle.ledger.specs.Sums.{Sums}
use Rattle.ledger.specs.Page.{page_length}
use Rattle.ledger.specs.History.{way_back}
use Rattle.ledger.specs.Book.{Book, booked, not_before, post_outcome, post, last_month, turn_outcome, turn, withdraw}
use Rattle.ledger.specs.Book.{named, young, open_curve, band_at, look_in, shown, look_up, page_outcome, paged_by, page, value_in, value}
use Rattle.ledger.specs.Calls.{Call, post_of, turn_to, withdrawal, asks, look_at, page_into, value_of, answer_of}

-- a refusal is answered as it is, and an accepted call at place 0
booked_place : {A B : Type 0} {m : ℕ} (b : Book) (changed : A → Book) (said : A → B) (o : Outcome A) →
    place o ≤ m → answer_place (booked b changed said o).answer ≤ m
booked_place b changed said (refused g) h = h
booked_place b changed said (done a) h = h

paged_place : {m : ℕ} (l : List ℕ) (o : Outcome (List ℕ)) → place o ≤ m → answer_place (paged_by l o).answer ≤ m
paged_place l (refused g) h = h
paged_place l (done out) h = h

-- ---- post: 5 and 6 have place 0

pub post_place : (b : Book) (s : List ℕ) → answer_place (post b s).answer ≤ 150
unfolding post post_outcome
post_place b s =
    booked_place b _ _ (post_outcome b s)
    (bind_place (read_sheet s) _ (omega (arith, read_place s))
    λ n e. demand_place (leb n.month b.told) _ _ (omega arith)
    (demand_place (not_before b.standing n.month) _ _ (omega arith) (curves_place n)))

-- ---- the other calls: 11 to 18 have place 0

turn_place : (b : Book) (m : ℕ) → answer_place (turn b m).answer ≤ 0
unfolding turn turn_outcome
turn_place b m =
    booked_place b _ _ (turn_outcome b m)
    (demand_place (leb m last_month) _ _ (omega arith) (demand_place (leb b.told m) _ _ (omega arith) (omega arith)))

withdraw_place : (b : Book) → answer_place (withdraw b).answer ≤ 0
unfolding withdraw
withdraw_place b = booked_place b _ _ (way_back b.history.below) (go b.history.below)
  where
    go : (ks : List (Held (List ℕ))) → place (way_back ks) ≤ 0
    go [] = omega arith
    go (k ∷ ks) = omega arith

open_place : (s : Held Curve) (told limit : ℕ) → place (open_curve s told limit) ≤ 0
open_place none told limit = omega arith
open_place (some c) told limit = demand_place (young c told limit) _ _ (omega arith) (omega arith)

look_in_place : (k : Held Curve) (told limit y : ℕ) → answer_place (look_in k told limit y) ≤ 0
unfolding look_in
look_in_place k told limit y =
    demand_place (year_inside y) _ _ (omega arith)
    (bind_place (open_curve k told limit) _ (open_place k told limit)
    λ c e. bind_place (zero_rates y (band_at c y)) _ (demand_place (reaches y (low_of c y) greatest_multiplier) _ _ (omega arith) (omega arith))
    λ r d. omega arith)

-- a sum's is the factor's
shown_place : (v : Wanted) (k : Held Sums) (y : ℕ) (o : Outcome Finding) → answer_place o ≤ 0 → answer_place (shown v k y o) ≤ 0
shown_place factor k y o h = h
shown_place sum k y (refused g) h = h
shown_place sum k y (done f) h = h

look_place : (b : Book) (w : Which) (v : Wanted) (y : ℕ) → answer_place (look_up b w v y) ≤ 0
look_place b w v y = shown_place v _ y _ (look_in_place (named w b.standing) b.told b.age_limit y)

page_place : (b : Book) (w : Which) (l : List ℕ) → answer_place (page b w l).answer ≤ 0
unfolding page_outcome
page_place b w l =
    let k = named w b.standing in
    paged_place l (page_outcome k b.told b.age_limit l)
    (bind_place (open_curve k b.told b.age_limit) _ (open_place k b.told b.age_limit)
    λ c e. demand_place (leb page_length (length l)) _ _ (omega arith) (omega arith))

-- a list has at most 1,000 entries
pub value_place : (b : Book) (fs : List Flow) → answer_place (value b fs) ≤ 1_000
unfolding value_in
value_place b fs =
    let k = named plain b.standing in
    bind_place (open_curve k b.told b.age_limit) _ (omega (arith, open_place k b.told b.age_limit))
    λ c e. by_worth (value_on c fs) (λ g. list_place (low_of c) (high_of c) fs g) _
  where
    by_worth : (o : Outcome Pair) → ((g : Ground) → o ≡ refused g → place_of g ≤ 1_000) → (found : Pair → Value) →
        answer_place (o >>= (λ p. done (found p))) ≤ 1_000
    by_worth (refused g) h found = h g refl
    by_worth (done p) h found = omega arith

pub answer_place_lem : (b : Book) (c : Call) → (answer_of b c).place ≤ 1_000
answer_place_lem b (post_of s) = omega (arith, post_place b s)
answer_place_lem b (turn_to m) = omega (arith, turn_place b m)
answer_place_lem b withdrawal = omega (arith, withdraw_place b)
answer_place_lem b (asks (look_at w v y)) = omega (arith, look_place b w v y)
answer_place_lem b (asks (page_into w l)) = omega (arith, page_place b w l)
answer_place_lem b (asks (value_of fs)) = value_place b fs
