-- A turn can close a curve, which the book still holds. And the age limit does nothing else: after the same calls, books of any two
-- limits hold the same curve at the same month, so that openCurve alone can tell them apart.
use mathlib.Core.Path.{◌≡◌, refl, ap, sym, ◌∙◌}
use mathlib.Core.Bool.{Bool, true, false, ◌&&◌}
use mathlib.Core.List.{List, [], ◌∷◌}
use mathlib.Core.Logic.{◌⊎◌, inl, inr}
use Prim.Native.Nat.{ℕ, ◌+◌, ◌-◌, ◌≤◌, ◌<◌, min}
use native.Mathlib.Omega.{arith}
use borrow.Author.Tests.{leb-true, le-leb}
use lib.Dec.{leb}
use lib.ListN.{length}
use Rattle.method.specs.Units.{Which, Pair, SignedPair}
use Rattle.method.specs.Grounds.{Ground, number_of, year_outside, buffer_too_short, age_above_limit, no_high_rate, Outcome, refused, done, ◌>>=◌, demand}
use Rattle.method.specs.Curve.{Curve, year_inside, Held, none, some}
use Rattle.method.specs.Enclosure.{low_of, high_of}
use Rattle.method.proofs.Outcome.{split, bind_done, demand_done, done_injective, refused_not_done, both_true}
use Rattle.zero_rates.specs.Rates.{greatest_multiplier, reaches, zero_rates}
use Rattle.valuation.specs.Block.{Flow, value_on}
use Rattle.valuation.proofs.Checks.{value_from_20}
use Rattle.ledger.specs.Answers.{Wanted, factor, sum, Finding, Value, answer_number}
use Rattle.ledger.specs.Sums.{Sums}
use Rattle.ledger.specs.Book.{Book, post_outcome, post, with_told, turn_outcome, turn, withdraw}
use Rattle.ledger.specs.Book.{named, sums_named, young, open_curve, band_at, look_in, shown, page_outcome, paged_by, page_in, value_in}
use Rattle.ledger.specs.Calls.{Question, look_at, page_into, value_of, Call, asks, answered, answer_of}
use Rattle.ledger.specs.Count.{Count, count}
use Rattle.ledger.specs.Demands.{Closes, TurnCloses, OnlyCloses}
use Rattle.ledger.proofs.Count.{book_of}
use Rattle.ledger.proofs.Asked.{shown_refused, shown_number, closed_old, look_closed}
use Rattle.ledger.proofs.Theorem.{run_is, run_sound}
use Rattle.ledger.proofs.FirstGround.{posted-answer, turned_answer, withdrawn}

-- ---- a turn closes a curve

open_stands : (s : Held Curve) (told limit : ℕ) (c : Curve) → open_curve s told limit ≡ done c → s ≡ some c
open_stands none told limit c e = absurd (refused_not_done e)
open_stands (some d) told limit c e = ap some (done_injective (demand_done (young d told limit) age_above_limit _ e).1)

-- a look-up that found something
record Shown (s : Held Curve) (y : ℕ) (f : Finding) : Type 0 where
  from_1 : 1 ≤ y
  to_150 : y ≤ 150
  curve : Curve
  stands : s ≡ some curve
  month_shown : f.month ≡ curve.month

shown_by : (s : Held Curve) (told limit y : ℕ) (f : Finding) → look_in s told limit y ≡ done f → Shown s y f
unfolding look_in
shown_by s told limit y f e =
    let inside = demand_done (year_inside y) year_outside _ e in
    let year = both_true (leb 1 y) (leb y 150) inside.0 in
    let opened = bind_done (open_curve s told limit) _ inside.1 in
    let rated = bind_done (zero_rates y (band_at opened.0 y)) _ opened.2 in
    record {
      from_1 = leb-true 1 y year.0;
      to_150 = leb-true y 150 year.1;
      curve = opened.0;
      stands = open_stands s told limit opened.0 opened.1;
      month_shown = ap (λ (g : Finding). g.month) (sym (done_injective rated.2));
    }

-- whatever it asked for, a factor of this month was found
was_shown : (v : Wanted) (k : Held Sums) (y : ℕ) (o : Outcome Finding) {f : Finding} → shown v k y o ≡ done f →
    (g : Finding) × (o ≡ done g) × (f.month ≡ g.month)
was_shown factor k y o {f} e = (f, e, refl)
was_shown sum k y o e = let found = bind_done o _ e in (found.0, found.1, ap (λ (g : Finding). g.month) (sym (done_injective found.2)))

turn_closes_it : (b : Book) (w : Which) (v : Wanted) (y m : ℕ) (f : Finding) → Shown (named w b.standing) y f → b.told ≤ m → m ≤ 2_399 →
    f.month + b.age_limit < m → Closes b w v y m
unfolding turn turn_outcome
turn_closes_it b w v y m f s to last older =
    record {
      accepted = rw turned;
      still_held = rw turned;
      closed =
          rw turned
          (shown_refused v (sums_named w b.standing) y (look_closed (named w b.standing) m b.age_limit y too_old s.from_1 s.to_150));
    }
  where
    turned : turn b m ≡ record { book = with_told b m; answer = done m }
    turned = rw (le-leb m 2_399 last, le-leb b.told m to)

    too_old : open_curve (named w b.standing) m b.age_limit ≡ refused age_above_limit
    too_old = closed_old (named w b.standing) m b.age_limit s.curve s.stands (omega (arith, older, s.month_shown))

pub turn_closes : (b : Book) → TurnCloses b
turn_closes b w v y m f e to last older =
    let k = named w b.standing in
    let (g, found, month) = was_shown v (sums_named w b.standing) y (look_in k b.told b.age_limit y) e in
    turn_closes_it b w v y m g (shown_by k b.told b.age_limit y g found) to last (rw month at older)

-- ---- and the limit does nothing else

module _ (told : ℕ) (m : told ≤ 2_399) where
  -- no age is above the largest limit
  largest_opens : (c : Curve) → open_curve (some c) told 2_399 ≡ done c
  largest_opens c = rw (le-leb (told - c.month) 2_399 (omega arith))

  closed_or_open : (s : Held Curve) (limit : ℕ) → (open_curve s told limit ≡ refused age_above_limit) ⊎ (open_curve s told limit ≡ open_curve s told 2_399)
  closed_or_open none limit = inr refl
  closed_or_open (some c) limit = split (leb (told - c.month) limit) (λ q. inr (rw (q, largest_opens c))) (λ q. inl (rw q))

  look_closed_or_same : (s : Held Curve) (limit y : ℕ) → (answer_number (look_in s told limit y) ≡ 16) ⊎ (look_in s told limit y ≡ look_in s told 2_399 y)
  unfolding look_in
  look_closed_or_same s limit y = split (leb 1 y && leb y 150) (λ inside. go inside (closed_or_open s limit)) (λ outside. inr (rw outside))
    where
      go : (leb 1 y && leb y 150) ≡ true → (open_curve s told limit ≡ refused age_above_limit) ⊎ (open_curve s told limit ≡ open_curve s told 2_399) →
          (answer_number (look_in s told limit y) ≡ 16) ⊎ (look_in s told limit y ≡ look_in s told 2_399 y)
      go inside (inl e) = inl (rw (inside, e))
      go inside (inr e) = inr (rw e)

  -- whatever is asked for
  shown_closed_or_same : (s : Held Curve) (u : Held Sums) (limit : ℕ) (v : Wanted) (y : ℕ) →
      (answer_number (shown v u y (look_in s told limit y)) ≡ 16) ⊎ (shown v u y (look_in s told limit y) ≡ shown v u y (look_in s told 2_399 y))
  shown_closed_or_same s u limit v y = go (look_closed_or_same s limit y)
    where
      go : (answer_number (look_in s told limit y) ≡ 16) ⊎ (look_in s told limit y ≡ look_in s told 2_399 y) →
          (answer_number (shown v u y (look_in s told limit y)) ≡ 16) ⊎ (shown v u y (look_in s told limit y) ≡ shown v u y (look_in s told 2_399 y))
      go (inl e) = inl (shown_number v u y (look_in s told limit y) ∙ e)
      go (inr e) = inr (ap (shown v u y) e)

  page_closed_or_same :
      (s : Held Curve) (limit : ℕ) (l : List ℕ) → (answer_number (page_in s told limit l).answer ≡ 16) ⊎ (page_in s told limit l ≡ page_in s told 2_399 l)
  unfolding page_outcome
  page_closed_or_same s limit l = go (closed_or_open s limit)
    where
      go : (open_curve s told limit ≡ refused age_above_limit) ⊎ (open_curve s told limit ≡ open_curve s told 2_399) →
          (answer_number (page_in s told limit l).answer ≡ 16) ⊎ (page_in s told limit l ≡ page_in s told 2_399 l)
      go (inl e) = inl (rw e)
      go (inr e) = inr (rw e)

  value_closed_or_same : (s : Held Curve) (limit : ℕ) (fs : List Flow) →
      (answer_number (value_in s told limit fs) ≡ 16) ⊎ (value_in s told limit fs ≡ value_in s told 2_399 fs)
  unfolding value_in
  value_closed_or_same s limit fs = go (closed_or_open s limit)
    where
      go : (open_curve s told limit ≡ refused age_above_limit) ⊎ (open_curve s told limit ≡ open_curve s told 2_399) →
          (answer_number (value_in s told limit fs) ≡ 16) ⊎ (value_in s told limit fs ≡ value_in s told 2_399 fs)
      go (inl e) = inl (rw e)
      go (inr e) = inr (rw e)

  -- 13, 14, 17 or 0
  look_never_closed : (s : Held Curve) (y : ℕ) → answer_number (look_in s told 2_399 y) ≡ 16 → ⊥
  unfolding look_in
  look_never_closed s y e = go s (leb 1 y && leb y 150) _ _ e
    where
      rated : (reached : Bool) (r : SignedPair) (found : SignedPair → Finding) →
          answer_number ((demand reached no_high_rate >>= (λ _. done r)) >>= (λ r. done (found r))) ≡ 16 → ⊥
      rated true r found e = omega (arith, e)
      rated false r found e = omega (arith, e)

      go : (s : Held Curve) (inside : Bool) (band : Curve → Pair) (found : Curve → SignedPair → Finding) →
          answer_number (demand inside year_outside >>= (λ _. open_curve s told 2_399 >>= (λ c. zero_rates y (band c) >>= (λ r. done (found c r))))) ≡ 16 → ⊥
      go s false band found e = omega (arith, e)
      go none true band found e = omega (arith, e)
      go (some c) true band found e = rated (reaches y (band c).low greatest_multiplier) _ (found c) (rw (largest_opens c) at e)

  -- 14, 15 or 0
  page_never_closed : (s : Held Curve) (l : List ℕ) → answer_number (page_in s told 2_399 l).answer ≡ 16 → ⊥
  unfolding page_outcome
  page_never_closed s l e = go s (leb 1_505 (length l)) _ e
    where
      written : (long : Bool) (out : List ℕ) → answer_number (paged_by l (demand long buffer_too_short >>= (λ _. done out))).answer ≡ 16 → ⊥
      written true out e = omega (arith, e)
      written false out e = omega (arith, e)

      go : (s : Held Curve) (long : Bool) (over : Curve → List ℕ) →
          answer_number (paged_by l (open_curve s told 2_399 >>= (λ c. demand long buffer_too_short >>= (λ _. done (over c))))).answer ≡ 16 → ⊥
      go none long over e = omega (arith, e)
      go (some c) long over e = written long (over c) (rw (largest_opens c) at e)

  -- 14, 20 to 22 or 0
  value_never_closed : (s : Held Curve) (fs : List Flow) → answer_number (value_in s told 2_399 fs) ≡ 16 → ⊥
  unfolding value_in
  value_never_closed none fs e = omega (arith, e)
  value_never_closed (some c) fs e = by_worth (value_on c fs) (λ g. value_from_20 (low_of c) (high_of c) fs g) _ (rw (largest_opens c) at e)
    where
      by_worth : (o : Outcome Pair) → ((g : Ground) → o ≡ refused g → 20 ≤ number_of g) → (found : Pair → Value) →
          answer_number (o >>= (λ p. done (found p))) ≡ 16 → ⊥
      by_worth (refused g) n found e = omega (arith, e, n g refl)
      by_worth (done x) n found e = omega (arith, e)

-- whatever the limit, a post, a turn and a withdrawal are answered by the told month, the curve and the ways back alone
same_posts_of : (limit : ℕ) (c : Count) (s : List ℕ) → (post (book_of limit c) s).answer ≡ (post (book_of 2_399 c) s).answer
unfolding post post_outcome
same_posts_of limit c s =
    let o = post_outcome (book_of limit c) s in
    posted-answer (book_of limit c) s o ∙ sym (posted-answer (book_of 2_399 c) s o)

same_turns_of : (limit : ℕ) (c : Count) (m : ℕ) → (turn (book_of limit c) m).answer ≡ (turn (book_of 2_399 c) m).answer
unfolding turn turn_outcome
same_turns_of limit c m =
    let o = turn_outcome (book_of limit c) m in
    turned_answer (book_of limit c) o ∙ sym (turned_answer (book_of 2_399 c) o)

same_withdrawals_of : (limit : ℕ) (c : Count) → (withdraw (book_of limit c)).answer ≡ (withdraw (book_of 2_399 c)).answer
unfolding withdraw
same_withdrawals_of limit c = go (book_of limit c).history.below
  where
    go : (ks : List (Held (List ℕ))) → (withdrawn (book_of limit c) ks).answer ≡ (withdrawn (book_of 2_399 c) ks).answer
    go [] = refl
    go (k ∷ ks) = refl

question_closed_or_same : (limit : ℕ) (c : Count) → c.told ≤ 2_399 → (q : Question) →
    ((answer_of (book_of limit c) (asks q)).number ≡ 16) ⊎ (answered (book_of limit c) q ≡ answered (book_of 2_399 c) q)
question_closed_or_same limit c m (look_at w v y) =
    shown_closed_or_same c.told m (named w (book_of limit c).standing) (sums_named w (book_of limit c).standing) limit v y
question_closed_or_same limit c m (page_into w l) = page_closed_or_same c.told m _ limit l
question_closed_or_same limit c m (value_of fs) = value_closed_or_same c.told m _ limit fs

question_never_closed : (c : Count) → c.told ≤ 2_399 → (q : Question) → (answer_of (book_of 2_399 c) (asks q)).number ≡ 16 → ⊥
question_never_closed c m (look_at w v y) e =
    let k = named w (book_of 2_399 c).standing in
    look_never_closed c.told m k y (sym (shown_number v (sums_named w (book_of 2_399 c).standing) y (look_in k c.told 2_399 y)) ∙ e)
question_never_closed c m (page_into w l) e = page_never_closed c.told m _ l e
question_never_closed c m (value_of fs) e = value_never_closed c.told m _ fs e

pub only_closes : (limit : ℕ) (cs : List Call) → OnlyCloses limit cs
only_closes limit cs =
    record {
      same_standing = rw (run_is limit cs, run_is 2_399 cs);
      same_history = rw (run_is limit cs, run_is 2_399 cs);
      same_told = rw (run_is limit cs, run_is 2_399 cs);
      same_posts = rw (run_is limit cs, run_is 2_399 cs) (same_posts_of (min limit 2_399) (count cs));
      same_turns = rw (run_is limit cs, run_is 2_399 cs) (same_turns_of (min limit 2_399) (count cs));
      same_withdrawals = rw (run_is limit cs, run_is 2_399 cs) (same_withdrawals_of (min limit 2_399) (count cs));
      closed_or_same = rw (run_is limit cs, run_is 2_399 cs) (question_closed_or_same (min limit 2_399) (count cs) (run_sound cs).month);
      largest_never_closes = rw (run_is 2_399 cs) (question_never_closed (count cs) (run_sound cs).month);
    }
