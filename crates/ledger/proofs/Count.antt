-- The book that a count stands for, with any age limit, and that each call moves both alike, and the count that a caller keeps by the answers.
use mathlib.Core.Path.{◌≡◌, refl, ap, sym, subst, ◌∙◌}
use mathlib.Core.Bool.{Bool, true, false, ◌&&◌}
use mathlib.Core.List.{List, [], ◌∷◌}
use Prim.Native.Nat.{ℕ, zero, suc, ◌-◌, ◌≤◌}
use native.Mathlib.Omega.{arith}
use borrow.Author.Tests.{leb-true, lt-ltb}
use lib.Dec.{T, leb, ltb}
use lib.ListN.{length, drop}
use Rattle.method.specs.Grounds.{after_told_month, before_standing_curve, Outcome, refused, done, ◌>>=◌, demand}
use Rattle.method.specs.Sheet.{Numbers, sheet_numbers, read_sheet}
use Rattle.method.specs.Units.{Which, plain, adjusted}
use Rattle.method.specs.Curve.{Curve, Held, none, some, Curves, curve_named, adjusted_curve, adjusted_if, curves_of, answer_with, answer}
use Rattle.method.proofs.Enclosure.{Worked, worked, enclosure}
use Rattle.method.proofs.Reading.{read_passes}
use Rattle.method.proofs.Outcome.{split, bind_done, demand_done, done_injective}
use Rattle.ledger.specs.Sums.{summed}
use Rattle.ledger.specs.Book.{Book, not_before, post_outcome, post, turn_outcome, turn, standing_of, withdraw}
use Rattle.ledger.specs.Calls.{Call, post_of, turn_to, withdrawal, asks, after, run_from}
use Rattle.ledger.specs.Count.{Count, latest, last_sheet, month_of, has_adjustment, carries, is_done}
use Rattle.ledger.specs.Count.{works, in_order, accepts_sheet, accepts_month, accepts_withdrawal, counted, count_from, typed}
use Rattle.ledger.specs.Demands.{seen, with_sums}
use Rattle.ledger.proofs.Typed.{typed_is}
use Rattle.ledger.proofs.Ways.{history_of, posted_history}
use Rattle.ledger.proofs.Sums.{sums_are, held_sums_are}

-- ---- a sheet that was read has the numbers of its bytes

pub read_typed : (s : List ℕ) {n : Numbers} → read_sheet s ≡ done n → n ≡ typed s
read_typed s {n} e = let p = read_passes s n e in sym p.numbers ∙ typed_is s p.long p.right

read_month : (s : List ℕ) {n : Numbers} → read_sheet s ≡ done n → n.month ≡ month_of s
unfolding typed
read_month s e = ap (λ (k : Numbers). k.month) (read_typed s e)

-- a post that goes through works the sheet that its bytes alone give
pub outcome_answer : (b : Book) (s : List ℕ) {k : Curves} → post_outcome b s ≡ done k → answer s ≡ done k
unfolding post_outcome answer_with
outcome_answer b s e =
    let read = bind_done (read_sheet s) _ e in
    let n = read.0 in
    let five = demand_done (leb n.month b.told) after_told_month _ read.2 in
    let six = demand_done (not_before b.standing n.month) before_standing_curve _ five.1 in
    rw read.1 six.1

-- ---- the book that a count stands for

abbrev pub book_of : ℕ → Count → Book
book_of limit c =
    record { age_limit = limit; told = c.told; standing = standing_of (last_sheet c); history = history_of c.posts c.depth }

-- each sheet works, and its month is not after the told one
abbrev pub Sound : ℕ → List ℕ → Type 0
Sound told s = (works s ≡ true) × (month_of s ≤ told)

abbrev pub AllSound : ℕ → List (List ℕ) → Type 0
AllSound told [] = Unit {0}
AllSound told (s ∷ ss) = Sound told s × AllSound told ss

-- the told month is one that can be told, and no more posts can be withdrawn than there are, nor more than three
pub record SoundCount (c : Count) : Type 0 where
  pub month : c.told ≤ 2_399
  pub sheets : AllSound c.told c.posts
  pub enough : c.depth ≤ length c.posts
  pub three : c.depth ≤ 3

and_left : (a b : Bool) → (a && b) ≡ true → a ≡ true
and_left true b e = refl
and_left false b e = e

and_right : (a b : Bool) → (a && b) ≡ true → b ≡ true
and_right true b e = e
and_right false b e = absurd (subst T (sym e) tt)

later_sound : (told m : ℕ) (ss : List (List ℕ)) → AllSound told ss → told ≤ m → AllSound m ss
later_sound told m [] g l = tt
later_sound told m (s ∷ ss) g l = ((g.0.0, omega (arith, g.0.1)), later_sound told m ss g.1 l)

-- without the latest
rest_sound : (told : ℕ) (ss : List (List ℕ)) → AllSound told ss → AllSound told (drop 1 ss)
rest_sound told [] g = tt
rest_sound told (s ∷ ss) g = g.1

rest_length : (ss : List (List ℕ)) → length (drop 1 ss) ≡ length ss - 1
rest_length [] = refl
rest_length (s ∷ ss) = omega arith

pub sound : (c : Count) → SoundCount c → (d : Call) → SoundCount (counted c d)
unfolding accepts_sheet accepts_month
sound c g (post_of s) =
    split (accepts_sheet c s)
    (λ q. rw q
    (let in-time = leb-true _ _ (and_left (leb (month_of s) c.told) _ (and_right (works s) _ q)) in
    record {
      month = g.month;
      sheets = ((and_left (works s) _ q, in-time), g.sheets);
      enough = omega (arith, g.enough);
      three = omega arith;
    }))
    (λ q. rw q g)
sound c g (turn_to m) =
    split (accepts_month c m)
    (λ q. rw q
    (record {
      month = leb-true _ _ (and_left (leb m 2_399) _ q);
      sheets = later_sound c.told m c.posts g.sheets (leb-true _ _ (and_right (leb m 2_399) _ q));
      enough = g.enough;
      three = g.three;
    }))
    (λ q. rw q g)
sound c g withdrawal =
    split (accepts_withdrawal c)
    (λ q. rw q
    (record {
      month = g.month;
      sheets = rest_sound c.told c.posts g.sheets;
      enough = omega (arith, g.enough, rest_length c.posts);
      three = omega (arith, g.three);
    }))
    (λ q. rw q g)
sound c g (asks q) = g

pub all_sound : (c : Count) → SoundCount c → (ds : List Call) → SoundCount (count_from c ds)
all_sound c g [] = g
all_sound c g (d ∷ ds) = all_sound (counted c d) (sound c g d) ds

pub works_done : (s : List ℕ) → works s ≡ true → (cs : Curves) × (answer s ≡ done cs)
works_done s e = go (answer s) refl e
  where
    go : (o : Outcome Curves) → answer s ≡ o → is_done o ≡ true → (cs : Curves) × (answer s ≡ done cs)
    go (refused g) h t = absurd (subst T (sym t) tt)
    go (done cs) h t = (cs, h)

-- a sheet that works is typed as its records are
pub answer_typed : (s : List ℕ) {cs : Curves} → answer s ≡ done cs → sheet_numbers s ≡ typed s
unfolding answer_with
answer_typed s e =
    let read = bind_done (read_sheet s) curves_of e in
    let p = read_passes s read.0 read.1 in
    typed_is s p.long p.right

-- each of its curves has the month of its bytes
pub curve_month : (w : Which) (s : List ℕ) {cs : Curves} → answer s ≡ done cs → (c : Curve) → curve_named w cs ≡ some c → c.month ≡ month_of s
unfolding typed
curve_month w s {cs} e c named = (enclosure w s cs e c named).month_kept ∙ ap (λ (k : Numbers). k.month) (answer_typed s e)

pub answer_month : (s : List ℕ) {cs : Curves} → answer s ≡ done cs → cs.plain.month ≡ month_of s
answer_month s {cs} e = curve_month plain s e cs.plain refl

-- each of them has 150 years, and so its sums are those of years 1 to 150
pub worked_sums : (s : List ℕ) {cs : Curves} → answer s ≡ done cs → summed cs ≡ with_sums cs
worked_sums s {cs} e =
    let of_plain = years plain cs.plain refl in
    rw (sums_are cs.plain of_plain.0 of_plain.1, held_sums_are cs.adjusted (years adjusted))
  where
    years : (w : Which) (c : Curve) → curve_named w cs ≡ some c → (length c.lows ≡ 150) × (length c.highs ≡ 150)
    years w c named = let holds = enclosure w s cs e c named in (holds.years_of_lows, holds.years_of_highs)

-- ---- the curve that is named

adjusted_there : (t : Bool) (n : Numbers) {k : Held Curve} → t ≡ true → adjusted_if t n ≡ done k → (c : Curve) × (k ≡ some c)
adjusted_there true n t e = let made = bind_done (adjusted_curve n) _ e in (made.0, sym (done_injective made.2))
adjusted_there false n t e = absurd (subst T (sym t) tt)

adjusted_not_there : (t : Bool) (n : Numbers) {k : Held Curve} → t ≡ false → adjusted_if t n ≡ done k → k ≡ none
adjusted_not_there true n t e = absurd (subst T t tt)
adjusted_not_there false n t e = sym (done_injective e)

-- what the sheet was worked from
worked_from : (s : List ℕ) {cs : Curves} → answer s ≡ done cs → (n : Numbers) × (n.adjusts ≡ has_adjustment s) × Worked n cs
unfolding answer_with typed
worked_from s {cs} e =
    let read = bind_done (read_sheet s) curves_of e in
    (read.0, ap (λ (k : Numbers). k.adjusts) (read_typed s read.1), worked read.0 cs read.2)

-- an adjusted curve is there exactly where the bytes have an adjustment
pub curve_there : (w : Which) (s : List ℕ) {cs : Curves} → answer s ≡ done cs → carries w s ≡ true → (c : Curve) × (curve_named w cs ≡ some c)
curve_there plain s {cs} e t = (cs.plain, refl)
curve_there adjusted s e t = let (n, same, made) = worked_from s e in adjusted_there n.adjusts n (same ∙ t) made.adjusted_done

pub curve_missing : (w : Which) (s : List ℕ) {cs : Curves} → answer s ≡ done cs → carries w s ≡ false → curve_named w cs ≡ none
curve_missing plain s e t = absurd (subst T t tt)
curve_missing adjusted s e t = let (n, same, made) = worked_from s e in adjusted_not_there n.adjusts n (same ∙ t) made.adjusted_done

-- ---- post

-- grounds 5 and 6 before the curve's own, or all three at once
in_any_order : (o : Outcome Curves) (five six : Bool) →
    (is_done o && (five && six)) ≡ is_done (demand five after_told_month >>= (λ _. demand six before_standing_curve >>= (λ _. o)))
in_any_order (refused g) true true = refl
in_any_order (refused g) true false = refl
in_any_order (refused g) false six = refl
in_any_order (done c) true true = refl
in_any_order (done c) true false = refl
in_any_order (done c) false six = refl

same_tests : (o : Outcome Curves) (five six five' six' : Bool) → five' ≡ five → six' ≡ six →
    (is_done o && (five && six)) ≡ is_done (demand five' after_told_month >>= (λ _. demand six' before_standing_curve >>= (λ _. o)))
same_tests o five six five' six' p q = rw (p, q) (in_any_order o five six)

in_order_lem : (told : ℕ) (ss : List (List ℕ)) → AllSound told ss → (m : ℕ) → not_before (standing_of (latest ss)) m ≡ in_order (latest ss) m
in_order_lem told [] g m = refl
in_order_lem told (s ∷ ss) g m = let a = works_done s g.0.0 in rw (a.1, answer_month s a.1)

-- the count accepts exactly what the book accepts
pub accepts_post : (limit : ℕ) (c : Count) → SoundCount c → (s : List ℕ) → accepts_sheet c s ≡ is_done (post_outcome (book_of limit c) s)
unfolding accepts_sheet post_outcome answer_with
accepts_post limit c g s = go (read_sheet s) refl
  where
    go : (o : Outcome Numbers) → read_sheet s ≡ o → accepts_sheet c s ≡ is_done (post_outcome (book_of limit c) s)
    go (refused x) e = rw e
    go (done n) e =
        let m = read_month s e in
        rw e
        (same_tests (curves_of n) _ _ _ _ (ap (λ (k : ℕ). leb k c.told) m)
        (ap (λ (k : ℕ). not_before (standing_of (last_sheet c)) k) m ∙ in_order_lem c.told c.posts g.sheets (month_of s)))

-- a call moves the book, and the count of a caller who sees its answer, as it moves the count
pub record Moves (limit : ℕ) (c : Count) (d : Call) : Type 0 where
  pub book : after (book_of limit c) d ≡ book_of limit (counted c d)
  pub caller : seen c (book_of limit c) d ≡ counted c d

post_moves : (limit : ℕ) (c : Count) → SoundCount c → (s : List ℕ) → Moves limit c (post_of s)
unfolding post
post_moves limit c g s = go (post_outcome (book_of limit c) s) refl
  where
    go : (o : Outcome Curves) → post_outcome (book_of limit c) s ≡ o → Moves limit c (post_of s)
    go (refused x) e = record { book = rw (accepts_post limit c g s, after, e); caller = rw (accepts_post limit c g s, seen, e) }
    go (done k) e =
        record {
          book = rw (accepts_post limit c g s, after, e, outcome_answer (book_of limit c) s e, posted_history s c.posts c.depth);
          caller = rw (accepts_post limit c g s, seen, e) (ap (λ (n : ℕ). record { told = c.told; posts = s ∷ c.posts; depth = n }) (omega arith));
        }

-- ---- turn

turn_moves : (limit : ℕ) (c : Count) (m : ℕ) → Moves limit c (turn_to m)
unfolding turn turn_outcome accepts_month
turn_moves limit c m =
    split (leb m 2_399)
    (λ p. split (leb c.told m)
    (λ q. record { book = rw (after, p, q); caller = rw (seen, p, q) })
    (λ q. record { book = rw (after, p, q); caller = rw (seen, p, q) }))
    (λ p. record { book = rw (after, p); caller = rw (seen, p) })

-- ---- withdrawal: there is a way back exactly where the depth is above 0, and it leads to the sheet below

withdrawn_from :
    (limit told : ℕ) (ss : List (List ℕ)) (depth : ℕ) → depth ≤ length ss → Moves limit (record { told = told; posts = ss; depth = depth }) withdrawal
unfolding withdraw accepts_withdrawal
withdrawn_from limit told ss zero h = record { book = refl; caller = refl }
withdrawn_from limit told [] (suc depth) h = absurd (omega (arith, h))
withdrawn_from limit told (s ∷ ss) (suc depth) h =
    let deep : ltb 0 (suc depth) ≡ true = lt-ltb 0 (suc depth) (omega arith) in
    let less : suc depth - 1 ≡ depth = omega arith in
    record { book = rw (deep, less); caller = rw deep }

-- ---- every call, and every list of them

pub moves : (limit : ℕ) (c : Count) → SoundCount c → (d : Call) → Moves limit c d
moves limit c g (post_of s) = post_moves limit c g s
moves limit c g (turn_to m) = turn_moves limit c m
moves limit c g withdrawal = withdrawn_from limit c.told c.posts c.depth g.enough
moves limit c g (asks q) = record { book = refl; caller = refl }

pub step : (limit : ℕ) (c : Count) → SoundCount c → (d : Call) → after (book_of limit c) d ≡ book_of limit (counted c d)
step limit c g d = (moves limit c g d).book

pub steps : (limit : ℕ) (c : Count) → SoundCount c → (ds : List Call) → run_from (book_of limit c) ds ≡ book_of limit (count_from c ds)
steps limit c g [] = refl
steps limit c g (d ∷ ds) = rw (step limit c g d) (steps limit (counted c d) (sound c g d) ds)
