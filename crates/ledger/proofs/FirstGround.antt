-- Demand 1: the result, or the first ground that applies; a refusal changes nothing.
use mathlib.Core.Path.{◌≡◌, refl, ap, sym, ◌∙◌}
use mathlib.Core.Bool.{Bool, true, false, not, ◌&&◌, ◌||◌}
use mathlib.Core.List.{List, [], ◌∷◌, ◌++◌}
use Prim.Native.Nat.{ℕ, zero, suc, ◌+◌, ◌*◌}
use native.Mathlib.Omega.{arith}
use borrow.Author.Tests.{leb-true, leb-false, le-leb, lt-ltb, le-ltb}
use lib.Dec.{leb, ltb, eqb, eqb-suc-zero}
use lib.ListN.{length, drop, get_or}
use lib.IntN.{pos}
use Rattle.fraction.specs.Rounding.{U}
use Rattle.method.specs.Grounds.{Ground, unknown_profile, wrong_length, wrong_record, out_of_range, no_volume, after_told_month, before_standing_curve, month_above_last}
use Rattle.method.specs.Grounds.{month_before_told, year_outside, no_curve, buffer_too_short, age_above_limit, no_high_rate, no_post_left, wrong_count}
use Rattle.method.specs.Grounds.{flow_year_outside, cents_above_limit}
use Rattle.method.specs.Grounds.{Outcome, refused, done, ◌>>=◌, demand}
use Rattle.method.specs.Sheet.{Numbers, profile_known, read_sheet, sheet_numbers, layout_of, size_of, slots_of, first_failure, right_record, in_range, total}
use Rattle.method.specs.Units.{Which, plain, SignedPair}
use Rattle.method.specs.Curve.{Curve, Held, none, some, Curves, curves_of}
use Rattle.method.specs.Enclosure.{low_of, high_of}
use Rattle.method.proofs.Outcome.{split, bind_assoc}
use Rattle.method.proofs.Layouts.{any_length}
use Rattle.zero_rates.specs.Rates.{greatest_multiplier, compound, reaches, rates_of, zero_rates}
use Rattle.zero_rates.proofs.Compounding.{grown_is}
use Rattle.valuation.specs.Block.{Flow, flows_checked, block_checked, value_by, value_on}
use Rattle.valuation.proofs.Theorem.{worth_is}
use Rattle.ledger.specs.Answers.{Wanted, factor, sum, Finding, finding, Value, dated}
use Rattle.ledger.specs.Sums.{Sums}
use Rattle.ledger.specs.Page.{page_bytes}
use Rattle.ledger.specs.History.{way_back}
use Rattle.ledger.specs.Book.{Standing, Book, Booked, booked, not_before, post_outcome, with_curves, post, turn_outcome, with_told, turn}
use Rattle.ledger.specs.Book.{with_history, withdraw, named, sums_named, open_curve, age, band_at, look_in, shown, look_up, page_outcome, paged_by, page}
use Rattle.ledger.specs.Book.{value_in, value}
use Rattle.ledger.specs.Demands.{Applies, when, first, stands_after, vacant, too_old, beyond_reach, shown_in, found_in, month_in, Demand1}
use Rattle.ledger.specs.Demands.{strange_market, lengths_of, among, post_grounds, turn_grounds, withdraw_grounds, look_grounds, page_grounds, turned_to}
use Rattle.ledger.specs.Demands.{entry_grounds, value_grounds, value_at}
use Rattle.ledger.proofs.Asked.{refusal_kept, shown_refused, page_refused}

-- a demand in its turn is a ground that applies where its test fails
demand-first : {A : Type 0} (t : Bool) (g : Ground) (x : Outcome A) (rest : List Applies) (o : Outcome A) → x ≡ first rest o →
    (demand t g >>= (λ _. x)) ≡ first (when (not t) g ∷ rest) o
demand-first true g x rest o e = e
demand-first false g x rest o e = refl

-- the five grounds of reading, then what comes after
read_first :
    (f : Numbers → Outcome Curves) (n : Numbers) (t0 t1 t2 t3 t4 : Bool) (g0 g1 g2 g3 g4 : Ground) (rest : List Applies) (o : Outcome Curves) →
    f n ≡ first rest o →
    ((demand t0 g0 >>= (λ _. demand t1 g1 >>= (λ _. demand t2 g2 >>= (λ _. demand t3 g3 >>= (λ _. demand t4 g4 >>= (λ _. done n)))))) >>= f)
    ≡ first (when (not t0) g0 ∷ when (not t1) g1 ∷ when (not t2) g2 ∷ when (not t3) g3 ∷ when (not t4) g4 ∷ rest) o
read_first f n true true true true true g0 g1 g2 g3 g4 rest o e = e
read_first f n true true true true false g0 g1 g2 g3 g4 rest o e = refl
read_first f n true true true false t4 g0 g1 g2 g3 g4 rest o e = refl
read_first f n true true false t3 t4 g0 g1 g2 g3 g4 rest o e = refl
read_first f n true false t2 t3 t4 g0 g1 g2 g3 g4 rest o e = refl
read_first f n false t1 t2 t3 t4 g0 g1 g2 g3 g4 rest o e = refl

-- the tests, and their opposites as the grounds word them
none_traded : (v : ℕ) → eqb v 0 ≡ not (ltb 0 v)
none_traded zero = refl
none_traded (suc v) = eqb-suc-zero v ∙ ap not (sym (lt-ltb 0 (suc v) (omega arith)))

not_at_most : (t m : ℕ) → ltb t m ≡ not (leb m t)
not_at_most t m = split (leb m t) (λ q. rw (q, le-ltb t m (leb-true m t q))) (λ q. rw (q, lt-ltb t m (leb-false m t q)))

before_standing : (k : Standing) (m : ℕ) → stands_after k m ≡ not (not_before k m)
before_standing none m = refl
before_standing (some k) m = not_at_most m k.curves.plain.month

no_year_lem : (y : ℕ) → eqb y 0 ≡ not (leb 1 y)
no_year_lem zero = refl
no_year_lem (suc y) = eqb-suc-zero y ∙ ap not (sym (le-leb 1 (suc y) (omega arith)))

either_fails : (a b : Bool) → (not a || not b) ≡ not (a && b)
either_fails true b = refl
either_fails false b = refl

-- a market that is named and not known, in the definitions' words
strange : (s : List ℕ) → strange_market s ≡ not (profile_known s)
strange s = go (eqb (get_or s 0 0) 0x08) (ltb 1 (length s)) (get_or s 1 0)
  where
    go : (named more : Bool) (m : ℕ) → (named && (more && (eqb m 0 || ltb 3 m))) ≡ not (not (named && more) || (leb 1 m && leb m 3))
    go false more m = refl
    go true false m = refl
    go true true m = rw (no_year_lem m, not_at_most 3 m) (either_fails (leb 1 m) (leb m 3))

-- the lengths that a sheet may have
allowed : (s : List ℕ) → eqb (length s) (size_of (layout_of s)) ≡ among (length s) (lengths_of s)
allowed s =
    any_length s
    ∙ split (eqb (get_or s 0 0) 0x08)
    (λ t.
    split (eqb (get_or s 1 0) 2)
    (λ u. rw (t, u) refl)
    (λ u. split (eqb (get_or s 1 0) 3) (λ v. rw (t, u, v) refl) (λ v. rw (t, u, v) (none_more (eqb (length s) 111) (eqb (length s) 114) (eqb (length s) 117)))))
    (λ t. rw t (none_more (eqb (length s) 109) (eqb (length s) 112) (eqb (length s) 115)))
  where
    none_more : (a b c : Bool) → (a || (b || c)) ≡ (a || (b || (c || false)))
    none_more a b true = refl
    none_more a b false = refl

outcome_first : (b : Book) (s : List ℕ) → post_outcome b s ≡ first (post_grounds b s) (curves_of (sheet_numbers s))
unfolding post_outcome read_sheet post_grounds
outcome_first b s =
    let n = sheet_numbers s in
    let standing = when (not (not_before b.standing n.month)) before_standing_curve in
    let told = when (not (leb n.month b.told)) after_told_month in
    let o = curves_of n in
    let wrong = first_failure (right_record s) 1 (slots_of (layout_of s)) in
    let outside = first_failure (in_range s) 1 (slots_of (layout_of s)) in
    let two : Applies = when (not (eqb wrong 0)) (wrong_record wrong) in
    let three : Applies = when (not (eqb outside 0)) (out_of_range outside) in
    let four : Applies = when (not (ltb 0 (total n.volumes))) no_volume in
    let later : List Applies = two ∷ three ∷ four ∷ told ∷ standing ∷ [] in
    let strangers : Applies = when (not (profile_known s)) unknown_profile in
    let worked : post_outcome b s ≡ first (strangers ∷ when (not (eqb (length s) (size_of (layout_of s)))) wrong_length ∷ later) o =
    read_first _ n
    (profile_known s) (eqb (length s) (size_of (layout_of s))) (eqb wrong 0) (eqb outside 0) (ltb 0 (total n.volumes))
    _ _ _ _ _ (told ∷ standing ∷ []) o
    (demand-first (leb n.month b.told) after_told_month _ (standing ∷ []) o
    (demand-first (not_before b.standing n.month) before_standing_curve o [] o refl)) in
    rw (strange s, none_traded (total n.volumes), not_at_most b.told n.month, before_standing b.standing n.month)
    (worked ∙ ap (λ (right : Bool). first (strangers ∷ when (not right) wrong_length ∷ later) o) (allowed s))

booked_refused : {A B : Type 0} (b : Book) (changed : A → Book) (said : A → B) (o : Outcome A) (g : Ground) →
    (booked b changed said o).answer ≡ refused g → (booked b changed said o).book ≡ b
booked_refused b changed said (refused x) g e = refl
booked_refused b changed said (done a) g e = absurd (refusal_kept {a = done (said a)} refl e)

pub posted-answer : (b : Book) (s : List ℕ) (o : Outcome Curves) → (booked b (with_curves b s) (λ c. c.plain.month) o).answer ≡ month_in o
posted-answer b s (refused g) = refl
posted-answer b s (done c) = refl

pub turned_answer : (b : Book) (o : Outcome ℕ) → (booked b (with_told b) (λ m. m) o).answer ≡ o
turned_answer b (refused g) = refl
turned_answer b (done m) = refl

turn_outcome-first : (b : Book) (m : ℕ) → turn_outcome b m ≡ first (turn_grounds b m) (done m)
unfolding turn_outcome turn_grounds
turn_outcome-first b m =
    let twelve = when (not (leb b.told m)) month_before_told in
    rw (not_at_most 2_399 m, not_at_most m b.told)
    (demand-first (leb m 2_399) month_above_last _ (twelve ∷ []) (done m) (demand-first (leb b.told m) month_before_told (done m) [] (done m) refl))

-- the greatest rate does not reach
not_reached : (c : Curve) (y : ℕ) → beyond_reach (some c) y ≡ not (reaches y (low_of c y) greatest_multiplier)
unfolding reaches
not_reached c y = rw (grown_is greatest_multiplier (pos 100_000) refl false y) (not_at_most (low_of c y * compound false greatest_multiplier y) (U * U))

-- what is asked for, in place of the factor
found_shown : (v : Wanted) (k : Held Sums) (c : Curve) (y : ℕ) (r : SignedPair) (m a : ℕ) →
    shown v k y (done (finding (band_at c y) r m a)) ≡ done (finding (shown_in v c k y) r m a)
found_shown factor k c y r m a = refl
found_shown sum none c y r m a = refl
found_shown sum (some u) c y r m a = refl

-- 17, then what is found
rated_first : (v : Wanted) (u : Held Sums) (c : Curve) (told y : ℕ) →
    shown v u y (zero_rates y (band_at c y) >>= (λ r. done (finding (band_at c y) r c.month (age told c))))
    ≡ first (when (beyond_reach (some c) y) no_high_rate ∷ []) (done (found_in v told (some c) u y))
rated_first v u c told y = rw (not_reached c y) (by_test (reaches y (low_of c y) greatest_multiplier))
  where
    by_test : (reached : Bool) →
        shown v u y
        ((demand reached no_high_rate >>= (λ _. done (rates_of y (band_at c y)))) >>= (λ r. done (finding (band_at c y) r c.month (age told c))))
        ≡ first (when (not reached) no_high_rate ∷ []) (done (found_in v told (some c) u y))
    by_test true = found_shown v u c y (rates_of y (band_at c y)) c.month (age told c)
    by_test false = shown_refused v u y refl

-- 14 and 16 before them
open_first : (v : Wanted) (u : Held Sums) (k : Held Curve) (told limit y : ℕ) →
    shown v u y (open_curve k told limit >>= (λ c. zero_rates y (band_at c y) >>= (λ r. done (finding (band_at c y) r c.month (age told c)))))
    ≡ first (when (vacant k) no_curve ∷ when (too_old k told limit) age_above_limit ∷ when (beyond_reach k y) no_high_rate ∷ []) (done (found_in v told k u y))
open_first v u none told limit y = shown_refused v u y refl
open_first v u (some c) told limit y = rw (not_at_most limit (age told c)) (by_test (leb (age told c) limit))
  where
    by_test : (young : Bool) →
        shown v u y
        ((demand young age_above_limit >>= (λ _. done c))
        >>= (λ c. zero_rates y (band_at c y) >>= (λ r. done (finding (band_at c y) r c.month (age told c)))))
        ≡ first (when (not young) age_above_limit ∷ when (beyond_reach (some c) y) no_high_rate ∷ []) (done (found_in v told (some c) u y))
    by_test true = rated_first v u c told y
    by_test false = shown_refused v u y refl

-- 13 before these
look_first_is : (b : Book) (w : Which) (v : Wanted) (y : ℕ) →
    look_up b w v y ≡ first (look_grounds b w y) (done (found_in v b.told (named w b.standing) (sums_named w b.standing) y))
unfolding look_in look_grounds
look_first_is b w v y =
    let k = named w b.standing in
    let u = sums_named w b.standing in
    let later = when (vacant k) no_curve ∷ when (too_old k b.told b.age_limit) age_above_limit ∷ when (beyond_reach k y) no_high_rate ∷ [] in
    let found = done (found_in v b.told k u y) in
    rw (no_year_lem y, not_at_most 150 y) (go u _ (leb 1 y) (leb y 150) later found (open_first v u k b.told b.age_limit y))
  where
    go : (u : Held Sums) (o : Outcome Finding) (p q : Bool) (later : List Applies) (r : Outcome Finding) → shown v u y o ≡ first later r →
        shown v u y (demand (p && q) year_outside >>= (λ _. o)) ≡ first (when (not p) year_outside ∷ when (not q) year_outside ∷ later) r
    go u o true true later r e = e
    go u o true false later r e = shown_refused v u y refl
    go u o false q later r e = shown_refused v u y refl

abbrev over : Book → List ℕ → Curve → List ℕ
over b l c = page_bytes c.month (age b.told c) c.lows c.highs ++ drop 1_505 l

page-first_is : (b : Book) (w : Which) (l : List ℕ) → (page b w l).answer ≡ first (page_grounds b w l) (done tt)
unfolding page_outcome page_grounds
page-first_is b w l = rw (not_at_most (length l) 1_505) (go (named w b.standing) (leb 1_505 (length l)))
  where
    by_tests : (c : Curve) (young long : Bool) →
        (paged_by l ((demand young age_above_limit >>= (λ _. done c)) >>= (λ c. demand long buffer_too_short >>= (λ _. done (over b l c))))).answer
        ≡ first (when (not young) age_above_limit ∷ when (not long) buffer_too_short ∷ []) (done tt)
    by_tests c true true = refl
    by_tests c true false = refl
    by_tests c false long = refl

    go : (k : Held Curve) (long : Bool) →
        (paged_by l (open_curve k b.told b.age_limit >>= (λ c. demand long buffer_too_short >>= (λ _. done (over b l c))))).answer
        ≡ first (when (vacant k) no_curve ∷ when (too_old k b.told b.age_limit) age_above_limit ∷ when (not long) buffer_too_short ∷ []) (done tt)
    go none long = refl
    go (some c) long = rw (not_at_most b.age_limit (age b.told c)) (by_tests c (leb (age b.told c) b.age_limit) long)

-- 21 and 22 of the entries, then what comes after
entries_first : {A : Type 0} (k : ℕ) (fs : List Flow) (o : Outcome A) → (flows_checked k fs >>= (λ _. o)) ≡ first (entry_grounds k fs) o
unfolding flows_checked entry_grounds
entries_first k [] o = refl
entries_first k (f ∷ fs) o =
    rw (no_year_lem f.year, not_at_most 150 f.year, not_at_most 1_000_000_000 f.cents)
    (go (leb 1 f.year) (leb f.year 150) (leb f.cents 1_000_000_000) (entries_first (k + 1) fs o))
  where
    go : (p q c : Bool) → (flows_checked (k + 1) fs >>= (λ _. o)) ≡ first (entry_grounds (k + 1) fs) o →
        ((demand (p && q) (flow_year_outside k) >>= (λ _. demand c (cents_above_limit k) >>= (λ _. flows_checked (k + 1) fs))) >>= (λ _. o))
        ≡ first
        (when (not p) (flow_year_outside k) ∷ when (not q) (flow_year_outside k) ∷ when (not c) (cents_above_limit k) ∷ entry_grounds (k + 1) fs) o
    go true true true later = later
    go true true false later = refl
    go true false c later = refl
    go false q c later = refl

-- 20 before them
abbrev listed : List Flow → List Applies
listed fs = when (eqb (length fs) 0) wrong_count ∷ when (ltb 1_000 (length fs)) wrong_count ∷ entry_grounds 1 fs

list_first : {A : Type 0} (fs : List Flow) (o : Outcome A) → (block_checked fs >>= (λ _. o)) ≡ first (listed fs) o
unfolding block_checked
list_first fs o = rw (no_year_lem (length fs), not_at_most 1_000 (length fs)) (go (leb 1 (length fs)) (leb (length fs) 1_000))
  where
    go : (p q : Bool) →
        ((demand (p && q) wrong_count >>= (λ _. flows_checked 1 fs)) >>= (λ _. o))
        ≡ first (when (not p) wrong_count ∷ when (not q) wrong_count ∷ entry_grounds 1 fs) o
    go true true = entries_first 1 fs o
    go true false = refl
    go false q = refl

abbrev valued_on : Book → List Flow → Curve → Outcome Value
valued_on b fs c = value_on c fs >>= (λ worth. done (dated worth c.month (age b.told c)))

-- 14 and 16 before all of these
value-first_is : (b : Book) (fs : List Flow) → value b fs ≡ first (value_grounds b fs) (done (value_at b.told (named plain b.standing) fs))
unfolding value_in value_by value_grounds
value-first_is b fs = go (named plain b.standing)
  where
    on_curve : (c : Curve) → valued_on b fs c ≡ first (listed fs) (done (value_at b.told (some c) fs))
    on_curve c = rw (worth_is (low_of c) (high_of c) fs) (bind_assoc (block_checked fs) _ _ ∙ list_first fs _)

    by_test : (c : Curve) (young : Bool) →
        ((demand young age_above_limit >>= (λ _. done c)) >>= valued_on b fs)
        ≡ first (when (not young) age_above_limit ∷ listed fs) (done (value_at b.told (some c) fs))
    by_test c true = on_curve c
    by_test c false = refl

    go : (k : Held Curve) →
        (open_curve k b.told b.age_limit >>= valued_on b fs)
        ≡ first (when (vacant k) no_curve ∷ when (too_old k b.told b.age_limit) age_above_limit ∷ listed fs) (done (value_at b.told k fs))
    go none = refl
    go (some c) = rw (not_at_most b.age_limit (age b.told c)) (by_test c (leb (age b.told c) b.age_limit))

-- by its two tests
abbrev turned : Book → ℕ → Bool → Bool → Booked ℕ
turned b m p q = booked b (with_told b) (λ m. m) (demand p month_above_last >>= (λ _. demand q month_before_told >>= (λ _. done m)))

turned_told : (b : Book) (m k : ℕ) → (turn b m).answer ≡ done k → (turn b m).book ≡ turned_to b m
unfolding turn turn_outcome
turned_told b m k e = go (leb m 2_399) (leb b.told m) e
  where
    go : (p q : Bool) → (turned b m p q).answer ≡ done k → (turned b m p q).book ≡ turned_to b m
    go true true e = refl
    go true false e = absurd (refusal_kept e refl)
    go false q e = absurd (refusal_kept e refl)

-- a withdrawal, by the ways back
abbrev pub withdrawn : Book → List (Held (List ℕ)) → Booked (Unit {0})
withdrawn b ks = booked b (with_history b) (λ h. tt) (way_back ks)

withdraw-first_is : (b : Book) → (withdraw b).answer ≡ first (withdraw_grounds b) (done tt)
unfolding withdraw withdraw_grounds
withdraw-first_is b = go b.history.below
  where
    go : (ks : List (Held (List ℕ))) → (withdrawn b ks).answer ≡ first (when (eqb (length ks) 0) no_post_left ∷ []) (done tt)
    go [] = refl
    go (k ∷ ks) = rw (eqb-suc-zero (length ks))

withdrawn_told : (b : Book) → (withdraw b).book.told ≡ b.told
unfolding withdraw
withdrawn_told b = go b.history.below
  where
    go : (ks : List (Held (List ℕ))) → (withdrawn b ks).book.told ≡ b.told
    go [] = refl
    go (k ∷ ks) = refl

pub demand_1 : (b : Book) → Demand1 b
unfolding post turn withdraw
demand_1 b =
    record {
      post_first = λ s. posted-answer b s (post_outcome b s) ∙ ap month_in (outcome_first b s);
      post_refused = λ s g e. booked_refused b (with_curves b s) (λ c. c.plain.month) (post_outcome b s) g e;
      turn_first = λ m. turned_answer b (turn_outcome b m) ∙ turn_outcome-first b m;
      turn_refused = λ m g e. booked_refused b (with_told b) (λ m. m) (turn_outcome b m) g e;
      turn_told = turned_told b;
      withdraw_first = withdraw-first_is b;
      withdraw_refused = λ g e. booked_refused b (with_history b) (λ h. tt) (way_back b.history.below) g e;
      withdraw_told = withdrawn_told b;
      look_first = look_first_is b;
      page_first = page-first_is b;
      page_refused = page_refused b;
      value_first = value-first_is b;
    }
