-- SPECIFICATION 8: the three demands, as statements over the definitions.
use Rattle.std.specs.Prelude.{◌≡◌, Bool, true, false, cond, not, ◌&&◌, ◌||◌, List, [], ◌∷◌, ◌++◌, map, ◌⊎◌, ◌↔◌, ℕ, ◌+◌, ◌-◌, ◌/◌, ◌≤◌, ◌<◌, min, ltb, eqb, pos, ◌*ℤ◌, length, get_or, take, drop, replicate}
use Rattle.std.specs.Int.Signed.{lt_z}
use Rattle.fraction.specs.Rounding.{ceil_div}
use Rattle.method.specs.Units.{Which, plain, Pair, pair, signed_pair}
use Rattle.method.specs.Grounds.{Ground, unknown_profile, wrong_length, wrong_record, out_of_range, no_volume, after_told_month, before_standing_curve}
use Rattle.method.specs.Grounds.{month_above_last, month_before_told, year_outside, no_curve, buffer_too_short, age_above_limit, no_high_rate, no_post_left, wrong_count}
use Rattle.method.specs.Grounds.{flow_year_outside, cents_above_limit}
use Rattle.method.specs.Grounds.{Outcome, refused, done}
use Rattle.method.specs.Sheet.{Numbers, read_sheet, sheet_numbers, layout_of, slots_of, first_failure, right_record, in_range, total}
use Rattle.method.specs.Curve.{Curve, Held, none, some, Curves, curves_of, answer}
use Rattle.method.specs.Enclosure.{low_of, high_of}
use Rattle.zero_rates.specs.Rates.{rates_of}
use Rattle.zero_rates.specs.Meaning.{grown}
use Rattle.valuation.specs.Block.{Flow}
use Rattle.valuation.specs.Meaning.{sum_to, cost_of}
use Rattle.ledger.specs.Answers.{Wanted, factor, sum, Finding, finding, Value, dated}
use Rattle.ledger.specs.Sums.{Sums, Summed}
use Rattle.ledger.specs.Book.{Standing, Book, fresh, post, turn, withdraw, named, sums_named, look_up, page, value}
use Rattle.ledger.specs.Calls.{Question, Call, post_of, turn_to, withdrawal, asks, after, run_from, run, answered, answer_of}
use Rattle.ledger.specs.Count.{Count, nothing, count, offsets}
use Rattle.ledger.specs.Tells.{PageWritten, Tells}

-- ═══ Demand 3: over EVERY list of calls from a fresh book of ANY age limit, any question is answered as the count of the list tells

abbrev pub Demand3 : ℕ → List Call → Type 0
Demand3 limit cs = (q : Question) → Tells limit (count cs) q (answered (run limit cs) q)

-- ═══ A turn can close a curve that a look-up showed before, and the book still holds it

pub record Closes (b : Book) (w : Which) (v : Wanted) (y m : ℕ) : Type 0 where
  pub accepted : (turn b m).answer ≡ done m
  pub still_held : (turn b m).book.standing ≡ b.standing
  pub closed : look_up (turn b m).book w v y ≡ refused age_above_limit

abbrev pub TurnCloses : Book → Type 0
TurnCloses b = (w : Which) (v : Wanted) (y m : ℕ) (f : Finding) →
    look_up b w v y ≡ done f → b.told ≤ m → m ≤ 2_399 → f.month + b.age_limit < m → Closes b w v y m

-- ═══ After every list of calls the sums that the book holds are those of its curves: for each curve, and for each year t of 1 to 150, the
-- sum of its lows of years 1 to t, and that of its highs

-- 1, 2, .. 150
abbrev pub every_year : List ℕ
every_year = offsets 1 1 150

abbrev pub sums_in : Curve → Sums
sums_in c = record { lows = map (sum_to (low_of c)) every_year; highs = map (sum_to (high_of c)) every_year }

abbrev pub sums_in_held : Held Curve → Held Sums
sums_in_held none = none
sums_in_held (some c) = some (sums_in c)

abbrev pub SumsKept : ℕ → List Call → Type 0
SumsKept limit cs = (w : Which) → sums_named w (run limit cs).standing ≡ sums_in_held (named w (run limit cs).standing)

-- ═══ The age limit closes a curve and does nothing else. Whatever it is, the same curve stands, with the same ways back, and the same
-- posts, turns and withdrawals are accepted as with the largest one; a question is answered as with that, or 16, which that one never answers

pub record OnlyCloses (limit : ℕ) (cs : List Call) : Type 0 where
  pub same_standing : (run limit cs).standing ≡ (run 2_399 cs).standing
  pub same_history : (run limit cs).history ≡ (run 2_399 cs).history
  pub same_told : (run limit cs).told ≡ (run 2_399 cs).told
  pub same_posts : (s : List ℕ) → (post (run limit cs) s).answer ≡ (post (run 2_399 cs) s).answer
  pub same_turns : (m : ℕ) → (turn (run limit cs) m).answer ≡ (turn (run 2_399 cs) m).answer
  pub same_withdrawals : (withdraw (run limit cs)).answer ≡ (withdraw (run 2_399 cs)).answer
  pub closed_or_same :
      (q : Question) → ((answer_of (run limit cs) (asks q)).number ≡ 16) ⊎ (answered (run limit cs) q ≡ answered (run 2_399 cs) q)
  pub largest_never_closes : (q : Question) → (answer_of (run 2_399 cs) (asks q)).number ≡ 16 → ⊥

-- ═══ A withdrawal is answered 18 exactly when the count's depth is 0, and is accepted otherwise

pub record Withdraws (limit : ℕ) (cs : List Call) : Type 0 where
  pub none_left : ((withdraw (run limit cs)).answer ≡ refused no_post_left) ↔ ((count cs).depth ≡ 0)
  pub some_left : 0 < (count cs).depth → (withdraw (run limit cs)).answer ≡ done tt
  pub at_most_three : (count cs).depth ≤ 3

-- ═══ Three deep: whatever was called before, as many withdrawals as accepted posts, up to three, bring back what stood before these posts

-- each accepted in its turn
abbrev pub AllAccepted : Book → List (List ℕ) → Type 0
AllAccepted b [] = Unit {0}
AllAccepted b (s ∷ ss) = ((m : ℕ) × ((post b s).answer ≡ done m)) × AllAccepted (post b s).book ss

-- the curves and the sheet, thus its month; and the told month remains
pub record BackAt (before now : Book) : Type 0 where
  pub same_curves : now.standing ≡ before.standing
  pub same_sheet : now.history.sheet ≡ before.history.sheet
  pub same_told : now.told ≡ before.told

abbrev pub ThreeDeep : ℕ → List Call → Type 0
ThreeDeep limit cs = (ss : List (List ℕ)) → length ss ≤ 3 → AllAccepted (run limit cs) ss →
    BackAt (run limit cs) (run_from (run limit cs) (map post_of ss ++ replicate (length ss) withdrawal))

-- ═══ The count by the answers that a caller saw: an accepted post's sheet goes on top and adds 1 to the depth, up to 3; an accepted
-- withdrawal takes the latest sheet and 1 off; an accepted turn's month is the told one

abbrev pub post_seen : Count → List ℕ → Outcome ℕ → Count
post_seen c s (refused g) = c
post_seen c s (done m) = record { told = c.told; posts = s ∷ c.posts; depth = min 3 (1 + c.depth) }

abbrev pub turn_seen : Count → Outcome ℕ → Count
turn_seen c (refused g) = c
turn_seen c (done m) = record { told = m; posts = c.posts; depth = c.depth }

abbrev pub withdrawal_seen : Count → Outcome (Unit {0}) → Count
withdrawal_seen c (refused g) = c
withdrawal_seen c (done x) = record { told = c.told; posts = drop 1 c.posts; depth = c.depth - 1 }

abbrev pub seen : Count → Book → Call → Count
seen c b (post_of s) = post_seen c s (post b s).answer
seen c b (turn_to m) = turn_seen c (turn b m).answer
seen c b withdrawal = withdrawal_seen c (withdraw b).answer
seen c b (asks q) = c

abbrev pub seen_from : Count → Book → List Call → Count
seen_from c b [] = c
seen_from c b (d ∷ ds) = seen_from (seen c b d) (after b d) ds

abbrev pub CountIsLast : ℕ → List Call → Type 0
CountIsLast limit cs = count cs ≡ seen_from nothing (fresh limit) cs

-- ═══ Demand 1: the result or the first ground that applies; a refusal changes nothing

-- a ground that applies, or none
pub data Applies : Type 0 where
  no : Applies
  yes : Ground → Applies

abbrev pub when : Bool → Ground → Applies
when true g = yes g
when false g = no

abbrev pub first : {A : Type 0} → List Applies → Outcome A → Outcome A
first [] o = o
first (no ∷ gs) o = first gs o
first (yes g ∷ gs) o = refused g

-- the sheet's month is before that of the standing curves
abbrev pub stands_after : Standing → ℕ → Bool
stands_after none m = false
stands_after (some k) m = ltb m k.curves.plain.month

abbrev pub vacant : Held Curve → Bool
vacant none = true
vacant (some c) = false

-- a curve stands, and more months than the limit have been told since its own
abbrev pub too_old : Held Curve → ℕ → ℕ → Bool
too_old none told limit = false
too_old (some c) told limit = ltb limit (told - c.month)

-- a curve stands, and even at the greatest rate, 100,000, low × growth, rounded down, is below U × U
abbrev pub beyond_reach : Held Curve → ℕ → Bool
beyond_reach none y = false
beyond_reach (some c) y = lt_z (pos (low_of c y) *ℤ grown false (pos 100_000) y) (pos 1_000_000_000_000_000_000)

-- hex 08 stands first, and a byte behind it that is none of 1, 2 and 3
abbrev pub strange_market : List ℕ → Bool
strange_market s = eqb (get_or s 0 0) 0x08 && (ltb 1 (length s) && (eqb (get_or s 1 0) 0 || ltb 3 (get_or s 1 0)))

-- 109 bytes, 112 or 115; two more with hex 08 and 1 before them. With 2 for the 1: 59 or 62; with 3: 67 or 70
abbrev pub lengths_of : List ℕ → List ℕ
lengths_of s =
    cond (eqb (get_or s 0 0) 0x08)
    (cond (eqb (get_or s 1 0) 2) (59 ∷ 62 ∷ []) (cond (eqb (get_or s 1 0) 3) (67 ∷ 70 ∷ []) (111 ∷ 114 ∷ 117 ∷ [])))
    (109 ∷ 112 ∷ 115 ∷ [])

abbrev pub among : ℕ → List ℕ → Bool
among n [] = false
among n (k ∷ ks) = eqb n k || among n ks

-- 19 and 1 to 6, each by itself; 7 to 10 are the curves' own
unfoldable pub post_grounds : Book → List ℕ → List Applies
post_grounds b s =
    let wrong = first_failure (right_record s) 1 (slots_of (layout_of s)) in
    let outside = first_failure (in_range s) 1 (slots_of (layout_of s)) in
    when (strange_market s) unknown_profile
    ∷ when (not (among (length s) (lengths_of s))) wrong_length
    ∷ when (not (eqb wrong 0)) (wrong_record wrong)
    ∷ when (not (eqb outside 0)) (out_of_range outside)
    ∷ when (eqb (total (sheet_numbers s).volumes) 0) no_volume
    ∷ when (ltb b.told (sheet_numbers s).month) after_told_month
    ∷ when (stands_after b.standing (sheet_numbers s).month) before_standing_curve
    ∷ []

unfoldable pub turn_grounds : Book → ℕ → List Applies
turn_grounds b m = when (ltb 2_399 m) month_above_last ∷ when (ltb m b.told) month_before_told ∷ []

unfoldable pub withdraw_grounds : Book → List Applies
withdraw_grounds b = when (eqb (length b.history.below) 0) no_post_left ∷ []

unfoldable pub look_grounds : Book → Which → ℕ → List Applies
look_grounds b w y =
    let k = named w b.standing in
    when (eqb y 0) year_outside
    ∷ when (ltb 150 y) year_outside
    ∷ when (vacant k) no_curve
    ∷ when (too_old k b.told b.age_limit) age_above_limit
    ∷ when (beyond_reach k y) no_high_rate
    ∷ []

unfoldable pub page_grounds : Book → Which → List ℕ → List Applies
page_grounds b w l =
    let k = named w b.standing in
    when (vacant k) no_curve
    ∷ when (too_old k b.told b.age_limit) age_above_limit
    ∷ when (ltb (length l) 1_505) buffer_too_short
    ∷ []

-- 21 and 22 of each entry in its turn, with its place
unfoldable pub entry_grounds : ℕ → List Flow → List Applies
entry_grounds i [] = []
entry_grounds i (f ∷ fs) =
    when (eqb f.year 0) (flow_year_outside i)
    ∷ when (ltb 150 f.year) (flow_year_outside i)
    ∷ when (ltb 1_000_000_000 f.cents) (cents_above_limit i)
    ∷ entry_grounds (i + 1) fs

unfoldable pub value_grounds : Book → List Flow → List Applies
value_grounds b fs =
    let k = named plain b.standing in
    when (vacant k) no_curve
    ∷ when (too_old k b.told b.age_limit) age_above_limit
    ∷ when (eqb (length fs) 0) wrong_count
    ∷ when (ltb 1_000 (length fs)) wrong_count
    ∷ entry_grounds 1 fs

-- a year's band; or what the book holds as its sums, whatever that is
abbrev pub shown_in : Wanted → Curve → Held Sums → ℕ → Pair
shown_in factor c k y = pair (low_of c y) (high_of c y)
shown_in sum c none y = pair 0 0
shown_in sum c (some k) y = pair (get_or k.lows (y - 1) 0) (get_or k.highs (y - 1) 0)

-- what a look-up of a year has, where no ground applies: the rates are the factor's
abbrev pub found_in : Wanted → ℕ → Held Curve → Held Sums → ℕ → Finding
found_in v told none k y = finding (pair 0 0) (signed_pair (pos 0) (pos 0)) 0 0
found_in v told (some c) k y = finding (shown_in v c k y) (rates_of y (pair (low_of c y) (high_of c y))) c.month (told - c.month)

-- what a valuation has, where no ground applies
abbrev pub value_at : ℕ → Held Curve → List Flow → Value
value_at told none fs = dated (pair 0 0) 0 0
value_at told (some c) fs =
    dated (pair (cost_of (low_of c) fs / 1_000_000_000) (ceil_div (cost_of (high_of c) fs) 1_000_000_000)) c.month (told - c.month)

abbrev pub month_in : Outcome Curves → Outcome ℕ
month_in (refused g) = refused g
month_in (done cs) = done cs.plain.month

-- the book with this told month and nothing else changed
abbrev pub turned_to : Book → ℕ → Book
turned_to b m = record { age_limit = b.age_limit; told = m; standing = b.standing; history = b.history }

pub record Demand1 (b : Book) : Type 0 where
  pub post_first : (s : List ℕ) → (post b s).answer ≡ month_in (first (post_grounds b s) (curves_of (sheet_numbers s)))
  pub post_refused : (s : List ℕ) (g : Ground) → (post b s).answer ≡ refused g → (post b s).book ≡ b
  pub turn_first : (m : ℕ) → (turn b m).answer ≡ first (turn_grounds b m) (done m)
  pub turn_refused : (m : ℕ) (g : Ground) → (turn b m).answer ≡ refused g → (turn b m).book ≡ b
  pub turn_told : (m k : ℕ) → (turn b m).answer ≡ done k → (turn b m).book ≡ turned_to b m
  pub withdraw_first : (withdraw b).answer ≡ first (withdraw_grounds b) (done tt)
  pub withdraw_refused : (g : Ground) → (withdraw b).answer ≡ refused g → (withdraw b).book ≡ b
  pub withdraw_told : (withdraw b).book.told ≡ b.told
  -- the same grounds, whatever is asked for
  pub look_first :
      (w : Which) (v : Wanted) (y : ℕ) →
      look_up b w v y ≡ first (look_grounds b w y) (done (found_in v b.told (named w b.standing) (sums_named w b.standing) y))
  pub page_first : (w : Which) (l : List ℕ) → (page b w l).answer ≡ first (page_grounds b w l) (done tt)
  pub page_refused : (w : Which) (l : List ℕ) (g : Ground) → (page b w l).answer ≡ refused g → (page b w l).buffer ≡ l
  pub value_first : (fs : List Flow) → value b fs ≡ first (value_grounds b fs) (done (value_at b.told (named plain b.standing) fs))

-- ═══ Demand 2: a post accepts precisely the sheets, and stores precisely the numbers, that the definitions give; a withdrawal brings
-- precisely them back; a page carries exactly the book's numbers

-- curves, and the sums of each
abbrev pub with_sums : Curves → Summed
with_sums cs = record { curves = cs; plain_sums = sums_in cs.plain; adjusted_sums = sums_in_held cs.adjusted }

-- the book with these curves, of this sheet, and these ways back in place of its own
abbrev pub holding : Book → Standing → Held (List ℕ) → List (Held (List ℕ)) → Book
holding b k h hs = record { age_limit = b.age_limit; told = b.told; standing = k; history = record { sheet = h; below = hs } }

-- after a post what stood is the first of the ways back, of which three are kept
abbrev pub holding_post : Book → List ℕ → Curves → Book
holding_post b s cs = holding b (some (with_sums cs)) (some s) (take 3 (b.history.sheet ∷ b.history.below))

-- a sheet that passes 19 and 1 to 4, whose month is told and not before the standing one, and whose numbers work
pub record Accepted (b : Book) (s : List ℕ) (cs : Curves) : Type 0 where
  pub numbers : Numbers
  pub reads : read_sheet s ≡ done numbers
  pub month_told : numbers.month ≤ b.told
  pub in_order : (k : Summed) → b.standing ≡ some k → k.curves.plain.month ≤ numbers.month
  pub worked : curves_of numbers ≡ done cs

-- numbers that fit the page's bytes
pub record CurveFits (told : ℕ) (c : Curve) : Type 0 where
  pub month_fits : c.month < 65_536
  pub age_fits : told - c.month < 65_536
  pub lows_150 : length c.lows ≡ 150
  pub highs_150 : length c.highs ≡ 150
  pub low_fits : (k : ℕ) → k < 150 → get_or c.lows k 0 < 4_294_967_296
  pub high_fits : (k : ℕ) → k < 150 → get_or c.highs k 0 < 4_294_967_296

abbrev pub FitsPage : Book → Type 0
FitsPage b = (w : Which) (c : Curve) → named w b.standing ≡ some c → CurveFits b.told c

pub record Demand2 (b : Book) : Type 0 where
  -- whatever passes is accepted, and its curves and their sums are stored
  pub accepts : (s : List ℕ) (cs : Curves) → Accepted b s cs → post b s ≡ record { book = holding_post b s cs; answer = done cs.plain.month }
  -- and nothing else is
  pub accepts_only :
      (s : List ℕ) (m : ℕ) → (post b s).answer ≡ done m → (cs : Curves) × Accepted b s cs × ((post b s).book ≡ holding_post b s cs) × (cs.plain.month ≡ m)
  -- the sheet that stood before works as it did; where none did, there is no curve
  pub brings_back :
      (s : List ℕ) (cs : Curves) (hs : List (Held (List ℕ))) → b.history.below ≡ some s ∷ hs → answer s ≡ done cs →
      withdraw b ≡ record { book = holding b (some (with_sums cs)) (some s) hs; answer = done tt }
  pub brings_none : (hs : List (Held (List ℕ))) → b.history.below ≡ none ∷ hs → withdraw b ≡ record { book = holding b none none hs; answer = done tt }
  pub pages :
      (w : Which) (c : Curve) (l : List ℕ) → named w b.standing ≡ some c → CurveFits b.told c → b.told - c.month ≤ b.age_limit → 1_505 ≤ length l →
      PageWritten l c.month (b.told - c.month) (λ y. pair (low_of c y) (high_of c y)) (page b w l)
