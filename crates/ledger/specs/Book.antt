-- SPECIFICATION 7: the book, and what each call answers and leaves behind, with grounds 1 to 22 in their order.
use Rattle.std.specs.Prelude.{Bool, true, List, ◌++◌, ℕ, ◌-◌, min, leb, length, drop, get_or}
use Rattle.method.specs.Units.{Which, plain, adjusted, Pair, pair, signed_pair}
use Rattle.method.specs.Grounds.{after_told_month, before_standing_curve, month_above_last, month_before_told, year_outside, no_curve, buffer_too_short, age_above_limit}
use Rattle.method.specs.Grounds.{Outcome, refused, done, ◌>>=◌, demand}
use Rattle.method.specs.Sheet.{read_sheet}
use Rattle.method.specs.Curve.{Curve, year_inside, Held, none, some, Curves, curve_named, curves_of, answer}
use Rattle.method.specs.Enclosure.{low_of, high_of}
use Rattle.zero_rates.specs.Rates.{zero_rates}
use Rattle.valuation.specs.Block.{Flow, value_on}
use Rattle.ledger.specs.Answers.{Wanted, factor, sum, Finding, finding, Value, dated}
use Rattle.ledger.specs.History.{History, no_posts, with_post, way_back}
use Rattle.ledger.specs.Sums.{Sums, Summed, summed}
use Rattle.ledger.specs.Page.{page_bytes, page_length}

-- the curves of the sheet that stands, with their sums, if there is one
abbrev pub Standing : Type 0
Standing = Held Summed

pub record Book : Type 0 where
  pub age_limit : ℕ
  pub told : ℕ
  pub standing : Standing
  pub history : History

-- the desk's; no curve can be older, as no later month can be told
abbrev pub largest_age_limit : ℕ
largest_age_limit = 2_399

-- made with an age limit, a larger number making the largest one; told month 0 and no curve
abbrev pub fresh : ℕ → Book
fresh limit = record { age_limit = min limit largest_age_limit; told = 0; standing = none; history = no_posts }

-- ---- the curve that a question names: none where no sheet stands, and no adjusted one where the sheet had none

abbrev pub named : Which → Standing → Held Curve
named w none = none
named w (some k) = curve_named w k.curves

-- and its sums
abbrev pub sums_named : Which → Standing → Held Sums
sums_named w none = none
sums_named plain (some k) = some k.plain_sums
sums_named adjusted (some k) = k.adjusted_sums

-- ---- a call that may change the book: the book after it, and what it answers

pub record Booked (B : Type 0) : Type 0 where
  pub book : Book
  pub answer : Outcome B

-- a refusal leaves the book as it was
abbrev pub booked : {A B : Type 0} → Book → (A → Book) → (A → B) → Outcome A → Booked B
booked b changed said (refused g) = record { book = b; answer = refused g }
booked b changed said (done a) = record { book = changed a; answer = done (said a) }

-- ---- post: 19 and 1 to 4, then 5 and 6, then 7 to 10

-- not before the standing curves' month; while none stands, any month passes
abbrev pub not_before : Standing → ℕ → Bool
not_before none month = true
not_before (some k) month = leb k.curves.plain.month month

unfoldable pub post_outcome : Book → List ℕ → Outcome Curves
post_outcome b s = do
  n ← read_sheet s
  _ ← demand (leb n.month b.told) after_told_month
  _ ← demand (not_before b.standing n.month) before_standing_curve
  curves_of n

-- the curves, their sums and their month are replaced, and what stood can be had back; the answer is the sheet's month
abbrev pub with_curves : Book → List ℕ → Curves → Book
with_curves b s cs = record { age_limit = b.age_limit; told = b.told; standing = some (summed cs); history = with_post s b.history }

unfoldable pub post : Book → List ℕ → Booked ℕ
post b s = booked b (with_curves b s) (λ cs. cs.plain.month) (post_outcome b s)

-- ---- turn: 11, 12

abbrev pub last_month : ℕ
last_month = 2_399

unfoldable pub turn_outcome : Book → ℕ → Outcome ℕ
turn_outcome b m = do
  _ ← demand (leb m last_month) month_above_last
  _ ← demand (leb b.told m) month_before_told
  done m

-- the answer is the month that is now told
abbrev pub with_told : Book → ℕ → Book
with_told b m = record { age_limit = b.age_limit; told = m; standing = b.standing; history = b.history }

unfoldable pub turn : Book → ℕ → Booked ℕ
turn b m = booked b (with_told b) (λ m. m) (turn_outcome b m)

-- ---- withdrawal: 18

abbrev pub if_worked : Outcome Curves → Standing
if_worked (refused g) = none
if_worked (done cs) = some (summed cs)

-- what stands where this sheet does: its curves, worked again, and their sums
abbrev pub standing_of : Held (List ℕ) → Standing
standing_of none = none
standing_of (some s) = if_worked (answer s)

-- the curves, their sums and their month are those of the sheet that stands again; the told month remains
abbrev pub with_history : Book → History → Book
with_history b h = record { age_limit = b.age_limit; told = b.told; standing = standing_of h.sheet; history = h }

unfoldable pub withdraw : Book → Booked (Unit {0})
withdraw b = booked b (with_history b) (λ h. tt) (way_back b.history.below)

-- ---- what may be shown of a curve, or none, at a told month and with an age limit: 14, 16

-- told month less sheet month
abbrev pub age : ℕ → Curve → ℕ
age told c = told - c.month

-- at the limit itself it still is
abbrev pub young : Curve → ℕ → ℕ → Bool
young c told limit = leb (age told c) limit

-- a curve that is too old is closed, and stands all the same
abbrev pub open_curve : Held Curve → ℕ → ℕ → Outcome Curve
open_curve none told limit = refused no_curve
open_curve (some c) told limit = do
  _ ← demand (young c told limit) age_above_limit
  done c

-- ---- look-up: 13, 14, 16, 17

abbrev pub band_at : Curve → ℕ → Pair
band_at c y = pair (low_of c y) (high_of c y)

unfoldable pub look_in : Held Curve → ℕ → ℕ → ℕ → Outcome Finding
look_in k told limit y = do
  _ ← demand (year_inside y) year_outside
  c ← open_curve k told limit
  rates ← zero_rates y (band_at c y)
  done (finding (band_at c y) rates c.month (age told c))

abbrev pub sum_at : Held Sums → ℕ → Pair
sum_at none y = pair 0 0
sum_at (some k) y = pair (get_or k.lows (y - 1) 0) (get_or k.highs (y - 1) 0)

-- the sum in place of the factor; the year's rates, month and age as they came
abbrev pub with_sum : Held Sums → ℕ → Finding → Finding
with_sum k y f = finding (sum_at k y) (signed_pair f.low_rate f.high_rate) f.month f.age

-- the same checks, whatever is asked for
abbrev pub shown : Wanted → Held Sums → ℕ → Outcome Finding → Outcome Finding
shown factor k y o = o
shown sum k y o = o >>= λ f. done (with_sum k y f)

abbrev pub look_up : Book → Which → Wanted → ℕ → Outcome Finding
look_up b w v y = shown v (sums_named w b.standing) y (look_in (named w b.standing) b.told b.age_limit y)

-- ---- page: 14, 16, 15

-- bytes past the page are kept
unfoldable pub page_outcome : Held Curve → ℕ → ℕ → List ℕ → Outcome (List ℕ)
page_outcome k told limit l = do
  c ← open_curve k told limit
  _ ← demand (leb page_length (length l)) buffer_too_short
  done (page_bytes c.month (age told c) c.lows c.highs ++ drop page_length l)

pub record Paged : Type 0 where
  pub buffer : List ℕ
  pub answer : Outcome (Unit {0})

-- a refusal leaves the buffer as it was lent
abbrev pub paged_by : List ℕ → Outcome (List ℕ) → Paged
paged_by l (refused g) = record { buffer = l; answer = refused g }
paged_by l (done out) = record { buffer = out; answer = done tt }

abbrev pub page_in : Held Curve → ℕ → ℕ → List ℕ → Paged
page_in k told limit l = paged_by l (page_outcome k told limit l)

abbrev pub page : Book → Which → List ℕ → Paged
page b w l = page_in (named w b.standing) b.told b.age_limit l

-- ---- valuation of a block, on the plain curve: 14, 16, then 20 to 22

unfoldable pub value_in : Held Curve → ℕ → ℕ → List Flow → Outcome Value
value_in k told limit fs = do
  c ← open_curve k told limit
  worth ← value_on c fs
  done (dated worth c.month (age told c))

abbrev pub value : Book → List Flow → Outcome Value
value b fs = value_in (named plain b.standing) b.told b.age_limit fs
