-- SPECIFICATION 8, demand 3: what a count tells of an answer of a book that was made with an age limit. No book is named.
use Rattle.std.specs.Prelude.{◌≡◌, Bool, true, not, ◌↔◌, List, ℕ, suc, ◌+◌, ◌*◌, ◌-◌, ◌≤◌, ◌<◌, pos, ◌≤ℤ◌, length, get_or, drop}
use Rattle.fraction.specs.Fraction.{ℚ, sum_ℚ}
use Rattle.fraction.specs.Rounding.{Encloses}
use Rattle.method.specs.Units.{Which, plain, Pair, pair, SignedPair}
use Rattle.method.specs.Sheet.{Numbers}
use Rattle.method.specs.Grounds.{Ground, year_outside, no_curve, buffer_too_short, age_above_limit, no_high_rate, Outcome, refused, done}
use Rattle.method.specs.Curve.{Curve, Held, none, some, Curves, curve_named, answer}
use Rattle.method.specs.Enclosure.{low_of, high_of}
use Rattle.method.specs.True.{true_curve, true_factor}
use Rattle.zero_rates.specs.Meaning.{BandRates, HighRateExists, RateBetween}
use Rattle.valuation.specs.Block.{Flow}
use Rattle.valuation.specs.Meaning.{sum_to, exact_value, BlockTells}
use Rattle.ledger.specs.Answers.{Wanted, factor, sum, Finding, Value}
use Rattle.ledger.specs.Book.{Paged}
use Rattle.ledger.specs.Calls.{Question, look_at, page_into, value_of, AnswerTo}
use Rattle.ledger.specs.Count.{Count, last_sheet, month_of, limit_of, carries, typed}

-- ---- the curve that is named

-- no accepted post is left, or the last one's sheet has no adjustment and the adjusted curve is named
abbrev pub missing : Which → Held (List ℕ) → Bool
missing w none = true
missing w (some s) = not (carries w s)

-- otherwise the sheet of the last accepted post not withdrawn carries it
abbrev pub Carries : Count → Which → List ℕ → Type 0
Carries c w s = (last_sheet c ≡ some s) × (carries w s ≡ true)

-- ---- a year's band

abbrev pub band_among : Held Curve → ℕ → Pair
band_among none y = pair 0 0
band_among (some c) y = pair (low_of c y) (high_of c y)

-- of a sheet that works
abbrev pub band_in : Which → Outcome Curves → ℕ → Pair
band_in w (refused g) y = pair 0 0
band_in w (done cs) y = band_among (curve_named w cs) y

abbrev pub band_of : Which → List ℕ → ℕ → Pair
band_of w s y = band_in w (answer s) y

-- within the limit of the sheet that was typed, and around its true factor of every order
pub record Band (w : Which) (s : List ℕ) (y : ℕ) (p : Pair) : Type 0 where
  pub ordered : p.low ≤ p.high
  pub within_limit : p.high ≤ p.low + limit_of s
  pub true_years : (n : ℕ) → length (true_curve w n (typed s)) ≡ 150
  pub holds_true_factor : (n : ℕ) → Encloses (pos p.low) (pos p.high) (true_factor w n (typed s) y)

-- ---- what a look-up asks for

-- the year's band; or the lows of years 1 to y added, and the highs
abbrev pub shown_of : Wanted → Which → List ℕ → ℕ → Pair
shown_of factor w s y = band_of w s y
shown_of sum w s y = pair (sum_to (λ t. (band_of w s t).low) y) (sum_to (λ t. (band_of w s t).high) y)

-- the true curve's own, of order n: the year's factor; or the factors of years 1 to y added
abbrev pub true_of : Wanted → Which → ℕ → Numbers → ℕ → ℚ
true_of factor w n s y = true_factor w n s y
true_of sum w n s y = sum_ℚ (λ i. true_factor w n s (suc i)) y

-- ---- a look-up

-- of the sheet that the count holds; written out here, so that nothing is shared with the look-up
abbrev pub finding_of : Count → Which → Wanted → List ℕ → ℕ → SignedPair → Finding
finding_of c w v s y r =
    record {
      low = (shown_of v w s y).low;
      high = (shown_of v w s y).high;
      month = month_of s;
      age = c.told - month_of s;
      low_rate = r.low;
      high_rate = r.high;
    }

pub record Finds (c : Count) (w : Which) (v : Wanted) (s : List ℕ) (y : ℕ) (a : Outcome Finding) : Type 0 where
  pub not_after_told : month_of s ≤ c.told
  pub rates : SignedPair
  pub found : a ≡ done (finding_of c w v s y rates)
  -- what is asked for, the true curve's own of every order between its ends
  pub holds_true : (n : ℕ) → Encloses (pos (shown_of v w s y).low) (pos (shown_of v w s y).high) (true_of v w n (typed s) y)
  -- the band, its limit and the rates are the factor's, whatever is asked for
  pub band : Band w s y (band_of w s y)
  -- the largest and the smallest of the rule, and the true curve's own rate of every order between them
  pub band_rates : BandRates y (band_of w s y) rates
  pub rates_ordered : rates.low ≤ℤ rates.high
  pub holds_true_rate : (n : ℕ) → RateBetween y rates (true_factor w n (typed s) y)

pub record LookTells (limit : ℕ) (c : Count) (w : Which) (v : Wanted) (y : ℕ) (a : Outcome Finding) : Type 0 where
  pub outside : (1 ≤ y → y ≤ 150 → ⊥) → a ≡ refused year_outside
  -- no curve exactly when it is missing
  pub none_found : 1 ≤ y → y ≤ 150 → (a ≡ refused no_curve) ↔ (missing w (last_sheet c) ≡ true)
  -- otherwise that sheet's band or sum, rates, month and age, within the age limit and where the year has a high rate
  pub finds :
      (s : List ℕ) → Carries c w s → c.told - month_of s ≤ limit → 1 ≤ y → y ≤ 150 →
      HighRateExists y (band_of w s y).low → Finds c w v s y a
  -- of an older curve the 16 alone
  pub too_old : (s : List ℕ) → Carries c w s → limit < c.told - month_of s → 1 ≤ y → y ≤ 150 → a ≡ refused age_above_limit
  -- of a year without a high rate the 17 alone
  pub no_high_rate :
      (s : List ℕ) → Carries c w s → c.told - month_of s ≤ limit → 1 ≤ y → y ≤ 150 →
      (HighRateExists y (band_of w s y).low → ⊥) → a ≡ refused no_high_rate

-- ---- a page, as its reader finds it: record y starts at byte 5 + 10 × (y - 1), numbers have the high byte first

abbrev pub read2 : List ℕ → ℕ → ℕ
read2 l i = get_or l i 0 * 256 + get_or l (i + 1) 0

abbrev pub read4 : List ℕ → ℕ → ℕ
read4 l i = read2 l i * 65_536 + read2 l (i + 2)

pub record PageRead (out : List ℕ) (month age : ℕ) (band : ℕ → Pair) : Type 0 where
  pub mark : get_or out 0 0 ≡ 0x48
  pub month_read : read2 out 1 ≡ month
  pub age_read : read2 out 3 ≡ age
  pub year_mark : (y : ℕ) → 1 ≤ y → y ≤ 150 → get_or out (5 + 10 * (y - 1)) 0 ≡ 0x59
  pub year_read : (y : ℕ) → 1 ≤ y → y ≤ 150 → get_or out (6 + 10 * (y - 1)) 0 ≡ y
  pub low_read : (y : ℕ) → 1 ≤ y → y ≤ 150 → read4 out (7 + 10 * (y - 1)) ≡ (band y).low
  pub high_read : (y : ℕ) → 1 ≤ y → y ≤ 150 → read4 out (11 + 10 * (y - 1)) ≡ (band y).high

-- written whole into the buffer l, nothing past it touched
pub record PageWritten (l : List ℕ) (month age : ℕ) (band : ℕ → Pair) (p : Paged) : Type 0 where
  pub written : p.answer ≡ done tt
  pub read : PageRead p.buffer month age band
  pub same_length : length p.buffer ≡ length l
  pub past_kept : drop 1_505 p.buffer ≡ drop 1_505 l

pub record PageTells (limit : ℕ) (c : Count) (w : Which) (l : List ℕ) (p : Paged) : Type 0 where
  pub untouched : (g : Ground) → p.answer ≡ refused g → p.buffer ≡ l
  pub none_found : (p.answer ≡ refused no_curve) ↔ (missing w (last_sheet c) ≡ true)
  -- of an older curve the 16 alone, however long the buffer
  pub too_old : (s : List ℕ) → Carries c w s → limit < c.told - month_of s → p.answer ≡ refused age_above_limit
  pub too_short : (s : List ℕ) → Carries c w s → c.told - month_of s ≤ limit → length l < 1_505 → p.answer ≡ refused buffer_too_short
  pub writes :
      (s : List ℕ) → Carries c w s → c.told - month_of s ≤ limit → 1_505 ≤ length l →
      PageWritten l (month_of s) (c.told - month_of s) (band_of w s) p
  -- every year's, whether it has a high rate or not
  pub bands : (s : List ℕ) → Carries c w s → c.told - month_of s ≤ limit → (y : ℕ) → 1 ≤ y → y ≤ 150 → Band w s y (band_of w s y)

-- ---- a valuation, on the plain curve

-- what is refused stays refused; a value gets the month and the age
abbrev pub dated_at : ℕ → ℕ → Outcome Pair → Outcome Value
dated_at month age (refused g) = refused g
dated_at month age (done p) = done (record { low = p.low; high = p.high; month = month; age = age })

pub record Shows (c : Count) (s : List ℕ) (fs : List Flow) (a : Outcome Value) : Type 0 where
  pub not_after_told : month_of s ≤ c.told
  -- by the sums of the bands' lows and of their highs, each rounded once, or the first of 20 to 22
  pub worth : Outcome Pair
  pub worth_tells : BlockTells (λ y. (band_of plain s y).low) (λ y. (band_of plain s y).high) fs worth
  pub found : a ≡ dated_at (month_of s) (c.told - month_of s) worth
  -- the true curve's own of every order between its ends
  pub holds_true : (p : Pair) → worth ≡ done p → (n : ℕ) → Encloses (pos p.low) (pos p.high) (exact_value (true_factor plain n (typed s)) fs)
  pub bands : (y : ℕ) → 1 ≤ y → y ≤ 150 → Band plain s y (band_of plain s y)

pub record ValueTells (limit : ℕ) (c : Count) (fs : List Flow) (a : Outcome Value) : Type 0 where
  -- whatever the list
  pub none_found : (a ≡ refused no_curve) ↔ (missing plain (last_sheet c) ≡ true)
  pub too_old : (s : List ℕ) → Carries c plain s → limit < c.told - month_of s → a ≡ refused age_above_limit
  pub shows : (s : List ℕ) → Carries c plain s → c.told - month_of s ≤ limit → Shows c s fs a

-- ---- any question

abbrev pub Tells : ℕ → Count → (q : Question) → AnswerTo q → Type 0
Tells limit c (look_at w v y) a = LookTells limit c w v y a
Tells limit c (page_into w l) p = PageTells limit c w l p
Tells limit c (value_of fs) a = ValueTells limit c fs a
