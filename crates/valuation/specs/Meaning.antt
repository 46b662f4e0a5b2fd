-- SPECIFICATION 7.3 and 8: what is promised of a block's value, in words of its own, over the entries by their places.
use Rattle.std.specs.Prelude.{◌≡◌, List, ℕ, zero, suc, ◌+◌, ◌*◌, ◌-◌, ◌≤◌, ◌<◌, pos, length, get_or}
use Rattle.fraction.specs.Fraction.{ℚ, nat_ℚ, ◌*ℚ◌, ◌÷◌, sum_ℚ}
use Rattle.fraction.specs.Rounding.{Encloses}
use Rattle.method.specs.Units.{Pair}
use Rattle.method.specs.Grounds.{wrong_count, flow_year_outside, cents_above_limit, Outcome, refused, done}
use Rattle.valuation.specs.Block.{Flow}

-- ---- entries

-- entry i of a list, from 1; past its end one of year 0, which is outside
abbrev pub entry_at : List Flow → ℕ → Flow
entry_at fs i = get_or fs (i - 1) (record { year = 0; cents = 0 })

abbrev pub Counted : List Flow → Type 0
Counted fs = (1 ≤ length fs) × (length fs ≤ 1_000)

abbrev pub YearRight : Flow → Type 0
YearRight f = (1 ≤ f.year) × (f.year ≤ 150)

abbrev pub Right : Flow → Type 0
Right f = YearRight f × (f.cents ≤ 1_000_000_000)

-- entries 1 to n
abbrev pub RightTo : List Flow → ℕ → Type 0
RightTo fs n = (i : ℕ) → 1 ≤ i → i ≤ n → Right (entry_at fs i)

-- ---- sums

-- f 1 + .. + f t
unfoldable pub sum_to : (ℕ → ℕ) → ℕ → ℕ
sum_to f zero = 0
sum_to f (suc t) = sum_to f t + f (suc t)

-- the cents of each entry times its year's number, added
abbrev pub cost_of : (ℕ → ℕ) → List Flow → ℕ
cost_of number fs = sum_to (λ i. (entry_at fs i).cents * number (entry_at fs i).year) (length fs)

-- on exact factors, which are in billionths: a number of cents
abbrev pub exact_value : (ℕ → ℚ) → List Flow → ℚ
exact_value x fs = sum_ℚ (λ i. nat_ℚ (entry_at fs (suc i)).cents *ℚ x (entry_at fs (suc i)).year) (length fs) ÷ nat_ℚ 1_000_000_000

-- ---- rounding

-- the largest whole number of cents that is no more than so many billionths of one; and the smallest that is no less
pub record LargestWithin (billionths v : ℕ) : Type 0 where
  pub no_more : v * 1_000_000_000 ≤ billionths
  pub largest : (n : ℕ) → n * 1_000_000_000 ≤ billionths → n ≤ v

pub record SmallestCovering (billionths v : ℕ) : Type 0 where
  pub no_less : billionths ≤ v * 1_000_000_000
  pub smallest : (n : ℕ) → billionths ≤ n * 1_000_000_000 → v ≤ n

-- ---- the value on the lows and the highs of the years

pub record Valued (low high : ℕ → ℕ) (fs : List Flow) (p : Pair) : Type 0 where
  pub low_rounded : LargestWithin (cost_of low fs) p.low
  pub high_rounded : SmallestCovering (cost_of high fs) p.high
  -- on whatever factors lie between
  pub holds_exact :
      (x : ℕ → ℚ) → ((y : ℕ) → 1 ≤ y → y ≤ 150 → Encloses (pos (low y)) (pos (high y)) (x y)) →
      Encloses (pos p.low) (pos p.high) (exact_value x fs)

-- ---- the answer

-- of a list with a wrong count or a wrong entry, whatever is asked of it
pub record ListTells {A : Type 0} (fs : List Flow) (a : Outcome A) : Type 0 where
  pub wrong_count : (Counted fs → ⊥) → a ≡ refused wrong_count
  -- of the first wrong entry, with its place: its year before its cents
  pub wrong_year :
      Counted fs → (i : ℕ) → 1 ≤ i → i ≤ length fs → RightTo fs (i - 1) → (YearRight (entry_at fs i) → ⊥) → a ≡ refused (flow_year_outside i)
  pub wrong_cents :
      Counted fs → (i : ℕ) → 1 ≤ i → i ≤ length fs → RightTo fs (i - 1) → YearRight (entry_at fs i) → 1_000_000_000 < (entry_at fs i).cents →
      a ≡ refused (cents_above_limit i)

pub record BlockTells (low high : ℕ → ℕ) (fs : List Flow) (a : Outcome Pair) : Type 0 where
  pub list_refused : ListTells fs a
  pub values : Counted fs → RightTo fs (length fs) → (p : Pair) × (a ≡ done p) × Valued low high fs p
  -- and nothing else is valued
  pub values_only : (p : Pair) → a ≡ done p → Counted fs × RightTo fs (length fs) × Valued low high fs p
