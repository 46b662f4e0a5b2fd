-- SPECIFICATION 7.3: a block of policies as its list of cash flows, each a year and whole cents, and its value.
use Rattle.std.specs.Prelude.{Bool, true, false, ◌&&◌, List, [], ◌∷◌, ℕ, ◌+◌, ◌*◌, leb, length}
use Rattle.fraction.specs.Rounding.{U, round_ℕ}
use Rattle.method.specs.Units.{Pair, pair}
use Rattle.method.specs.Grounds.{wrong_count, flow_year_outside, cents_above_limit, Outcome, done, ◌>>=◌, demand}
use Rattle.method.specs.Curve.{Curve, year_inside}
use Rattle.method.specs.Enclosure.{low_of, high_of}

pub record Flow : Type 0 where
  pub year : ℕ
  pub cents : ℕ

-- ---- 20, then by entry, from 1, with 21 before 22

abbrev pub most_flows : ℕ
most_flows = 1_000

abbrev pub most_cents : ℕ
most_cents = 1_000_000_000

abbrev pub count_inside : ℕ → Bool
count_inside n = leb 1 n && leb n most_flows

unfoldable pub flows_checked : ℕ → List Flow → Outcome (Unit {0})
flows_checked entry [] = done tt
flows_checked entry (f ∷ fs) = do
  _ ← demand (year_inside f.year) (flow_year_outside entry)
  _ ← demand (leb f.cents most_cents) (cents_above_limit entry)
  flows_checked (entry + 1) fs

unfoldable pub block_checked : List Flow → Outcome (Unit {0})
block_checked fs = do
  _ ← demand (count_inside (length fs)) wrong_count
  flows_checked 1 fs

-- ---- the sum of cents × factor, a year as often as it stands there

unfoldable pub block_sum : (ℕ → ℕ) → List Flow → ℕ
block_sum factor [] = 0
block_sum factor (f ∷ fs) = f.cents * factor f.year + block_sum factor fs

-- over U, rounded once: up for a high, down for a low
abbrev pub worth_of : Bool → (ℕ → ℕ) → List Flow → ℕ
worth_of up factor fs = round_ℕ up (block_sum factor fs) U

-- by the lows and the highs of the years
abbrev pub worth_by : (ℕ → ℕ) → (ℕ → ℕ) → List Flow → Pair
worth_by low high fs = pair (worth_of false low fs) (worth_of true high fs)

unfoldable pub value_by : (ℕ → ℕ) → (ℕ → ℕ) → List Flow → Outcome Pair
value_by low high fs = do
  _ ← block_checked fs
  done (worth_by low high fs)

abbrev pub value_on : Curve → List Flow → Outcome Pair
value_on c fs = value_by (low_of c) (high_of c) fs
