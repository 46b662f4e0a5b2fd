-- SPECIFICATION 7 and 9: what a look-up finds, what a valuation does; and the number and the place of every answer, 0 and 0 where the call was accepted.
use Rattle.std.specs.Prelude.{ℕ, ℤ}
use Rattle.method.specs.Units.{Pair, SignedPair}
use Rattle.method.specs.Grounds.{number_of, place_of, Outcome, refused, done}

-- what a look-up asks for: the year's factor, or the sum of the factors of years 1 to it
pub data Wanted : Type 0 where
  factor : Wanted
  sum : Wanted

pub record Finding : Type 0 where
  pub low : ℕ
  pub high : ℕ
  pub month : ℕ
  pub age : ℕ
  pub low_rate : ℤ
  pub high_rate : ℤ

-- a low and a high, the year's zero rates, and the month and the age of the curve
abbrev pub finding : Pair → SignedPair → ℕ → ℕ → Finding
finding p r m a = record { low = p.low; high = p.high; month = m; age = a; low_rate = r.low; high_rate = r.high }

-- of a block, in cents, with the month and the age of the curve
pub record Value : Type 0 where
  pub low : ℕ
  pub high : ℕ
  pub month : ℕ
  pub age : ℕ

abbrev pub dated : Pair → ℕ → ℕ → Value
dated p m a = record { low = p.low; high = p.high; month = m; age = a }

abbrev pub answer_number : {A : Type 0} → Outcome A → ℕ
answer_number (refused g) = number_of g
answer_number (done a) = 0

abbrev pub answer_place : {A : Type 0} → Outcome A → ℕ
answer_place (refused g) = place_of g
answer_place (done a) = 0
