-- What the arrays, the counts and A of a liquid part owe each other.
use Rattle.std.specs.Prelude.{◌≡◌, ℕ, ◌≤◌, ◌<◌, List, length, take, get_or}
use Rattle.method.specs.Units.{pair, pairs_of}
use Rattle.method.specs.Quotes as method
use Rattle.method.specs.Ranges.{Factor}
use Rattle.rounding.specs.Pairs.{Pair, as_pair}

-- the arrays have their lengths, the first `count` factors are in their range, and A is their sum
pub record Sound (lows highs : List ℕ) (count : ℕ) (a : Pair) (xs : List Pair) (gaps : ℕ) : Type 0 where
  pub long_lows : length lows ≡ 50
  pub long_highs : length highs ≡ 50
  pub within : count ≤ 50
  pub sums : as_pair a ≡ method.annuity (pairs_of (take count lows) (take count highs))
  pub factors : (i : ℕ) → i < count → Factor (pair (get_or lows i 0) (get_or highs i 0))
  pub long_xs : length xs ≡ 7
  pub gaps_within : gaps ≤ 7
