-- What a gap's numbers stay within.
use Rattle.std.specs.Prelude.{ℕ, ◌≤◌, ℤ}
use Rattle.std.specs.Int.Signed.{mag}
use Rattle.method.specs.Quotes.{highest_factor}
use Rattle.rounding.specs.Pairs.{Pair, PairAtMost}

-- at most thirty years, and A sums at most fifty factors
pub record Fits (rate : ℤ) (years : ℕ) (annuity start : Pair) : Type 0 where
  pub small_rate : mag rate ≤ 12_000
  pub few_years : years ≤ 30
  pub small_annuity : PairAtMost 100_000_000_000 annuity
  pub small_start : PairAtMost highest_factor start
