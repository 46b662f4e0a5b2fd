-- The code's liquid part as the method's: the factors and the yearly factors so far.
use Rattle.std.specs.Prelude.{◌≡◌, true, List, [], map, ℕ, ◌-◌, ◌≤◌, ◌<◌, pos, take, get_or}
use Rattle.std.specs.Int.Signed.{mag}
use Rattle.method.specs.Units.{pairs_of}
use Rattle.method.specs.Quotes.{Bootstrap, Quote, quotes_of}
use Rattle.method.specs.Ranges.{gaps_with, climbs}
use Rattle.rounding.specs.Pairs.{as_pair}
use Rattle.bootstrap.specs.declared.Quotes.{Quotes}
use Rattle.bootstrap.specs.declared.Liquid.{Liquid}

abbrev pub as_bootstrap : Liquid → Bootstrap
as_bootstrap w =
    record {
      factors = pairs_of (take w.count w.lows) (take w.count w.highs);
      yearly_factors = map as_pair (take w.gaps w.xs);
    }

-- before the first quote
abbrev pub nothing : Bootstrap
nothing = record { factors = []; yearly_factors = [] }

-- ---- the quotes, as many as there are

abbrev pub as_quotes : Quotes → List Quote
as_quotes q = quotes_of (take q.count q.maturities) (take q.count q.rates)

-- their maturities climb to at most 50 years, with gaps of at most 30 and at most 7 of them
pub record QuotesClimb (q : Quotes) : Type 0 where
  pub within : q.count ≤ 17
  pub climb : climbs 0 0 (take q.count q.maturities) ≡ true
  pub small : (i : ℕ) → mag (get_or (take q.count q.rates) i (pos 0)) ≤ 12_000

-- ---- its room

-- the arrays have room for the years to a maturity, at most thirty on
pub record Reaches (w : Liquid) (m : ℕ) : Type 0 where
  pub rises : w.count < m
  pub short : m - w.count ≤ 30
  pub within : m ≤ 50
  pub gaps : gaps_with (m - w.count) w.gaps ≤ 7
