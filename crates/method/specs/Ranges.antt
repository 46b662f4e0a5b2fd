-- The ranges that code above may count on: of a sheet's numbers, of factors and of yearly factors.
use Rattle.std.specs.Prelude.{◌≡◌, Bool, true, cond, ◌&&◌, List, [], ◌∷◌, ℕ, ◌+◌, ◌-◌, ◌≤◌, ◌<◌, eqb, leb, ltb, ℤ, pos, nat_abs, length, get_or}
use Rattle.std.specs.Int.Signed.{mag}
use Rattle.fraction.specs.Fraction.{pos_part, neg_part}
use Rattle.method.specs.Units.{Pair}
use Rattle.method.specs.Sheet.{euro, quote_count, volume_count, Numbers, total}
use Rattle.method.specs.Quotes.{lower_end, upper_end, highest_factor}

-- ---- a sheet's numbers

-- -2,000 to 12,000
pub record RateInRange (z : ℤ) : Type 0 where
  pub positive : pos_part z ≤ 12_000
  pub negative : neg_part z ≤ 2_000
  pub small : mag z ≤ 12_000

-- past the end of a list `get_or` gives 0, which is in range too
pub record NumbersInRange (n : Numbers) : Type 0 where
  pub month_most : n.month ≤ 2_399
  pub rate_count : length n.rates ≡ quote_count n.profile
  pub rate_range : (i : ℕ) → RateInRange (get_or n.rates i (pos 0))
  pub volume_count : length n.volumes ≡ volume_count n.profile
  pub volume_most : (i : ℕ) → get_or n.volumes i 0 ≤ 1_000_000
  pub total_least : 0 < total n.volumes
  pub total_most : total n.volumes ≤ 5_000_000
  pub ultimate_most : n.ultimate ≤ 10_000
  pub limit_least : 1 ≤ n.limit
  pub limit_most : n.limit ≤ 100_000
  pub phase_in_least : 10_000 ≤ n.phase_in
  pub phase_in_most : n.phase_in ≤ 20_000
  pub adjustment_size : nat_abs n.adjustment ≤ 500
  pub adjusts_euro : n.adjusts ≡ true → n.profile ≡ euro

-- ---- factors

-- a property of every pair
pub data Each (P : Pair → Type 0) : List Pair → Type 0 where
  none : Each P []
  more : {p : Pair} {ps : List Pair} → P p → Each P ps → Each P (p ∷ ps)

-- a factor that passes grounds 7 and 8
pub record Factor (p : Pair) : Type 0 where
  pub least : 1 ≤ p.low
  pub ordered : p.low ≤ p.high
  pub greatest : p.high ≤ highest_factor

-- a gap's yearly factor: within the ends of the halving
pub record YearlyFactor (p : Pair) : Type 0 where
  pub low_least : lower_end ≤ p.low
  pub low_greatest : p.low ≤ upper_end
  pub high_least : lower_end ≤ p.high
  pub high_greatest : p.high ≤ upper_end

-- the gaps among the quotes, with one that is k years after the last: a gap unless it is the next year
abbrev pub gaps_with : ℕ → ℕ → ℕ
gaps_with k g = cond (eqb k 1) g (g + 1)

-- maturities that rise from n years and g gaps on: by at most 30 years each, to at most 50 years and 7 gaps
unfoldable pub climbs : ℕ → ℕ → List ℕ → Bool
climbs n g [] = leb n 50 && leb g 7
climbs n g (m ∷ ms) = ltb n m && (leb (m - n) 30 && climbs m (gaps_with (m - n) g) ms)

-- ---- logarithms and growth, in billionths

-- the ends of every logarithm: -ln 0.8 is 223,143,551.3
abbrev pub logarithm_bound : ℕ
logarithm_bound = 224_000_000

-- and of every forward: one of them with an adjustment
abbrev pub forward_bound : ℕ
forward_bound = 229_000_000

-- the exponents of E, above every forward: the terms past t7 come to less than a billionth
abbrev pub growth_range : ℕ
growth_range = 250_000_000

-- E's ends over that range: e^0.25 is 1,284,025,416.7
abbrev pub growth_bound : ℕ
growth_bound = 1_300_000_000
