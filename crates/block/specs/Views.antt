-- The block's code, as the valuation's: flows, and the totals of a list or why it is refused.
use Rattle.std.specs.Prelude.{cond, List, [], ◌∷◌, map, ◌≡◌, ℕ, zero, suc, ◌+◌, ◌*◌, ◌-◌, ◌%◌, ◌<◌, ◌≤◌, eqb, length, get_or, set, replicate}
use Rattle.method.specs.Grounds.{Outcome, done, ◌>>=◌}
use Rattle.valuation.specs.Block as valuation
use Rattle.valuation.specs.Block.{block_checked, value_by}
use Rattle.rounding.specs.Pairs.{Pair, as_pair}
use Rattle.block.specs.declared.Flow.{Flow}

abbrev pub as_flow : Flow → valuation.Flow
as_flow f = record { year = f.year; cents = f.cents }

abbrev pub as_flows : List Flow → List valuation.Flow
as_flows fs = map as_flow fs

-- ---- plain numbers, year and cents in turn

unfoldable pub in_turn : List ℕ → List valuation.Flow
in_turn [] = []
in_turn (x ∷ []) = []
in_turn (x ∷ y ∷ l) = record { year = x; cents = y } ∷ in_turn l

-- an odd count is no list, and is refused as an empty one is
unfoldable pub paired : List ℕ → List valuation.Flow
paired l = cond (eqb (length l % 2) 0) (in_turn l) []

-- ---- the cents by the year, 150 of them

unfoldable pub totals_from : List ℕ → List valuation.Flow → List ℕ
totals_from ts [] = ts
totals_from ts (f ∷ fs) = totals_from (set ts (f.year - 1) (get_or ts (f.year - 1) 0 + f.cents)) fs

unfoldable pub block_of : List valuation.Flow → Outcome (List ℕ)
block_of fs = do
  _ ← block_checked fs
  done (totals_from (replicate 150 0) fs)

-- no total is above n entries of the largest size
abbrev pub Held : ℕ → List ℕ → Type 0
Held n ts = (k : ℕ) → get_or ts k 0 ≤ n * 1_000_000_000

-- of a whole list
abbrev pub Totals : List ℕ → Type 0
Totals ts = (length ts ≡ 150) × Held 1_000 ts

-- what stands past a list's end: nothing reads there
abbrev pub no_flow : valuation.Flow
no_flow = record { year = 0; cents = 0 }

-- what is answered at each place of so many is the list's entry there
pub record Lists (answers : ℕ → Flow → Type 0) (count : ℕ) (fs : List valuation.Flow) : Type 0 where
  pub long : length fs ≡ count
  pub each : (i : ℕ) (f : Flow) → i < count → answers i f → as_flow f ≡ get_or fs i no_flow

-- ---- the factor of a year, from 1; totals × factors of the first i years, added

abbrev pub factor_in : List ℕ → ℕ → ℕ
factor_in fs y = get_or fs (y - 1) 0

unfoldable pub weighed : List ℕ → List ℕ → ℕ → ℕ
weighed ts fs zero = 0
weighed ts fs (suc i) = weighed ts fs i + get_or ts i 0 * get_or fs i 0

-- whatever the list is of which it is the block
abbrev pub Values : List ℕ → List ℕ → List ℕ → Pair → Type 0
Values totals lows highs p = (fs : List valuation.Flow) → block_of fs ≡ done totals → value_by (factor_in lows) (factor_in highs) fs ≡ done (as_pair p)
