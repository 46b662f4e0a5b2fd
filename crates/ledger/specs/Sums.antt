-- SPECIFICATION 7: the annuity sums, which the book holds for each of its curves.
use Rattle.std.specs.Prelude.{List, [], ◌∷◌, ℕ, ◌+◌}
use Rattle.method.specs.Curve.{Curve, Held, none, some, Curves}

-- of a curve: for each year t the sum of the lows of years 1 to t, and that of the highs
pub record Sums : Type 0 where
  pub lows : List ℕ
  pub highs : List ℕ

-- each number with all before it, and with what was there at first
unfoldable pub running_from : ℕ → List ℕ → List ℕ
running_from sum [] = []
running_from sum (x ∷ xs) = (sum + x) ∷ running_from (sum + x) xs

abbrev pub sums_of : Curve → Sums
sums_of c = record { lows = running_from 0 c.lows; highs = running_from 0 c.highs }

abbrev pub sums_of_held : Held Curve → Held Sums
sums_of_held none = none
sums_of_held (some c) = some (sums_of c)

-- the curves of one sheet, with the sums of each
pub record Summed : Type 0 where
  pub curves : Curves
  pub plain_sums : Sums
  pub adjusted_sums : Held Sums

abbrev pub summed : Curves → Summed
summed cs = record { curves = cs; plain_sums = sums_of cs.plain; adjusted_sums = sums_of_held cs.adjusted }
