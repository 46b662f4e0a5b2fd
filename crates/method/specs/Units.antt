-- SPECIFICATION 1: units. U itself stands beside the rounding, in `fraction`.
use Rattle.std.specs.Prelude.{Bool, true, false, ℕ, ◌*◌, ℤ}
use mathlib.Core.List.{List, zip_with}
use Rattle.fraction.specs.Rounding.{U}

-- rates are whole hundred-thousandths of one
abbrev pub rate_unit : ℕ
rate_unit = 100_000

-- a swap's value at par
abbrev pub par_value : ℕ
par_value = rate_unit * U

-- which of a sheet's two curves
pub data Which : Type 0 where
  plain : Which
  adjusted : Which

-- a low and a high, of factors and yearly factors
pub record Pair : Type 0 where
  pub low : ℕ
  pub high : ℕ

abbrev pub pair : ℕ → ℕ → Pair
pair l h = record { low = l; high = h }

-- lows and highs side by side
abbrev pub pairs_of : List ℕ → List ℕ → List Pair
pairs_of lows highs = zip_with pair lows highs

-- an end by its side: the high with `true`, the low with `false`
abbrev pub end_of : Bool → Pair → ℕ
end_of true p = p.high
end_of false p = p.low

-- and of logarithms and forwards, which have either sign
pub record SignedPair : Type 0 where
  pub low : ℤ
  pub high : ℤ

abbrev pub signed_pair : ℤ → ℤ → SignedPair
signed_pair l h = record { low = l; high = h }
