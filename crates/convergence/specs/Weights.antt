-- What the contracts cite beside the definitions of the crate method.
use Rattle.std.specs.Prelude.{◌≡◌, List, map, ℕ, suc, ◌+◌, ◌≤◌, ◌<◌, pos, get_or}
use Rattle.fraction.specs.Fraction.{nat_ℚ, ◌≤ℚ◌, ◌<ℚ◌, ◌*ℚ◌, ◌÷◌}
use Rattle.fraction.specs.Rounding.{U, Encloses}
use Rattle.method.specs.Units.{Pair, pair}
use Rattle.method.specs.Table.{table}
use Rattle.method.specs.Extrapolation.{weights}
use Rattle.method.specs.True.{billion, convergence}
use Rattle.rounding.specs.Pairs as code
use Rattle.rounding.specs.Pairs.{as_pair}

-- a sheet's factor: 10% to 20%, in hundred-millionths
pub record Factor (a : ℕ) : Type 0 where
  pub least : 10_000_000 ≤ a
  pub most : a ≤ 20_000_000

-- r is the table's entry, and at every order the whole part of U × k(i + 1) at 10%
pub record TableEntry (i r : ℕ) : Type 0 where
  pub tabled : r ≡ get_or table i 0
  pub below_U : r + 1 ≤ U
  pub whole_part : (n : ℕ) →
      let k = convergence n (nat_ℚ 1 ÷ nat_ℚ 10) (suc i) in
      (nat_ℚ r ≤ℚ billion *ℚ k) × (billion *ℚ k <ℚ nat_ℚ (r + 1))

-- ---- all pairs

-- it holds U × k(h) of every order, at the factor a
pub record Weight (a h : ℕ) (κ : Pair) : Type 0 where
  pub ordered : κ.low ≤ κ.high
  pub at_most_U : κ.high ≤ U
  pub holds : (n : ℕ) → Encloses (pos κ.low) (pos κ.high) (billion *ℚ convergence n (nat_ℚ a ÷ nat_ℚ 100_000_000) h)

pub record WeightsOf (a : ℕ) (κs : List code.Pair) : Type 0 where
  pub pairs : map as_pair κs ≡ weights a 140
  pub weigh : (i : ℕ) → i < 140 → Weight a (suc i) (get_or (map as_pair κs) i (pair 0 0))
