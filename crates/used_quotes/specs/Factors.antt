-- What the contracts say of one factor, beyond the method's definitions.
use Rattle.std.specs.Prelude.{◌≡◌, ℕ, get_or}
use Rattle.method.specs.Ranges.{Factor}
use Rattle.method.specs.Curve.{no_year}
use Rattle.rounding.specs.Pairs.{Pair}
use Rattle.rounding.specs.Pairs.{as_pair}
use Rattle.bootstrap.specs.declared.Liquid.{Liquid}
use Rattle.bootstrap.specs.Liquids.{as_bootstrap}

-- the factor at an index, which passed grounds 7 and 8
pub record FactorOf (q : Liquid) (i : ℕ) (r : Pair) : Type 0 where
  pub is : as_pair r ≡ get_or (as_bootstrap q).factors i no_year
  pub range : Factor (as_pair r)
