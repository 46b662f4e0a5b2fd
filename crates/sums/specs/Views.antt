-- The declared sums as the ledger's.
use Rattle.std.specs.Prelude.{ℕ, Option, Some, None}
use Rattle.method.specs.Curve as method
use Rattle.method.specs.Curve.{Held, none, some}
use Rattle.ledger.specs.Sums as ledger
use Rattle.rounding.specs.declared.Pairs.{Pairs}
use Rattle.curve.specs.Curves.{as_curve}
use Rattle.sums.specs.declared.Totalled.{Totalled}
use Rattle.sums.specs.declared.Summed.{Summed}

abbrev pub Sums : Type 0
Sums = Pairs ℕ 150

abbrev pub as_sums : Sums → ledger.Sums
as_sums k = record { lows = k.lows; highs = k.highs }

-- a curve beside its sums, or none: the one and the other
abbrev pub curve_in : Option Totalled → Held method.Curve
curve_in None = none
curve_in (Some t) = some (as_curve t.curve)

abbrev pub sums_in : Option Totalled → Held ledger.Sums
sums_in None = none
sums_in (Some t) = some (as_sums t.sums)

abbrev pub as_summed : Summed → ledger.Summed
as_summed k =
    record {
      curves = record { plain = as_curve k.plain.curve; adjusted = curve_in k.adjusted };
      plain_sums = as_sums k.plain.sums;
      adjusted_sums = sums_in k.adjusted;
    }
