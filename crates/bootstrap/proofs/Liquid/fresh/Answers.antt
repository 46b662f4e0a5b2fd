-- Nothing is worked: both lists are empty, whatever the arrays hold.
use mathlib.Core.Path.{refl, sym}
use mathlib.Core.List.{zip_with}
use native.Mathlib.Omega.{arith}
use Rattle.method.proofs.QuotesLaws.{annuity_none}
use Rattle.bootstrap.proofs.Liquid.fresh.Goals as goal

pub invariant_of-result : goal.invariant_of-result
unfolding zip_with
invariant_of-result c =
    record {
      sound =
          record {
            long_lows = refl;
            long_highs = refl;
            within = omega arith;
            sums = sym annuity_none;
            factors = λ i h. absurd (omega arith);
            long_xs = refl;
            gaps_within = omega arith;
          };
    }

pub returns : goal.returns
unfolding zip_with
returns c = (refl, refl, refl)
