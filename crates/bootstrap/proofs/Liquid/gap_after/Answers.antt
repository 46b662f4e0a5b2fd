-- A and the last factor, whose ranges are those of the factors.
use mathlib.Core.Path.{ap₂}
use native.Mathlib.Omega.{arith}
use mir.Syntax.{w64}
use mir.ValLaws.{to_z-of_z}
use Rattle.method.specs.Units.{Pair}
use Rattle.method.specs.Ranges.{Factor}
use Rattle.method.proofs.QuotesBounds.{last_year_factor}
use Rattle.rounding.specs.Pairs.{as_pair}
use Rattle.bootstrap.proofs.Soundness.{factors, annuity_small}
use Rattle.bootstrap.proofs.Liquid.gap_after.Goals as goal
use Rattle.bootstrap.proofs.Liquid.gap_after.Goals.{After-last_year}

start-factor : (c : After-last_year) → Factor (as_pair c.last_year.result)
start-factor c = rw c.last_year.ensures (last_year_factor (factors c.args.self.now))

pub invariant_of-result : goal.invariant_of-result
invariant_of-result c =
    let w = c.args.self.now in
    let f = start-factor c in
    rw (to_z-of_z w64 _ c.ranges.rate)
    (record {
      fits =
          record {
            small_rate = c.requires.1;
            few_years = c.requires.0;
            small_annuity = annuity_small w;
            small_start = record { low = omega (arith, f.ordered, f.greatest); high = f.greatest };
          };
    })

pub returns : goal.returns
returns c =
    rw (to_z-of_z w64 _ c.ranges.rate) (
      ap₂ (λ (a t : Pair). record { rate = c.args.rate; years = c.args.k; annuity = a; start = t }) c.args.self.now.sound.sums c.last_year.ensures,
      start-factor (goal.at.returns c).After-last_year,
    )
