-- The plain curve's grounds first, then the adjusted one's, where the sheet has an adjustment.
use Prim.Native.Nat.{◌-◌}
use native.Mathlib.Omega.{arith}
use Rattle.method.specs.Units.{plain}
use Rattle.method.specs.Sheet.{smoothing_year}
use Rattle.method.proofs.Markets.{smoothing_least}
use Rattle.sheet.specs.Views.{as_numbers}
use Rattle.curve.proofs.Extending.{liquid_usable}
use Rattle.curve.proofs.Extension.both.Goals as goal

pub extended-requires : goal.extended-requires
extended-requires c =
    let p = (as_numbers c.args.self.now.n).profile in
    record {
      usable = liquid_usable c.args.self.now.n.in_range c.requires plain c.llfr_of.result c.llfr_of.ensures.0 c.llfr_of.ensures.1;
      last = c.requires.in_range (smoothing_year p - 1) (omega (arith, smoothing_least p));
    }
