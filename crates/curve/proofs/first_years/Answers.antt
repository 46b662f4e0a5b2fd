-- One entry more of both arrays.
use Prim.Native.Nat.{◌<◌}
use native.Mathlib.Omega.{arith}
use Rattle.method.proofs.Copying.{copied_more}
use Rattle.curve.proofs.first_years.Goals as goal

pub loop-i-preserved : goal.loop-i-preserved
loop-i-preserved c =
    let inside : c.loop-i.i < c.args.year = omega (arith, c.if-year-i.false) in
    record {
      lows = copied_more _ _ _ _ _ c.loop-i.invariant.lows inside;
      highs = copied_more _ _ _ _ _ c.loop-i.invariant.highs inside;
    }
