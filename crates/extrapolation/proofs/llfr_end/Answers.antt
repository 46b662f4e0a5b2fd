-- The numerator is read back from its bits, and the divisor is 12 times the total, which is positive.
use mathlib.Core.Path.{◌≡◌}
use Prim.Native.Nat.{ℕ, ◌*◌, ◌≤◌}
use native.Mathlib.Omega.{arith}
use lib.Dec.{lt→ltb}
use lib.IntN.{pos}
use mir.Syntax.{w64}
use mir.Val.{to_z}
use Rattle.rounding.proofs.Machine.{natural_is, returned}
use Rattle.extrapolation.specs.Extrapolated.{volume_bound}
use Rattle.extrapolation.proofs.llfr_end.Goals as goal

divisor_is : (t : ℕ) → t ≤ 5 * volume_bound → to_z w64 (12 * t) ≡ pos (12 * t)
divisor_is t h = natural_is (12 * t) {M = 60 * volume_bound} (omega arith) tt

pub signed_quotient-requires : goal.signed_quotient-requires
signed_quotient-requires c =
    let t = c.total.ensures in
    rw (divisor_is _ t.1) (record { lt = lt→ltb 0 (12 * c.total.result) (omega (arith, t.0, c.requires.1)) })

pub returns : goal.returns
returns c =
    let t = c.total.ensures in
    let n = c.llfr_numerator in
    returned (rw (returned n.ensures n.type_inv, divisor_is _ t.1, t.0) at c.signed_quotient.ensures) c.signed_quotient.type_inv
