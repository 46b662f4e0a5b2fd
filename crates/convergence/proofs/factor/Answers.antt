-- 500 less the cut rate is a number from 0 to 1,000, which its bits give back.
use mathlib.Core.Path.{◌≡◌, refl}
use Prim.Native.Nat.{◌+◌, ◌*◌, ◌-◌}
use lib.IntN.{ℤ, pos, ◌-ℤ◌}
use Rattle.method.specs.Extrapolation.{cut, convergence_factor}
use Rattle.method.proofs.Speed.{way, factor_by, factor_range}
use mir.Syntax.{w64}
use mir.ValLaws.{to_z-of_z}
use Rattle.rounding.proofs.Machine.{stored, stored_is, returned}
use Rattle.convergence.proofs.factor.Goals as goal

way-read : (r z : ℤ) → stored z ≡ cut r → stored (pos 500 -ℤ stored z) ≡ pos (way r).0
way-read r z is =
    let way-is : pos 500 -ℤ stored z ≡ pos (way r).0 = rw is (way r).1 in
    rw way-is (stored_is (pos (way r).0) {M = 1_000} (way r).2 tt)

pub returns : goal.returns
returns c =
    let x = c.args.x in
    let r = c.args.r in
    let read = returned (rw (to_z-of_z w64 r c.ranges.r) at c.cut.ensures) c.cut.type_inv in
    let is : 10_000_000 + (x - 10_000) * (way r).0 ≡ convergence_factor x r = factor_by x r in
    let range = factor_range x r c.requires.1 in
    rw (way-read r c.cut.result read, is) (refl, record { least = range.0; most = range.1 })
