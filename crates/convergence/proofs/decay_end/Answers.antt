-- The growth's other end, which is at least U.
use mathlib.Core.Path.{◌≡◌, ap, ◌∙◌}
use Prim.Native.Nat.{◌*◌}
use Rattle.fraction.specs.Rounding.{U, round_ℕ}
use Rattle.method.specs.Units.{end_of}
use Rattle.method.specs.Extrapolation.{decay_pair}
use Rattle.convergence.proofs.Sides.{decay_is, decay_most}
use Rattle.convergence.proofs.decay_end.Goals as goal

pub returns : goal.returns
returns c =
    let a = c.args in
    let is : c.quotient.result ≡ end_of a.up (decay_pair a.a) =
    c.quotient.ensures ∙ ap (round_ℕ a.up (U * U)) c.growth.ensures.0 ∙ decay_is a.up a.a in
    (is, rw is (decay_most a.up a.a))
