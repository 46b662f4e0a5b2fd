-- U - q is at most U, and a at least a tenth of the one that multiplies it.
use mathlib.Core.Path.{refl}
use Rattle.convergence.proofs.Sides.{scale_most}
use Rattle.convergence.proofs.scale_end.Goals as goal

pub returns : goal.returns
returns c =
    let a = c.args in
    rw c.quotient.ensures (refl, scale_most a.up a.a a.q c.requires.0.least)
