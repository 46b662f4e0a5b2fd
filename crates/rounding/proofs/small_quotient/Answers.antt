-- By the side; each is the definition itself, whose sum does not wrap.
use mathlib.Core.Path.{refl}
use Rattle.rounding.proofs.small_quotient.Goals as goal

pub returns-else-up : goal.returns-else-up
returns-else-up c = rw c.if-up.false refl
