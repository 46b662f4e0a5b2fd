-- The lower end of one halving, the upper end of the other.
use mathlib.Core.Path.{ap₂}
use Prim.Native.Nat.{◌-◌}
use native.Mathlib.Nat.{le_refl}
use Rattle.method.specs.Units.{pair}
use Rattle.method.specs.Quotes.{low_x, high_x, lower_end, upper_end}
use Rattle.gap.proofs.yearly_factor.Goals as goal

pub returns : goal.returns
unfolding low_x high_x
returns c =
    let distance = upper_end - lower_end in
    ap₂ pair (c.halved.ensures distance (le_refl distance)) (c.halved-2.ensures distance (le_refl distance))
