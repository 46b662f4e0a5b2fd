-- The weighted volume and its product with g are small enough to be read back from their bits.
use native.Mathlib.Nat.{mul-le-mul}
use Prim.Native.Nat.{ℕ, ◌≤◌, ◌*◌}
use lib.IntN.{ℤ, nat_abs}
use Rattle.method.specs.Ranges.{forward_bound}
use Rattle.extrapolation.specs.Extrapolated.{volume_bound}
use Rattle.rounding.proofs.Machine.{Computed, held, integer, natural, times}
use Rattle.extrapolation.proofs.product.Goals as goal

module _ (weight volume : ℕ) (g : ℤ) (hw : weight ≤ 12) (hv : volume ≤ volume_bound) (hg : nat_abs g ≤ 6 * forward_bound) where
  weighted-bound : weight * volume ≤ 12 * volume_bound
  weighted-bound = mul-le-mul hw hv

  abbrev whole : Computed
  whole = times (natural (weight * volume) (12 * volume_bound) weighted-bound tt) (held (integer g (6 * forward_bound) hg) tt)

pub returns : goal.returns
returns c =
    let p = held (whole c.args.weight c.args.volume c.args.g c.requires.0 c.requires.1 c.requires.2) tt in
    (p.is, rw p.is p.within.bound)
