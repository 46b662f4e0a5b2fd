-- Each product and the sum are small enough to be read back from their bits.
use native.Mathlib.Omega.{arith}
use Prim.Native.Nat.{ℕ, ◌-◌, ◌≤◌}
use lib.IntN.{ℤ, nat_abs}
use Rattle.fraction.specs.Rounding.{U}
use Rattle.method.specs.Ranges.{forward_bound}
use Rattle.rounding.proofs.Machine.{Computed, read, held, integer, natural, plus, times, returned}
use Rattle.extrapolation.proofs.blended.Goals as goal

module _ (l f : ℤ) (k : ℕ) (hl : nat_abs l ≤ forward_bound) (hf : nat_abs f ≤ forward_bound) (hk : k ≤ U) where
  abbrev ultimate : Computed
  ultimate = times (held (integer l forward_bound hl) tt) (natural (U - k) U (omega arith) tt)

  abbrev liquid : Computed
  liquid = times (held (integer f forward_bound hf) tt) (natural k U hk tt)

  abbrev blend_sum : Computed
  blend_sum = plus (held ultimate tt) (held liquid tt)

pub returns : goal.returns
returns c =
    let sum = blend_sum c.args.l c.args.f c.args.k c.requires.0 c.requires.1 c.requires.2 in
    returned (rw (read sum tt) at c.signed_quotient.ensures) c.signed_quotient.type_inv
