-- Each sum is small enough to be read back from its bits.
use mathlib.Core.Path.{◌≡◌, ap, ◌∙◌}
use Prim.Native.Nat.{◌≤◌}
use lib.IntN.{ℤ, nat_abs, ◌+ℤ◌}
use lib.ListN.{length, get_or}
use Rattle.method.specs.Ranges.{logarithm_bound}
use Rattle.method.specs.Extrapolation.{billionths}
use Rattle.rounding.proofs.Machine.{Computed, stored, stored_is, held, integer, given, plus}
use Rattle.extrapolation.specs.Extrapolated.{no_forward}
use Rattle.adjustment.proofs.Raising.{raised_once, raised_is}
use borrow.Author.Rules.{rules}
use Rattle.adjustment.proofs.raise_first.Goals as goal
use Rattle.adjustment.proofs.raise_first.Goals.{After-billionths-more}

-- one end of g1 with what it gains
abbrev raised : (c : After-billionths-more) (g : ℤ) → nat_abs g ≤ logarithm_bound → Computed
raised c g h =
    let is = c.billionths-more.ensures.0 ∙ ap billionths (stored_is c.args.a c.requires.1 tt) in
    plus (held (integer g logarithm_bound h) tt) (held (given c.billionths-more.result 5_000_000 is c.billionths-more.ensures.1.size) tt)

pub returns : goal.returns
returns c =
    let g = c.args.g in
    let billionths = (goal.at.returns c).After-billionths-more in
    let first = c.requires.0.sizes 0 in
    let low = held (raised billionths (get_or g 0 no_forward).low first.low_size) tt in
    let high = held (raised billionths (get_or g 0 no_forward).high first.high_size) tt in
    let five : length g ≡ 5 = search rules in
    let once = raised_once g low.machine (λ h. stored (stored h +ℤ stored c.billionths-more.result)) five in
    rw once
    (raised_is c.args.a g (record { low = low.machine; high = high.machine }) five c.requires.0 low.is high.is
    (record { low_size = rw low.is low.within.bound; high_size = rw high.is high.within.bound }))
