-- Both ends, each read back from its bits; the size is the method's bound.
use mathlib.Core.Path.{ap, ◌∙◌}
use mathlib.Core.List.{List}
use Prim.Native.Nat.{◌*◌}
use lib.IntN.{ℤ}
use Rattle.fraction.specs.Rounding.{round_ℤ}
use Rattle.method.specs.Sheet.{total}
use Rattle.method.specs.Extrapolation.{llfr_numerator}
use mathlib.Core.Bool.{true, false}
use Rattle.rounding.proofs.Machine.{returned}
use Rattle.extrapolation.proofs.Forwarding.{llfr_is, ends_sized}
use borrow.Author.Rules.{rules}
use Rattle.extrapolation.proofs.llfr.Goals as goal

pub llfr_end-requires : goal.llfr_end-requires
llfr_end-requires c = (c.requires.0, c.requires.1, rw c.ends.ensures (ends_sized false c.args.g c.requires.2))

pub llfr_end-requires-2 : goal.llfr_end-requires-2
llfr_end-requires-2 c = (c.requires.0, c.requires.1, rw c.ends-2.ensures (ends_sized true c.args.g c.requires.2))

pub returns : goal.returns
returns c =
    let low = c.llfr_end in
    let high = c.llfr_end-2 in
    let vs = c.args.volumes in
    llfr_is vs c.args.g (search rules) (search rules) c.requires.1 c.requires.2 _
    (returned (low.ensures ∙ ap (λ (g : List ℤ). round_ℤ false (llfr_numerator vs g) (12 * total vs)) c.ends.ensures) low.type_inv)
    (returned (high.ensures ∙ ap (λ (g : List ℤ). round_ℤ true (llfr_numerator vs g) (12 * total vs)) c.ends-2.ensures) high.type_inv)
