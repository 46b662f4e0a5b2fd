-- One slot for each record that stands.
use native.Mathlib.Omega.{arith}
use Rattle.method.proofs.Slots.{slots_length}
use Rattle.sheet.specs.Views.{as_layout}
use Rattle.sheet.proofs.Layout.count.Goals as goal

pub returns : goal.returns
returns c =
    let first = c.if_stands.ensures in
    let second = c.if_stands-2.ensures in
    let at = c.ultimate_index.ensures in
    (omega (arith, slots_length (as_layout c.args.self), first.0, second.0, at.0), omega (arith, first.1, second.1, at.1))
