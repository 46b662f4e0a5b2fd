-- Where the record stands there is a last number.
use mathlib.Core.Path.{◌∙◌, sym}
use Prim.Native.Nat.{◌-◌, ◌<◌}
use native.Mathlib.Omega.{arith}
use lib.IntN.{pos}
use lib.ListN.{length}
use Rattle.std.proofs.lemmas.Option.{slice_get-get_or}
use Rattle.method.proofs.Slots.{slots_adjusts}
use Rattle.sheet.specs.Views.{as_layout}
use Rattle.sheet.proofs.adjustment.Goals as goal

pub returns-then-layout-clause-stands : goal.returns-then-layout-clause-stands
returns-then-layout-clause-stands c =
    let zs = c.args.numbers.now in
    let some : length zs - 1 < length zs = omega (arith, c.requires.count, slots_adjusts (as_layout c.args.layout) c.if-layout.true) in
    rw (c.copied.ensures ∙ c.last.ensures.value ∙ slice_get-get_or zs _ (pos 0) some) (sym c.if-layout.true)
