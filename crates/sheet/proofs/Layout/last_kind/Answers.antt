-- The kind of the slot, by the layout.
use mathlib.Core.Path.{◌≡◌, ap, sym}
use Prim.Native.Nat.{◌+◌}
use native.Mathlib.Omega.{arith}
use Rattle.method.specs.Sheet.{ultimate_index}
use Rattle.sheet.specs.Views.{as_layout}
use Rattle.sheet.proofs.Lasts.{first_past, later_kind, alone_kind}
use Rattle.sheet.proofs.Layout.last_kind.Goals as goal
use Rattle.sheet.proofs.Layout.last_kind.Goals.{else-self-via-then-self+else-i-ultimate_index, else-self-via-else-self}

pub returns-then-i-ultimate_index : goal.returns-then-i-ultimate_index
returns-then-i-ultimate_index c = λ h.
    let l = as_layout c.args.self in
    let here : c.args.i ≡ ultimate_index l + 2 = omega (arith, c.if-i-ultimate_index.true, c.ultimate_index.ensures.0) in
    rw here (sym (ap (λ t. t.kind) (first_past l c.if-self.true)))

pub returns-else-self : goal.returns-else-self
returns-else-self c = λ h.
    let l = as_layout c.args.self in
    elim c.else-self.branch [
      | else-self-via-then-self+else-i-ultimate_index w ↦
          later_kind l c.args.i (omega (arith, c.requires, w.if-i-ultimate_index.false, w.ultimate_index.ensures.0)) h
      | else-self-via-else-self w ↦ alone_kind l c.args.i w.if-self.false c.requires h
    ]
