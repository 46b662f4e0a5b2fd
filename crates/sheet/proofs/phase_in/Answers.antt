use native.Mathlib.Omega.{arith}
use Rattle.method.proofs.Slots.{slots_phased}
use Rattle.sheet.specs.Views.{as_layout}
use Rattle.sheet.proofs.phase_in.Goals as goal

pub unsigned-requires : goal.unsigned-requires
unsigned-requires c = omega (arith, c.requires.count, slots_phased (as_layout c.args.layout) c.if-layout.true, c.ultimate_index.ensures.0)
