-- The block of some list, whichever it is.
use mathlib.Core.List.{List}
use mathlib.Core.Path.{◌≡◌, sym, subst}
use Prim.Native.Nat.{ℕ}
use Rattle.method.specs.Grounds.{done}
use Rattle.block.specs.Views.{block_of}
use Rattle.block.proofs.Worths.{value_is}
use Rattle.block.proofs.Block.value_on.Goals as goal

pub returns : goal.returns
returns c = λ fs e.
    value_is fs (subst (λ (ts : List ℕ). block_of fs ≡ done ts) (sym c.self.view_is) e) _ _ c.rounded.ensures c.rounded-2.ensures
