-- Invariant: whichever buffer the head was put into, the writing has come to year y in it.
use mathlib.Core.Path.{◌≡◌}
use mathlib.Core.List.{List}
use Prim.Native.Nat.{ℕ}
use Rattle.ledger.specs.Page.{page_bytes}
use Rattle.page_writer.specs.Written.{written_to}
use Rattle.page_writer.proofs.write_to.Given as goal

abbrev pub invariant-loop-y : goal.invariant-loop-y
invariant-loop-y l =
    (lent : List ℕ) → l.initial.out ≡ written_to 0 (page_bytes l.month l.age l.lows l.highs) lent →
    l.out ≡ written_to l.y (page_bytes l.month l.age l.lows l.highs) lent
