-- The last multiple stays far below 2^32.
use Prim.Native.Nat.{◌*◌, ◌≤◌}
use Rattle.pages.proofs.multiples.Given as goal

abbrev pub invariant-loop-number : goal.invariant-loop-number
invariant-loop-number l = l.last ≤ 16_909_061 * l.number-index
