-- Invariant: the quotes so far are those marked among the first i.
use Prim.Native.Nat.{◌-◌, ◌≤◌}
use Rattle.used_quotes.proofs.Selecting.{Selected}
use Rattle.used_quotes.proofs.select.Given as goal

abbrev pub invariant-loop-i : goal.invariant-loop-i
invariant-loop-i l = Selected l.market.smoothing l.n.volumes l.n.rates l.q l.i × (l.i ≤ l.market.quotes)

abbrev pub decreases-loop-i : goal.decreases-loop-i
decreases-loop-i l = l.market.quotes - l.i
