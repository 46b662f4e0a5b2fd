-- Invariant: the lower end rises unless it is the first, and the upper does not unless it is the last.
use Rattle.std.proofs.Common.{◌-◌, ◌<◌, ◌≤◌, true, false}
use Rattle.rate_search.proofs.halve.Given as goal

abbrev pub invariant-loop-above : goal.invariant-loop-above
invariant-loop-above g l =
    record {
      from : l.lo ≤ l.below;
      apart : l.below < l.above;
      to : l.above ≤ l.hi;
      here : l.lo < l.below → goal.F-post g l.rises l.below true;
      next : l.above < l.hi → goal.F-post g l.rises l.above false;
    }

abbrev pub decreases-loop-above : goal.decreases-loop-above
decreases-loop-above g l = l.above - l.below
