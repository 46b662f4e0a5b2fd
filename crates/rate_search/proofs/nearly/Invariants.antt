-- Nothing is asked of the guess but that it ends: what is left of the years is halved.
use Rattle.rate_search.proofs.nearly.Given as goal

abbrev pub decreases-loop-left : goal.decreases-loop-left
decreases-loop-left l = l.left
