-- Invariant: the calls that are left lead from the book in hand to the book of all calls.
use lib.ListN.{length}
use Rattle.book.specs.Views.{as_book}
use Rattle.journal.proofs.Decoding.{Reached}
use Rattle.replay.proofs.replay.Given as goal

abbrev pub invariant-loop-made : goal.invariant-loop-made
invariant-loop-made l = Reached l.age_limit l.calls (as_book l.book) l.rest

abbrev pub decreases-loop-made : goal.decreases-loop-made
decreases-loop-made l = length l.rest
