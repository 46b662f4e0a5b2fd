-- The loop's invariant: the lines put so far, and then the pass over what is left, are the pass over all that is held.
use Rattle.std.proofs.Common.{◌-◌, length}
use Rattle.book.specs.Views.{as_book}
use Rattle.desk_core.proofs.Serving.{Progress}
use Rattle.desk_core.proofs.serve_held.Given as goal

abbrev pub invariant-loop-text : goal.invariant-loop-text
invariant-loop-text l = Progress (length l.initial.text) (as_book l.initial.book) l.held (as_book l.book) l.taken l.text l.written

abbrev pub decreases-loop-text : goal.decreases-loop-text
decreases-loop-text l = length l.held - l.taken
