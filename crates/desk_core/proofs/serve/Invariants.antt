-- From pass to pass the block has room for the longest record, the text for a line. A pass that takes nothing leaves less than one
-- record: so there is room for a read.
use Rattle.std.proofs.Common.{◌≤◌, length}
use Rattle.desk_core.specs.Desk.{longest_record, line_room}
use Rattle.desk_core.proofs.serve.Given as goal

abbrev pub invariant-loop : goal.invariant-loop
invariant-loop g l = (longest_record ≤ length l.block) × ((line_room ≤ length l.text) × (l.desk.held ≤ length l.block))
