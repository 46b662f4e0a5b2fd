-- The letter, behind it the numbers, behind them the line's end.
use Rattle.desk_core.proofs.Putting.{◌then◌}
use Rattle.desk_core.proofs.lines.put_line.Goals as goal

pub returns : goal.returns
returns c = c.put-first.ensures then c.put_numbers-last.ensures then c.put.ensures
