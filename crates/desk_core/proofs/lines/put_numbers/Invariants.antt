-- The loop's invariant: the numbers so far are put, each after a space.
use Rattle.std.proofs.Common.{◌≡◌, length, take}
use Rattle.desk_core.specs.Lines.{spaced}
use Rattle.desk_core.specs.Handed.{Puts}
use Rattle.desk_core.proofs.lines.put_numbers.Given as goal

abbrev pub invariant-loop-n : goal.invariant-loop-n
invariant-loop-n l = (length l.text ≡ length l.initial.text) × Puts (spaced (take l.n-index l.numbers)) l.initial.text l.at l.text l.end
