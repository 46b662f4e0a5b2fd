-- A part of the input has the length that it was cut to.
use Rattle.std.proofs.Common.{sym, arith, length-take-le}
use Rattle.shifts.proofs.sheets.Goals as goal

pub slice_bounds-shifts-end-3 : goal.slice_bounds-shifts-end-3
slice_bounds-shifts-end-3 g c = sym (length-take-le 108 c.args.input.now (omega arith))
