-- The record goes to the ten bytes behind what stands.
use mathlib.Core.Path.{◌≡◌}
use Prim.Native.Nat.{◌+◌, ◌*◌, ◌-◌}
use native.Mathlib.Omega.{arith}
use Rattle.page_writer.proofs.Writing.{next_year_lem}
use Rattle.page_writer.proofs.put_next_year.Goals as goal

pub returns : goal.returns
returns c month age lent so_far =
    let a = c.args in
    let ten : 5 + 10 * a.t + 10 - (5 + 10 * a.t) ≡ 10 = omega arith in
    next_year_lem month age a.lows.now a.highs.now c.requires.t_bound.1 lent a.t _ c.requires.t_bound.0 ten c.put_record.ensures so_far
