use native.Mathlib.Omega.{arith}
use Rattle.page_writer.proofs.write_to.Goals as goal

pub put_next_year-requires-clause-page_length_in_bounds : goal.put_next_year-requires-clause-page_length_in_bounds
put_next_year-requires-clause-page_length_in_bounds c =
    let a = c.args in (
      omega arith,
      record { month = a.month; age = a.age; lent = a.out.now; so_far = c.loop-y.invariant a.out.now (c.put_head.ensures a.lows.now a.highs.now) },
    )
