-- Both ends are small, so the new pair stores them as they are.
use Rattle.method.specs.Series.{gap_forward_with}
use Rattle.rounding.proofs.Machine.{stored_is, stored_size}
use Rattle.series.proofs.gap_forward.Goals as goal

pub returns : goal.returns
unfolding gap_forward_with
returns c =
    let from = c.minus_log-from in
    let to = c.minus_log-to in
    let low = from.ensures.1.low_size in
    let high = to.ensures.1.high_size in (
      rw (stored_is from.result.low low tt, stored_is to.result.high high tt, ← from.ensures.0, ← to.ensures.0),
      record { low_size = stored_size from.result.low low tt; high_size = stored_size to.result.high high tt },
    )
