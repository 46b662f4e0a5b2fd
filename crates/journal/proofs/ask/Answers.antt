-- The first byte is a look-up's, and the year stands behind it.
use native.Mathlib.Omega.{arith}
use Rattle.journal.proofs.Making.{starts_is, desk_front_is}
use Rattle.journal.proofs.ask.Goals as goal

pub returns : goal.returns
returns c = rw (starts_is c.args.rest.now, desk_front_is c.args.rest.now) (grind (arith, c.in-Ok-Look.ensures, c.look_up.ensures))
