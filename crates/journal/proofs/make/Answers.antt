-- By the kind of the first byte, if there is one.
use Rattle.std.proofs.Common.{rules}
use Rattle.journal.proofs.Making.{front_is, uncalled}
use Rattle.journal.proofs.make.Goals as goal

pub returns-in_err-kind_of : goal.returns-in_err-kind_of
returns-in_err-kind_of c =
    rw (front_is c.args.rest.now, ← c.in_err-kind_of.ensures) (uncalled _ _ _ _ (search rules))

pub returns : goal.returns
returns c = rw (front_is c.args.rest.now, ← c.in_ok-kind_of.ensures) c.make_kind.ensures
