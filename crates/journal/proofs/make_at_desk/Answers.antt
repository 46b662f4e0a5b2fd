-- By the kind of the first byte; a withdrawal is unknown to the desk.
use Rattle.std.proofs.Common.{rules, refl}
use Rattle.journal.proofs.Making.{desk_front_is, desk_knows, uncalled}
use Rattle.journal.specs.declared.NoCall.TheVariants.{NotKnown}
use Rattle.journal.proofs.make_at_desk.Goals as goal

pub returns-in_err-kind : goal.returns-in_err-kind
returns-in_err-kind c = rw (desk_front_is c.args.rest.now, ← c.in_err-kind.ensures) (uncalled _ _ _ _ (search rules))

pub returns-in-Withdrawal : goal.returns-in-Withdrawal
returns-in-Withdrawal c =
    rw (desk_front_is c.args.rest.now, ← c.in_ok-kind.ensures, c.in-Withdrawal.is) (uncalled _ _ NotKnown _ refl)

pub returns-in_default : goal.returns-in_default
returns-in_default c =
    rw (desk_front_is c.args.rest.now, ← c.in_ok-kind.ensures, desk_knows _ c.in_default.not-Withdrawal) c.make_kind.ensures
