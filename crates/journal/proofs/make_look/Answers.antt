-- What is asked, as a record that is made.
use Rattle.journal.proofs.Making.{desk_front_is}
use Rattle.journal.proofs.make_look.Goals as goal

pub returns : goal.returns
returns c =
    let asked = rw c.in_ok-year.ensures.ok_part at c.ask.ensures in
    rw (desk_front_is c.args.rest.now, c.requires) at asked.1
