-- The look-up of the replayed book, of which demand 3 tells.
use Rattle.ledger.specs.Calls.{look_at}
use Rattle.book.specs.Views.{as_which, as_wanted}
use Rattle.replay.proofs.Returning.{told}
use Rattle.replay.proofs.look_after.Goals as goal

pub returns-clause-told : goal.returns-clause-told
returns-clause-told c =
    let a = c.args in
    told a.age_limit a.calls.now (look_at (as_which a.which) (as_wanted a.wanted) a.year) c.replay.ensures c.look_up.ensures
