-- The page of the replayed book, of which demand 3 tells.
use Rattle.ledger.specs.Calls.{page_into}
use Rattle.book.specs.Views.{as_which}
use Rattle.replay.proofs.Returning.{told}
use Rattle.replay.proofs.page_after.Goals as goal

pub returns-clause-told : goal.returns-clause-told
returns-clause-told c =
    let a = c.args in
    told a.age_limit a.calls.now (page_into (as_which a.which) a.out.now) c.replay.ensures c.page.ensures
