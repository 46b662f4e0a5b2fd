-- The valuation of the replayed book, of which demand 3 tells.
use Rattle.ledger.specs.Calls.{value_of}
use Rattle.block.specs.Views.{paired}
use Rattle.replay.proofs.Returning.{told}
use Rattle.replay.proofs.value_after.Goals as goal

pub returns-clause-told : goal.returns-clause-told
returns-clause-told c =
    let a = c.args in
    told a.age_limit a.calls.now (value_of (paired a.numbers.now)) c.replay.ensures c.value_of_numbers.ensures
