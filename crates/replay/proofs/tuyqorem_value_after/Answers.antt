-- A refusal's place is one that a valuation answers.
use Rattle.ledger.proofs.Places.{value_place}
use Rattle.block.specs.Views.{paired}
use Rattle.replay.specs.Returned.{book_after}
use Rattle.replay.proofs.Returning.{refused_place}
use Rattle.replay.proofs.tuyqorem_value_after.Goals as goal

pub packed-requires : goal.packed-requires
packed-requires c =
    let a = c.args in
    refused_place _ c.in-Err.ensures.outcome (value_place (book_after a.age_limit a.calls.now) (paired a.flows.now))
