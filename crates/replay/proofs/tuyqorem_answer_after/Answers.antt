-- What a call answers has a place that can be answered.
use Rattle.ledger.proofs.Withdrawing.{withdraws}
use Rattle.journal.specs.Journal.{front, decode}
use Rattle.replay.proofs.Returning.{reply_place_lem}
use Rattle.replay.proofs.tuyqorem_answer_after.Goals as goal

pub replied-requires : goal.replied-requires
replied-requires c = rw c.make.ensures.reply (reply_place_lem _ (front c.args.call.now))

pub returns-clause-told : goal.returns-clause-told
returns-clause-told c = withdraws c.args.age_limit (decode c.args.calls.now)
