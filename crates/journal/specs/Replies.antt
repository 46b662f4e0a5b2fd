-- What the call at the front of some bytes is answered, and the book that it leaves.
use Rattle.std.specs.Prelude.{ℕ}
use Rattle.method.specs.Grounds.{Outcome}
use Rattle.ledger.specs.Answers.{Finding}
use Rattle.ledger.specs.Book.{Book, post, turn, withdraw, look_up}
use Rattle.ledger.specs.Calls.{look_at, page_into, value_of, post_of, turn_to, withdrawal, asks, after}
use Rattle.journal.specs.Journal.{Front, whole, cut, unknown}

-- a look-up with its year; or why there is no call
pub data Reply : Type 0 where
  posted : Outcome ℕ → Reply
  turned : Outcome ℕ → Reply
  withdrawn : Outcome (Unit {0}) → Reply
  looked : ℕ → Outcome Finding → Reply
  cut_short : Reply
  not_known : Reply

-- no record is a page
abbrev pub reply_to : Book → Front → Reply
reply_to b (whole (post_of s) n) = posted (post b s).answer
reply_to b (whole (turn_to m) n) = turned (turn b m).answer
reply_to b (whole withdrawal n) = withdrawn (withdraw b).answer
reply_to b (whole (asks (look_at w v y)) n) = looked y (look_up b w v y)
reply_to b (whole (asks (page_into w l)) n) = not_known
reply_to b (whole (asks (value_of fs)) n) = not_known
reply_to b cut = cut_short
reply_to b unknown = not_known

abbrev pub book_after : Book → Front → Book
book_after b (whole c n) = after b c
book_after b cut = b
book_after b unknown = b

-- the record's bytes; 0 where no whole record stands
abbrev pub taken : Front → ℕ
taken (whole c n) = n
taken cut = 0
taken unknown = 0
