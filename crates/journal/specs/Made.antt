-- What making the call at the front of some bytes hands back.
use Rattle.std.specs.Prelude.{Bool, true, false, ◌&&◌, List, ◌≡◌, ℕ, ◌≤◌, leb, eqb, length, get_or, Result, Option, OnErr}
use Rattle.std.specs.declared.option.Option.TheVariants.{None, Some}
use Rattle.std.specs.declared.result.Result.TheVariants.{Ok, Err}
use Rattle.grounds.specs.Answers.{outcome_of, as_answered}
use Rattle.book.specs.declared.Book.{Book}
use Rattle.book.specs.Views.{as_book, as_finding}
use Rattle.journal.specs.Journal.{Front, desk_front, front}
use Rattle.journal.specs.Replies as replies
use Rattle.journal.specs.Replies.{posted, turned, withdrawn, looked, cut_short, not_known, reply_to, book_after, taken}
use Rattle.journal.specs.declared.Reply.{Reply}
use Rattle.journal.specs.declared.Reply.TheVariants.{Posted, Turned, Withdrawn, Looked}
use Rattle.journal.specs.declared.NoCall.{NoCall}
use Rattle.journal.specs.declared.NoCall.TheVariants.{CutShort, NotKnown}
use Rattle.journal.specs.declared.Made.{Made}
use Rattle.journal.specs.declared.Asked.{Asked}

abbrev pub as_reply : Reply → replies.Reply
as_reply (Posted answer) = posted (as_answered answer)
as_reply (Turned answer) = turned (as_answered answer)
as_reply (Withdrawn answer) = withdrawn (as_answered answer)
as_reply (Looked year answer) = looked year (outcome_of as_finding answer)

abbrev pub as_no_call : NoCall → replies.Reply
as_no_call CutShort = cut_short
as_no_call NotKnown = not_known

-- the reply of the call that was made, or why none was
abbrev pub as_replied : Result Made NoCall → replies.Reply
as_replied (Ok made) = as_reply made.reply
as_replied (Err why) = as_no_call why

-- the record's bytes; 0 where nothing was called
abbrev pub bytes_taken : Result Made NoCall → ℕ
bytes_taken (Ok made) = made.taken
bytes_taken (Err why) = 0

-- with the book before and after
pub record MakesFront (before after : Book) (s : List ℕ) (f : Front) (r : Result Made NoCall) : Type 0 where
  pub reply : as_replied r ≡ reply_to (as_book before) f
  pub book : as_book after ≡ book_after (as_book before) f
  pub kept : OnErr r (after ≡ before)
  pub bytes : bytes_taken r ≡ taken f
  pub within : bytes_taken r ≤ length s

-- a record that the desk knows
abbrev pub MakesAtDesk : Book → Book → List ℕ → Result Made NoCall → Type 0
MakesAtDesk before after s r = MakesFront before after s (desk_front s) r

-- any record
abbrev pub Makes : Book → Book → List ℕ → Result Made NoCall → Type 0
Makes before after s r = MakesFront before after s (front s) r

-- ---- a look-up's record, by itself

-- it stands whole at the front
abbrev pub starts_look : List ℕ → Bool
starts_look s = leb 2 (length s) && eqb (get_or s 0 0) 0x4C

-- what making it hands back
abbrev pub look_made : Asked → Result Made NoCall
look_made asked = Ok (record { reply = Looked asked.year asked.answer; taken = 2 })

-- the book staying as it is
abbrev pub Asks : Book → List ℕ → Option Asked → Type 0
Asks book s None = starts_look s ≡ false
Asks book s (Some asked) = (starts_look s ≡ true) × MakesAtDesk book book s (look_made asked)
