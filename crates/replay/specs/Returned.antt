-- SPECIFICATION 11: what the C interface returns, an answer and what stands in the buffer.
use Rattle.std.specs.Prelude.{cond, List, ◌++◌, ℕ, ◌+◌, ◌*◌, ◌/◌, ◌%◌, eqb, leb, ℤ, length, drop}
use Rattle.method.specs.Bytes.{in_bytes, twos_complement32}
use Rattle.method.specs.Units.{Which, plain, adjusted}
use Rattle.method.specs.Grounds.{buffer_too_short, number_of, Outcome, refused, done}
use Rattle.shift.specs.Shift.{shift_for}
use Rattle.ledger.specs.Answers.{Wanted, factor, sum, Finding, Value, answer_number, answer_place}
use Rattle.ledger.specs.Book.{Book, Paged, look_up, page, value}
use Rattle.ledger.specs.Calls.{run}
use Rattle.ledger.specs.Count.{Count, count}
use Rattle.block.specs.Views.{paired}
use Rattle.journal.specs.Journal.{decode}
use Rattle.journal.specs.Replies.{Reply, posted, turned, withdrawn, looked, cut_short, not_known}

-- the book after the calls of a journal, made with an age limit
abbrev pub book_after : ℕ → List ℕ → Book
book_after limit journal = run limit (decode journal)

-- what is then answered, and what the calls count to
abbrev pub look_after : ℕ → List ℕ → Which → Wanted → ℕ → Outcome Finding
look_after limit journal w v y = look_up (book_after limit journal) w v y

abbrev pub page_after : ℕ → List ℕ → Which → List ℕ → Paged
page_after limit journal w l = page (book_after limit journal) w l

-- of a list that is lent as plain numbers, year and cents in turn
abbrev pub value_after : ℕ → List ℕ → List ℕ → Outcome Value
value_after limit journal numbers = value (book_after limit journal) (paired numbers)

-- the shift of a sheet, and of such a list
abbrev pub shift_by : List ℕ → List ℕ → ℕ → Outcome ℤ
shift_by sheet numbers target = shift_for sheet (paired numbers) target

abbrev pub count_of : List ℕ → Count
count_of journal = count (decode journal)

pub record Returned : Type 0 where
  pub answer : ℕ
  pub buffer : List ℕ

abbrev pub returned : ℕ → List ℕ → Returned
returned n l = record { answer = n; buffer = l }

-- number + 256 × place
abbrev pub packed : {A : Type 0} → Outcome A → ℕ
packed o = answer_number o + 256 * answer_place o

-- bit 0 of `kind` names the adjusted curve, bit 1 asks a look-up for the sum; all others are ignored
abbrev pub by_kind : ℕ → Which
by_kind kind = cond (eqb (kind % 2) 1) adjusted plain

abbrev pub wanted_by : ℕ → Wanted
wanted_by kind = cond (eqb (kind / 2 % 2) 1) sum factor

-- the look-up that `kind` asks for
abbrev pub look_by : ℕ → List ℕ → ℕ → ℕ → Outcome Finding
look_by limit journal kind y = look_after limit journal (by_kind kind) (wanted_by kind) y

-- low (8), high (8), month (2), age (2)
abbrev pub dated_bytes : ℕ → ℕ → ℕ → ℕ → List ℕ
dated_bytes low high month age = in_bytes 8 low ++ in_bytes 8 high ++ in_bytes 2 month ++ in_bytes 2 age

-- low rate (4), high rate (4) behind these
abbrev pub found_bytes : Finding → List ℕ
found_bytes f =
    dated_bytes f.low f.high f.month f.age
    ++ in_bytes 4 (twos_complement32 f.low_rate)
    ++ in_bytes 4 (twos_complement32 f.high_rate)

abbrev pub value_bytes : Value → List ℕ
value_bytes v = dated_bytes v.low v.high v.month v.age

-- a reply of so many bytes: the question's own grounds before a buffer that is too short; bytes past the reply are kept
abbrev pub reply_returned : {A : Type 0} → ℕ → (A → List ℕ) → Outcome A → List ℕ → Returned
reply_returned {A} size bytes (refused g) l = returned (packed {A = A} (refused g)) l
reply_returned size bytes (done a) l =
    cond (leb size (length l)) (returned 0 (bytes a ++ drop size l)) (returned (number_of buffer_too_short) l)

abbrev pub look_returned : Outcome Finding → List ℕ → Returned
look_returned o l = reply_returned 28 found_bytes o l

abbrev pub value_returned : Outcome Value → List ℕ → Returned
value_returned o l = reply_returned 20 value_bytes o l

-- the lowest two bytes of its two's complement
abbrev pub shift_bytes : ℤ → List ℕ
shift_bytes s = in_bytes 2 (twos_complement32 s)

abbrev pub shift_returned : Outcome ℤ → List ℕ → Returned
shift_returned o l = reply_returned 2 shift_bytes o l

abbrev pub page_returned : Paged → Returned
page_returned p = returned (packed p.answer) p.buffer

-- of one more call; 255 where no whole record stands
abbrev pub replied : Reply → ℕ
replied (posted o) = packed o
replied (turned o) = packed o
replied (withdrawn o) = packed o
replied (looked y o) = packed o
replied cut_short = 255
replied not_known = 255

-- the place in it; 0 where none stands
abbrev pub reply_place : Reply → ℕ
reply_place (posted o) = answer_place o
reply_place (turned o) = answer_place o
reply_place (withdrawn o) = answer_place o
reply_place (looked y o) = answer_place o
reply_place cut_short = 0
reply_place not_known = 0
