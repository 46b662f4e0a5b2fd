-- The book and what its calls hand back, as the ledger's.
use Rattle.std.specs.Prelude.{List, ℕ, Option, Some, None, Result}
use Rattle.method.specs.Units as method
use Rattle.method.specs.Units.{pair, signed_pair}
use Rattle.method.specs.Curve.{none, some}
use Rattle.ledger.specs.Answers as answer
use Rattle.ledger.specs.Answers.{finding, dated}
use Rattle.ledger.specs.Book as ledger
use Rattle.grounds.specs.declared.Ground.{Ground}
use Rattle.grounds.specs.Answers.{as_answered}
use Rattle.sums.specs.declared.Summed.{Summed}
use Rattle.sums.specs.Views.{as_summed}
use Rattle.history.specs.Views.{as_history}
use Rattle.book.specs.declared.Which.{Which}
use Rattle.book.specs.declared.Which.TheVariants as which
use Rattle.book.specs.declared.Wanted.{Wanted}
use Rattle.book.specs.declared.Wanted.TheVariants as wanted
use Rattle.book.specs.declared.Book.{Book}
use Rattle.book.specs.declared.Finding.{Finding}
use Rattle.book.specs.declared.Value.{Value}

abbrev pub as_wanted : Wanted → answer.Wanted
as_wanted wanted.Factor = answer.Wanted.factor
as_wanted wanted.Sum = answer.Wanted.sum

abbrev pub as_which : Which → method.Which
as_which which.Plain = method.Which.plain
as_which which.Adjusted = method.Which.adjusted

abbrev pub as_standing : Option Summed → ledger.Standing
as_standing None = none
as_standing (Some k) = some (as_summed k)

abbrev pub as_book : Book → ledger.Book
as_book b = record { age_limit = b.age_limit; told = b.told; standing = as_standing b.standing; history = as_history b.history }

abbrev pub as_finding : Finding → answer.Finding
as_finding f = finding (pair f.low f.high) (signed_pair f.low_rate f.high_rate) f.month f.age

abbrev pub as_value : Value → answer.Value
as_value v = dated (pair v.low v.high) v.month v.age

-- a post's or a turn's answer, with the book after it
abbrev pub booked_by : Book → Result ℕ Ground → ledger.Booked ℕ
booked_by b r = record { book = as_book b; answer = as_answered r }

abbrev pub withdrawn_by : Book → Result (Unit {0}) Ground → ledger.Booked (Unit {0})
withdrawn_by b r = record { book = as_book b; answer = as_answered r }

-- a page's answer, with the buffer at exit
abbrev pub paged_by : Result (Unit {0}) Ground → List ℕ → ledger.Paged
paged_by r l = record { buffer = l; answer = as_answered r }
