-- SPECIFICATION 8: every list of calls, and the run from a fresh book of any age limit.
use Rattle.std.specs.Prelude.{List, [], ◌∷◌, ℕ}
use Rattle.method.specs.Units.{Which}
use Rattle.method.specs.Grounds.{Outcome}
use Rattle.valuation.specs.Block.{Flow}
use Rattle.ledger.specs.Answers.{Wanted, Finding, Value, answer_number, answer_place}
use Rattle.ledger.specs.Book.{Book, Paged, fresh, post, turn, withdraw, look_up, page, value}

-- what leaves the book as it is: a look-up of any year, for its factor or its sum, and a page into any buffer, which name their curve; a
-- valuation of any list of cash flows
pub data Question : Type 0 where
  look_at : Which → Wanted → ℕ → Question
  page_into : Which → List ℕ → Question
  value_of : List Flow → Question

-- a post of any bytes, a turn to any month, a withdrawal, or a question
pub data Call : Type 0 where
  post_of : List ℕ → Call
  turn_to : ℕ → Call
  withdrawal : Call
  asks : Question → Call

-- ---- the run: the first call gets a fresh book, each later one the book as the call before it left it

abbrev pub after : Book → Call → Book
after b (post_of s) = (post b s).book
after b (turn_to m) = (turn b m).book
after b withdrawal = (withdraw b).book
after b (asks q) = b

abbrev pub run_from : Book → List Call → Book
run_from b [] = b
run_from b (c ∷ cs) = run_from (after b c) cs

abbrev pub run : ℕ → List Call → Book
run limit cs = run_from (fresh limit) cs

-- ---- what a question is answered

abbrev pub AnswerTo : Question → Type 0
AnswerTo (look_at w v y) = Outcome Finding
AnswerTo (page_into w l) = Paged
AnswerTo (value_of fs) = Outcome Value

abbrev pub answered : Book → (q : Question) → AnswerTo q
answered b (look_at w v y) = look_up b w v y
answered b (page_into w l) = page b w l
answered b (value_of fs) = value b fs

-- ---- the number and the place that any call is answered

pub record Answer : Type 0 where
  pub number : ℕ
  pub place : ℕ

abbrev pub answer_by : {A : Type 0} → Outcome A → Answer
answer_by o = record { number = answer_number o; place = answer_place o }

abbrev pub answer_of : Book → Call → Answer
answer_of b (post_of s) = answer_by (post b s).answer
answer_of b (turn_to m) = answer_by (turn b m).answer
answer_of b withdrawal = answer_by (withdraw b).answer
answer_of b (asks (look_at w v y)) = answer_by (look_up b w v y)
answer_of b (asks (page_into w l)) = answer_by (page b w l).answer
answer_of b (asks (value_of fs)) = answer_by (value b fs)
