-- SPECIFICATION 10: the desk's lines, as bytes of text.
use Rattle.std.specs.Prelude.{ℕ, zero, suc, ◌+◌, ◌/◌, ◌%◌, cond, List, [], ◌∷◌, ◌++◌, nat_lt}
use Rattle.method.specs.Grounds.{Outcome, refused, done, ◌>>=◌}
use Rattle.ledger.specs.Answers.{answer_number, answer_place}
use Rattle.journal.specs.Replies.{Reply, posted, turned, withdrawn, looked, cut_short, not_known}

abbrev pub digit : ℕ → ℕ
digit d = 0x30 + d

-- decimal digits, at most so many
unfoldable pub digits_to : ℕ → ℕ → List ℕ
digits_to zero n = []
digits_to (suc most) n = cond (nat_lt n 10) (digit n ∷ []) (digits_to most (n / 10) ++ (digit (n % 10) ∷ []))

-- a number of 64 bits has at most 20
abbrev pub decimal : ℕ → List ℕ
decimal n = digits_to 20 n

-- each number after a space
abbrev pub spaced : List ℕ → List ℕ
spaced [] = []
spaced (n ∷ ns) = 0x20 ∷ decimal n ++ spaced ns

-- a letter, the numbers, hex 0A
abbrev pub line : ℕ → List ℕ → List ℕ
line letter numbers = letter ∷ spaced numbers ++ (0x0A ∷ [])

-- ---- the line of a reply

abbrev pub number_and_place : {A : Type 0} → Outcome A → List ℕ
number_and_place o = answer_number o ∷ answer_place o ∷ []

-- a letter and the numbers that the call answers, or "R number place"
abbrev pub answer_line : ℕ → Outcome (List ℕ) → List ℕ
answer_line letter (done numbers) = line letter numbers
answer_line letter (refused g) = line 0x52 (number_and_place {A = List ℕ} (refused g))

-- "P month", "M month", "L year low high month age"; none where there was no call, nor of a withdrawal, for which the desk has no record
abbrev pub line_of : Reply → List ℕ
line_of (posted o) = answer_line 0x50 (o >>= λ month. done (month ∷ []))
line_of (turned o) = answer_line 0x4D (o >>= λ month. done (month ∷ []))
line_of (looked year o) = answer_line 0x4C (o >>= λ f. done (year ∷ f.low ∷ f.high ∷ f.month ∷ f.age ∷ []))
line_of (withdrawn o) = []
line_of cut_short = []
line_of not_known = []

-- where the input stops being records: "X offset"
abbrev pub broken_line : ℕ → List ℕ
broken_line offset = line 0x58 (offset ∷ [])
