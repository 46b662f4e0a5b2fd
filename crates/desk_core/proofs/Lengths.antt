-- Lines are short: a number and the space before it have at most 21 bytes, and no line has more than five numbers.
use Rattle.std.proofs.Common.{◌≡◌, ℕ, zero, suc, ◌+◌, ◌*◌, ◌/◌, ◌%◌, ◌≤◌, Bool, true, false, cond, ltb, List, [], ◌∷◌, ◌++◌, length, arith, length-append}
use Rattle.method.specs.Grounds.{Outcome, refused, done, ◌>>=◌}
use Rattle.journal.specs.Replies.{Reply, posted, turned, withdrawn, looked, cut_short, not_known}
use Rattle.desk_core.specs.Lines.{digit, digits_to, decimal, spaced, line, number_and_place, answer_line, line_of}
use Rattle.desk_core.specs.Desk.{line_room}

digits_short : (most n : ℕ) → length (digits_to most n) ≤ most
unfolding digits_to
digits_short zero n = omega arith
digits_short (suc most) n = go (ltb n 10) (digits_short most (n / 10))
  where
    go : (one : Bool) → length (digits_to most (n / 10)) ≤ most →
        length (cond one (digit n ∷ []) (digits_to most (n / 10) ++ (digit (n % 10) ∷ []))) ≤ suc most
    go true h = omega arith
    go false h = omega (arith, length-append (digits_to most (n / 10)) (digit (n % 10) ∷ []))

numbers_short : (ns : List ℕ) → length (spaced ns) ≤ 21 * length ns
numbers_short [] = omega arith
numbers_short (n ∷ ns) = omega (arith, length-append (decimal n) (spaced ns), digits_short 20 n, numbers_short ns)

pub line-length : (letter : ℕ) (ns : List ℕ) → length (line letter ns) ≡ length (spaced ns) + 2
line-length letter ns = omega (arith, length-append (spaced ns) (0x0A ∷ []))

pub line_short : (letter : ℕ) (ns : List ℕ) → length (line letter ns) ≤ 21 * length ns + 2
line_short letter ns = omega (arith, line-length letter ns, numbers_short ns)

-- at most five numbers, accepted or not
answer_short : {A : Type 0} (letter : ℕ) (numbers : A → List ℕ) → ((a : A) → length (numbers a) ≤ 5) → (o : Outcome A) →
    length (answer_line letter (o >>= λ a. done (numbers a))) ≤ line_room
answer_short letter numbers five (done a) = omega (arith, line_short letter (numbers a), five a)
answer_short letter numbers five (refused g) = omega (arith, line_short 0x52 (number_and_place {A = List ℕ} (refused g)))

pub reply_short : (r : Reply) → length (line_of r) ≤ line_room
reply_short (posted o) = answer_short 0x50 _ (λ m. omega arith) o
reply_short (turned o) = answer_short 0x4D _ (λ m. omega arith) o
reply_short (withdrawn o) = omega arith
reply_short (looked y o) = answer_short 0x4C _ (λ f. omega arith) o
reply_short cut_short = omega arith
reply_short not_known = omega arith
