-- What is printed from an offset on, record by record, with no count of the lines.
use Rattle.std.proofs.Common.{◌≡◌, ℕ, zero, suc, ◌+◌, ◌≤◌, List, [], ◌∷◌, ◌++◌, length, drop, refl, ap, ◌∙◌, arith, length-drop}
use Rattle.ledger.specs.Book.{Book}
use Rattle.ledger.specs.Calls.{Call, after}
use Rattle.journal.specs.Journal.{Front, whole, cut, unknown, desk_front}
use Rattle.journal.specs.Replies.{reply_to}
use Rattle.desk_core.specs.Lines.{line_of}
use Rattle.desk_core.specs.Desk.{printed_at, printed_from}
use Rattle.desk_core.proofs.Fronts.{front_stands}

-- whatever stands at the front, only what follows a whole record may differ
same_after : (f : Front) (b : Book) (offset : ℕ) (s : List ℕ) (next other : Book → ℕ → List ℕ → List ℕ) →
    ((c : Call) (n : ℕ) → f ≡ whole c n → next (after b c) (offset + n) (drop n s) ≡ other (after b c) (offset + n) (drop n s)) →
    printed_at f b offset s next ≡ printed_at f b offset s other
same_after (whole c n) b offset s next other same = ap (λ (l : List ℕ). line_of (reply_to b (whole c n)) ++ l) (same c n refl)
same_after cut b offset s next other same = refl
same_after unknown b offset s next other same = refl

-- a line for each byte is enough
enough : (m n : ℕ) (b : Book) (offset : ℕ) (s : List ℕ) → length s ≤ m → length s ≤ n → printed_from m b offset s ≡ printed_from n b offset s
unfolding printed_from desk_front
enough zero zero b offset s h k = refl
enough zero (suc n) b offset [] h k = refl
enough zero (suc n) b offset (kind ∷ s) h k = absurd (omega arith)
enough (suc m) zero b offset [] h k = refl
enough (suc m) zero b offset (kind ∷ s) h k = absurd (omega arith)
enough (suc m) (suc n) b offset s h k =
    same_after (desk_front s) b offset s (printed_from m) (printed_from n) λ c i e.
    let w = (front_stands s []).within e in
    enough m n (after b c) (offset + i) (drop i s) (omega (arith, length-drop i s)) (omega (arith, length-drop i s))

abbrev pub rest : Book → ℕ → List ℕ → List ℕ
rest b offset s = printed_from (length s) b offset s

pub rest_at : (b : Book) (offset : ℕ) (s : List ℕ) → rest b offset s ≡ printed_at (desk_front s) b offset s rest
unfolding printed_from
rest_at b offset s =
    enough (length s) (suc (length s)) b offset s (omega arith) (omega arith)
    ∙ same_after (desk_front s) b offset s (printed_from (length s)) rest λ c n e.
    enough (length s) (length (drop n s)) (after b c) (offset + n) (drop n s) (omega (arith, length-drop n s)) (omega arith)
