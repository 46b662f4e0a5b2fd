-- A journal, record by record: the calls that are left lead from the book in hand to the book of all calls.
use mathlib.Core.Path.{◌≡◌, refl, ap, sym, subst, ◌∙◌}
use mathlib.Core.Bool.{Bool, true, false, cond}
use mathlib.Core.List.{List, [], ◌∷◌}
use Prim.Native.Nat.{ℕ, zero, suc, ◌+◌, ◌-◌, ◌≤◌, ◌<◌}
use native.Mathlib.Omega.{arith}
use lib.Dec.{leb, eqb}
use lib.ListN.{length, get_or, take, drop, length-drop}
use lib.Seq.{take_all}
use Rattle.std.specs.declared.result.Result.TheVariants.{Ok, Err}
use Rattle.method.specs.Units.{plain}
use Rattle.ledger.specs.Book.{Book, fresh}
use Rattle.ledger.specs.Answers.{factor}
use Rattle.ledger.specs.Calls.{Call, post_of, turn_to, withdrawal, look_at, asks, run, run_from}
use Rattle.ledger.specs.Tells.{read2}
use Rattle.book.specs.declared.Book as code
use Rattle.book.specs.Views.{as_book}
use Rattle.journal.specs.Journal.{Front, whole, cut, unknown, sheet_at, sheet_length, sheet_in, record_of, post_front, turn_front, look_front}
use Rattle.journal.specs.Journal.{desk_front, front}
use Rattle.journal.specs.Journal.{and_then, decode_from, decode}
use Rattle.journal.specs.Replies as replies
use Rattle.journal.specs.Replies.{posted, turned, withdrawn, looked, cut_short, not_known, reply_to, book_after, taken}
use Rattle.journal.specs.Made.{as_reply, MakesFront, MakesAtDesk, Makes}
use Rattle.journal.specs.declared.Made.{Made}
use Rattle.journal.specs.declared.NoCall.{NoCall}
use Rattle.journal.specs.declared.Reply.{Reply}
use Rattle.journal.specs.declared.Reply.TheVariants.{Posted, Turned, Withdrawn, Looked}

-- ---- a whole record has at least a byte

abbrev Some : Front → Type 0
Some (whole c n) = 0 < n
Some cut = Unit {0}
Some unknown = Unit {0}

either : (a b : Front) (t : Bool) → Some a → Some b → Some (cond t a b)
either a b true h k = h
either a b false h k = k

record_some : (s : List ℕ) (n : ℕ) (c : Call) → 0 < n → Some (record_of s n c)
record_some s n c h = either (whole c n) cut (leb n (length s)) h tt

desk_front_some : (s : List ℕ) → Some (desk_front s)
unfolding desk_front
desk_front_some s =
    let post = record_some s (sheet_at + sheet_length s) (post_of (sheet_in s)) (omega arith) in
    let turn = record_some s 3 (turn_to (read2 s 1)) (omega arith) in
    let look = record_some s 2 (asks (look_at plain factor (get_or s 1 0))) (omega arith) in
    let look? = either (look_front s) unknown (eqb (get_or s 0 0) 0x4C) look tt in
    let turn? = either (turn_front s) _ (eqb (get_or s 0 0) 0x4D) turn look? in
    let post? = either (post_front s) _ (eqb (get_or s 0 0) 0x50) post turn? in
    either cut _ (eqb (length s) 0) tt post?

pub front_some : (s : List ℕ) → Some (front s)
unfolding front
front_some s = either (record_of s 1 withdrawal) (desk_front s) (eqb (get_or s 0 0) 0x57) (record_some s 1 withdrawal (omega arith)) (desk_front_some s)

-- ---- the calls that are left

pub front_end : (s : List ℕ) → length s ≤ 0 → front s ≡ cut
unfolding front desk_front
front_end [] h = refl
front_end (b ∷ s) h = absurd (omega (arith, h))

-- nothing is taken where there is no whole record
stopped : (b : Book) (f : Front) (calls : List ℕ → List Call) (s : List ℕ) → Some f → taken f ≡ 0 → (and_then f calls s ≡ []) × (book_after b f ≡ b)
stopped b (whole c n) calls s h e = absurd (omega arith)
stopped b cut calls s h e = (refl, refl)
stopped b unknown calls s h e = (refl, refl)

none_left : (most : ℕ) (s : List ℕ) → taken (front s) ≡ 0 → decode_from most s ≡ []
unfolding decode_from
none_left zero s h = refl
none_left (suc most) s h = (stopped (fresh 0) (front s) (decode_from most) s (front_some s) h).0

first : (b : Book) (f : Front) (calls : List ℕ → List Call) (s : List ℕ) → 0 < taken f →
    run_from b (and_then f calls s) ≡ run_from (book_after b f) (calls (drop (taken f) s))
first b (whole c n) calls s h = refl
first b cut calls s h = absurd (omega arith)
first b unknown calls s h = absurd (omega arith)

one_made : (b : Book) (most : ℕ) (s : List ℕ) → 0 < most → 0 < taken (front s) →
    run_from b (decode_from most s) ≡ run_from (book_after b (front s)) (decode_from (most - 1) (drop (taken (front s)) s))
unfolding decode_from
one_made b zero s h t = absurd (omega arith)
one_made b (suc most) s h t =
    let e : suc most - 1 ≡ most = omega arith in
    rw e (first b (front s) (decode_from most) s t)

-- ---- on the way

-- the book before the calls that are left, from which they lead to the last book
pub record Reached (limit : ℕ) (calls : List ℕ) (b : Book) (rest : List ℕ) : Type 0 where
  pub most : ℕ
  pub enough : length rest ≤ most
  pub runs : run limit (decode calls) ≡ run_from b (decode_from most rest)

pub begins : (limit : ℕ) (calls : List ℕ) → Reached limit calls (fresh limit) calls
unfolding decode
begins limit calls = record { most = length calls; enough = omega arith; runs = refl }

-- a call was made, so a whole record stood there
abbrev IsCall : replies.Reply → Type 0
IsCall (posted o) = Unit {0}
IsCall (turned o) = Unit {0}
IsCall (withdrawn o) = Unit {0}
IsCall (looked y o) = Unit {0}
IsCall cut_short = ⊥
IsCall not_known = ⊥

is_call : (r : Reply) → IsCall (as_reply r)
is_call (Posted answer) = tt
is_call (Turned answer) = tt
is_call (Withdrawn answer) = tt
is_call (Looked year answer) = tt

some_taken : (b : Book) (f : Front) → Some f → IsCall (reply_to b f) → 0 < taken f
some_taken b (whole c n) k h = k
some_taken b cut k h = absurd h
some_taken b unknown k h = absurd h

takes : (before after : code.Book) (rest : List ℕ) (f : Front) → Some f → (made : Made) → MakesFront before after rest f (Ok made) → 0 < made.taken
takes before after rest f some made m =
    omega (arith, m.bytes, some_taken (as_book before) f some (subst IsCall m.reply (is_call made.reply)))

-- also at the desk
pub desk_takes : (before after : code.Book) (rest : List ℕ) (made : Made) → MakesAtDesk before after rest (Ok made) → 0 < made.taken
desk_takes before after rest made m = takes before after rest (desk_front rest) (desk_front_some rest) made m

-- the rest from a place on, as it is lent
abbrev pub lent : List ℕ → ℕ → List ℕ
lent calls at = take (length calls - at) (drop at calls)

pub lent_rest : (calls : List ℕ) (at : ℕ) → lent calls at ≡ drop at calls
lent_rest calls at = take_all (length calls - at) (drop at calls) (omega (arith, length-drop at calls))

module _ (limit : ℕ) (calls : List ℕ) (before after : code.Book) (rest : List ℕ) (x : Reached limit calls (as_book before) rest) where
  pub stops : (why : NoCall) → Makes before after rest (Err why) → as_book after ≡ run limit (decode calls)
  stops why m =
      let t : taken (front rest) ≡ 0 = sym m.bytes in
      m.book
      ∙ (stopped (as_book before) (front rest) (λ l. []) rest (front_some rest) t).1
      ∙ sym (x.runs ∙ ap (run_from (as_book before)) (none_left x.most rest t))

  module _ (made : Made) (m : Makes before after rest (Ok made)) where
    taken_some : 0 < made.taken
    taken_some = takes before after rest (front rest) (front_some rest) made m

    pub falls : length (lent rest made.taken) < length rest
    falls = rw (lent_rest rest made.taken) (omega (arith, length-drop made.taken rest, taken_some, m.within))

    pub goes_on : Reached limit calls (as_book after) (lent rest made.taken)
    goes_on =
        rw (lent_rest rest made.taken)
        (record {
          most = x.most - 1;
          enough = omega (arith, length-drop made.taken rest, taken_some, m.within);
          runs = rw (m.book, m.bytes) (x.runs ∙ one_made (as_book before) x.most rest (omega (arith, taken_some, m.within)) (omega (arith, taken_some, m.bytes)));
        })
