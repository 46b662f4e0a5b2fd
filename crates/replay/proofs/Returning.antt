-- What the C functions return, case by case.
use mathlib.Core.List.{List, ◌++◌}
use mathlib.Core.Path.{◌≡◌, ap, sym, subst⁻¹, ◌∙◌}
use Prim.Native.Nat.{ℕ, ◌≤◌}
use native.Mathlib.Omega.{arith}
use lib.IntN.{ℤ}
use lib.ListN.{length, drop, length-append}
use borrow.Author.Tests.{le-leb}
use Rattle.method.specs.Bytes.{in_bytes, twos_complement32, put_at}
use Rattle.method.specs.Grounds.{place_of, Outcome, refused, done}
use Rattle.ledger.specs.Answers as answer
use Rattle.ledger.specs.Answers.{answer_place}
use Rattle.ledger.specs.Book.{Book}
use Rattle.ledger.specs.Calls.{Question, AnswerTo, answered, post_of, turn_to, withdrawal, look_at, page_into, value_of, asks}
use Rattle.ledger.specs.Tells.{Tells}
use Rattle.ledger.proofs.Places.{answer_place_lem}
use Rattle.ledger.proofs.Theorem.{demand_3}
use Rattle.grounds.specs.declared.Ground.{Ground}
use Rattle.grounds.specs.Answers.{as_ground}
use Rattle.big_endian.proofs.Putting.{in_bytes-length, put_first, put_behind}
use Rattle.journal.specs.Journal.{Front, whole, cut, unknown, decode}
use Rattle.journal.specs.Replies.{reply_to}
use Rattle.replay.specs.Returned.{book_after, count_of, returned, dated_bytes, found_bytes, shift_bytes, reply_returned, reply_place}

-- ---- what demand 3 tells of the book after some calls

pub told : (limit : ℕ) (calls : List ℕ) (q : Question) {b : Book} → b ≡ book_after limit calls → {a : AnswerTo q} → a ≡ answered b q →
    Tells limit (count_of calls) q a
told limit calls q e d =
    subst⁻¹ (Tells limit (count_of calls) q) (d ∙ ap (λ (b : Book). answered b q) e) (demand_3 limit (decode calls) q)

-- ---- a refusal's place

pub refused_place : {A : Type 0} (g : Ground) {o : Outcome A} → refused (as_ground g) ≡ o → answer_place o ≤ 1_000 → place_of (as_ground g) ≤ 1_000
refused_place g e h = omega (arith, ap answer_place e)

-- ---- a reply of so many bytes

pub reply_written : {A : Type 0} (size : ℕ) (bytes : A → List ℕ) (lent : List ℕ) {o : Outcome A} (a : A) → o ≡ done a → (exit : List ℕ) →
    exit ≡ bytes a ++ drop size lent → size ≤ length lent → returned 0 exit ≡ reply_returned size bytes o lent
reply_written size bytes lent a e exit w h = rw (e, le-leb size (length lent) h, w)

-- ---- a shift's

pub shift_put : (s : ℤ) (lent : List ℕ) {n : ℕ} {out : List ℕ} → n ≡ twos_complement32 s → out ≡ put_at 0 (in_bytes 2 n) lent →
    out ≡ shift_bytes s ++ drop 2 lent
shift_put s lent e put =
    put ∙ ap (λ (k : ℕ). put_at 0 (in_bytes 2 k) lent) e ∙ put_first (shift_bytes s) lent
    ∙ ap (λ (k : ℕ). shift_bytes s ++ drop k lent) (in_bytes-length 2 (twos_complement32 s))

-- ---- what starts a reply: four numbers, put one behind the other

module _ (l h m a : ℕ) where
  abbrev low : List ℕ
  low = in_bytes 8 l

  abbrev high : List ℕ
  high = in_bytes 8 h

  abbrev month : List ℕ
  month = in_bytes 2 m

  abbrev age : List ℕ
  age = in_bytes 2 a

  -- how long the first so many are
  long_low : length low ≡ 8
  long_low = in_bytes-length 8 l

  long_high : length (low ++ high) ≡ 16
  long_high = length-append low high ∙ (omega (arith, long_low, in_bytes-length 8 h))

  long_month : length (low ++ high ++ month) ≡ 18
  long_month = length-append (low ++ high) month ∙ (omega (arith, long_high, in_bytes-length 2 m))

  long_dated : length (dated_bytes l h m a) ≡ 20
  long_dated = length-append (low ++ high ++ month) age ∙ (omega (arith, long_month, in_bytes-length 2 a))

  pub dated_put : (lent : List ℕ) → 20 ≤ length lent → {o₁ o₂ o₃ o₄ : List ℕ} →
      o₁ ≡ put_at 0 low lent → o₂ ≡ put_at 8 high o₁ → o₃ ≡ put_at 16 month o₂ → o₄ ≡ put_at 18 age o₃ → o₄ ≡ dated_bytes l h m a ++ drop 20 lent
  dated_put lent room e₁ e₂ e₃ e₄ =
      let to_high = put_behind low high lent 8 long_low (omega arith) e₁ e₂ in
      let to-month = put_behind (low ++ high) month lent 16 long_high (omega arith) to_high e₃ in
      let to-age = put_behind (low ++ high ++ month) age lent 18 long_month (omega arith) to-month e₄ in
      to-age ∙ put_first (dated_bytes l h m a) lent ∙ ap (λ (n : ℕ). dated_bytes l h m a ++ drop n lent) long_dated

  -- and these as one put
  put_whole : (lent : List ℕ) {o : List ℕ} → o ≡ dated_bytes l h m a ++ drop 20 lent → o ≡ put_at 0 (dated_bytes l h m a) lent
  put_whole lent e = e ∙ ap (λ (n : ℕ). dated_bytes l h m a ++ drop n lent) (sym long_dated) ∙ sym (put_first (dated_bytes l h m a) lent)

-- ---- a look-up's: the rates behind them

module _ (f : answer.Finding) (lent : List ℕ) (room : 28 ≤ length lent) where
  abbrev front : List ℕ
  front = dated_bytes f.low f.high f.month f.age

  abbrev low_rate : List ℕ
  low_rate = in_bytes 4 (twos_complement32 f.low_rate)

  abbrev high_rate : List ℕ
  high_rate = in_bytes 4 (twos_complement32 f.high_rate)

  long_front : length front ≡ 20
  long_front = long_dated f.low f.high f.month f.age

  long_low_rate : length (front ++ low_rate) ≡ 24
  long_low_rate = length-append front low_rate ∙ (omega (arith, long_front, in_bytes-length 4 (twos_complement32 f.low_rate)))

  long_reply : length (found_bytes f) ≡ 28
  long_reply = length-append (front ++ low_rate) high_rate ∙ (omega (arith, long_low_rate, in_bytes-length 4 (twos_complement32 f.high_rate)))

  -- l and h are the rates' bits
  pub found_put : {l h : ℕ} {o₁ o₂ o₃ : List ℕ} → l ≡ twos_complement32 f.low_rate → h ≡ twos_complement32 f.high_rate →
      o₁ ≡ front ++ drop 20 lent → o₂ ≡ put_at 20 (in_bytes 4 l) o₁ → o₃ ≡ put_at 24 (in_bytes 4 h) o₂ → o₃ ≡ found_bytes f ++ drop 28 lent
  found_put el eh e₁ e₂ e₃ =
      let to-age = put_whole f.low f.high f.month f.age lent e₁ in
      let to-low-rate = put_behind front low_rate lent 20 long_front (omega arith) to-age (rw el at e₂) in
      let to-high-rate = put_behind (front ++ low_rate) high_rate lent 24 long_low_rate (omega arith) to-low-rate (rw eh at e₃) in
      to-high-rate ∙ put_first (found_bytes f) lent ∙ ap (λ (n : ℕ). found_bytes f ++ drop n lent) long_reply

-- ---- one more call

pub reply_place_lem : (b : Book) (f : Front) → reply_place (reply_to b f) ≤ 1_000
reply_place_lem b (whole (post_of s) n) = answer_place_lem b (post_of s)
reply_place_lem b (whole (turn_to m) n) = answer_place_lem b (turn_to m)
reply_place_lem b (whole withdrawal n) = answer_place_lem b withdrawal
reply_place_lem b (whole (asks (look_at w v y)) n) = answer_place_lem b (asks (look_at w v y))
reply_place_lem b (whole (asks (page_into w l)) n) = omega arith
reply_place_lem b (whole (asks (value_of fs)) n) = omega arith
reply_place_lem b cut = omega arith
reply_place_lem b unknown = omega arith
