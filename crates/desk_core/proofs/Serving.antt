-- The loop of a pass, record by record: the lines put so far, and then the pass over what is left.
use Rattle.std.proofs.Common.{◌≡◌, ℕ, ◌+◌, ◌-◌, ◌%◌, ◌^◌, ◌<◌, ◌≤◌, List, [], ◌++◌, length, get_or, take, drop, sym, refl, ap, ◌∙◌}
use Rattle.std.proofs.Common.{append_assoc, append-nil, add-zero, add_assoc, zero-add, arith, length-drop, length-take-le, drop-drop}
use Rattle.std.specs.Prelude.{Option}
use Rattle.std.specs.declared.option.Option.TheVariants.{None, Some}
use Rattle.std.specs.declared.result.Result.TheVariants.{Ok, Err}
use Rattle.ledger.specs.Book.{Book}
use Rattle.book.specs.declared.Book as code
use Rattle.book.specs.Views.{as_book}
use Rattle.journal.specs.Journal.{Front, whole, cut, unknown, desk_front}
use Rattle.journal.specs.Replies as journal
use Rattle.journal.specs.Replies.{reply_to, book_after}
use Rattle.journal.specs.declared.Made.{Made}
use Rattle.journal.specs.declared.NoCall.{NoCall}
use Rattle.journal.specs.Made.{as_reply, MakesAtDesk}
use Rattle.journal.proofs.Decoding.{lent, lent_rest, desk_takes}
use Rattle.desk_core.specs.declared.Desk.{Desk as DeclaredDesk}
use Rattle.desk_core.specs.declared.Served.{Served}
use Rattle.desk_core.specs.Lines.{line_of}
use Rattle.desk_core.specs.Desk.{Serving, stopping, behind, line_room, served_at, served_from, served, Desk, pass}
use Rattle.desk_core.specs.Handed.{Puts, is_not_known, Serves, Waits, as_desk, Passes}
use Rattle.desk_core.proofs.Lengths.{reply_short}
use Rattle.desk_core.proofs.Fronts.{front_stands, cut_short, taken-within}
use Rattle.desk_core.proofs.Passes.{roomy, full, takes_nothing}
use Rattle.desk_core.proofs.Replying.{is_unknown, unknown_by}

-- ---- by what stands at the front

-- no whole record: nothing is served
stops_at : (x : Front) (room : ℕ) (b : Book) (s : List ℕ) (next : ℕ → Book → List ℕ → Serving) → desk_front s ≡ x → journal.taken x ≡ 0 →
    served_at x room b s next ≡ stopping b (is_unknown x)
stops_at (whole c n) room b s next e z = absurd (omega (arith, ((front_stands s []).within e).0))
stops_at cut room b s next e z = refl
stops_at unknown room b s next e z = refl

-- a whole record: its line, and then the pass over what is behind it
goes_at : (x : Front) (room : ℕ) (b : Book) (s : List ℕ) (next : ℕ → Book → List ℕ → Serving) → 0 < journal.taken x →
    served_at x room b s next
    ≡ behind (journal.taken x) (line_of (reply_to b x)) (next (room - length (line_of (reply_to b x))) (book_after b x) (drop (journal.taken x) s))
goes_at (whole c n) room b s next h = refl
goes_at cut room b s next h = absurd (omega arith)
goes_at unknown room b s next h = absurd (omega arith)

behind-nothing : (r : Serving) → r ≡ behind 0 [] r
behind-nothing r = rw (zero-add r.taken)

behind-behind : (n m : ℕ) (s t : List ℕ) (r : Serving) → behind n s (behind m t r) ≡ behind (n + m) (s ++ t) r
behind-behind n m s t r = rw (add_assoc n m r.taken, append_assoc s t r.text)

-- ---- the loop's invariant

pub record Progress (room : ℕ) (b : Book) (held : List ℕ) (a : Book) (taken : ℕ) (text : List ℕ) (written : ℕ) : Type 0 where
  pub most : ℕ
  pub within : taken ≤ length held
  pub enough : length held - taken ≤ most
  pub fits : written ≤ room
  pub same_length : length text ≡ room
  pub so_far : served room b held ≡ behind taken (take written text) (served_from most (room - written) a (drop taken held))

pub begins : (b : Book) (held text : List ℕ) → Progress (length text) b held b 0 text 0
unfolding served
begins b held text =
    let all : length text - 0 ≡ length text = omega arith in
    record {
      most = length held;
      within = omega arith;
      enough = omega arith;
      fits = omega arith;
      same_length = refl;
      so_far = rw all (behind-nothing (served_from (length held) (length text) b held));
    }

module _ {room : ℕ} {b : Book} {held : List ℕ} {a : Book} {taken : ℕ} {text : List ℕ} {written : ℕ} (p : Progress room b held a taken text written) where
  -- where no more is served
  handed : (x : Option NoCall) (d : code.Book) → as_book d ≡ a →
      served_from p.most (room - written) a (drop taken held) ≡ stopping a (is_not_known x) →
      Serves (served room b held) text d (record { taken = taken; written = written; stop = x })
  handed x d e stopped =
      let all = p.so_far ∙ ap (behind taken (take written text)) stopped in
      let long = length-take-le written text (omega (arith, p.fits, p.same_length)) in
      record {
        book = e ∙ sym (ap (λ (r : Serving). r.book) all);
        taken = sym (ap (λ (r : Serving). r.taken) all ∙ add-zero taken);
        written = sym (ap (λ (r : Serving). length r.text) all ∙ ap length (append-nil (take written text)) ∙ long);
        text_put = sym (ap (λ (r : Serving). r.text) all ∙ append-nil (take written text));
        unknown = sym (ap (λ (r : Serving). r.unknown) all);
      }

  pub ends_full : (d : code.Book) → as_book d ≡ a → room - written < line_room →
      Serves (served room b held) text d (record { taken = taken; written = written; stop = None })
  ends_full d e h = handed None d e (full p.most (room - written) a (drop taken held) h)

module _ {room : ℕ} {b : Book} {held : List ℕ} (before : code.Book) {taken : ℕ} {text : List ℕ} {written : ℕ}
    (p : Progress room b held (as_book before) taken text written) (k : line_room ≤ room - written) where
  step : served_from p.most (room - written) (as_book before) (drop taken held)
      ≡ served_at (desk_front (drop taken held)) (room - written) (as_book before) (drop taken held) (served_from (p.most - 1))
  step = roomy p.most (room - written) (as_book before) (drop taken held) (omega (arith, p.enough, length-drop taken held)) k

  -- no call was made
  pub ends_here : (after : code.Book) (why : NoCall) → MakesAtDesk before after (lent held taken) (Err why) →
      Serves (served room b held) text after (record { taken = taken; written = written; stop = Some why })
  ends_here after why m =
      let q = rw (lent_rest held taken) at m in
      let stop =
      stops_at (desk_front (drop taken held)) (room - written) (as_book before) (drop taken held) (served_from (p.most - 1)) refl (sym q.bytes) in
      handed p (Some why) after (ap as_book q.kept) (step ∙ stop ∙ ap (stopping (as_book before)) (sym (unknown_by q)))

  -- the next record's call was made
  module _ (after : code.Book) (made : Made) (m : MakesAtDesk before after (lent held taken) (Ok made)) where
    pub further : 0 < made.taken
    further = desk_takes before after (lent held taken) made m

    pub goes_on : {exit : List ℕ} {end : ℕ} → Puts (line_of (as_reply made.reply)) text written exit end → length exit ≡ room →
        Progress room b held (as_book after) (taken + made.taken) exit end
    goes_on {exit} {end} puts l =
        let a = as_book before in
        let next = desk_front (drop taken held) in
        let q = rw (lent_rest held taken) at m in
        let line = line_of (reply_to a next) in
        let put = rw q.reply at puts in
        let inside = taken-within (drop taken held) in
        let room-left : room - end ≡ room - written - length line = omega (arith, put.ends) in
        let walked = goes_at next (room - written) a (drop taken held) (served_from (p.most - 1)) (omega (arith, q.bytes, further)) in
        record {
          most = p.most - 1;
          within = omega (arith, p.within, q.bytes, inside, length-drop taken held);
          enough = omega (arith, p.enough, further);
          fits = omega (arith, put.ends, reply_short (reply_to a next));
          same_length = l;
          so_far =
              rw (room-left, q.book, put.written, q.bytes, ← drop-drop (journal.taken next) taken held)
              (p.so_far ∙ ap (behind taken (take written text)) (step ∙ walked) ∙ behind-behind taken (journal.taken next) (take written text) line _);
        }

-- nothing taken and no unknown kind next: what is held is cut, so shorter than a record
pub waits : (room : ℕ) (b : Book) (held : List ℕ) {text : List ℕ} {d : code.Book} {r : Served} → Serves (served room b held) text d r →
    get_or held 1 0 < 256 → get_or held 2 0 < 256 → Waits room held r.taken (is_not_known r.stop)
waits room b held s h k roomy z x = cut_short held h k (takes_nothing room b held roomy (sym s.taken ∙ z) (sym s.unknown ∙ x))

-- ---- the desk after a pass

-- what was served, with the bytes behind it moved to the front of the block
pub passes : (room : ℕ) (d : DeclaredDesk) (entry : List ℕ) {block text : List ℕ} {after : code.Book} {s : Served} {offset held : ℕ} →
    d.held ≤ length entry → Serves (served room (as_book d.book) (take d.held entry)) text after s → offset ≡ (d.offset + s.taken) % 2 ^ 64 →
    (held ≡ d.held - s.taken) × (take held block ≡ drop s.taken (take d.held entry)) →
    Passes room (as_desk d entry) block text (record { book = after; offset = offset; held = held }) s
passes room d entry h s o m =
    let bytes = take d.held entry in
    let taken = (served room (as_book d.book) bytes).taken in
    record {
      book = s.book;
      offset = o ∙ ap (λ (n : ℕ). (d.offset + n) % 2 ^ 64) s.taken;
      held = m.1 ∙ ap (λ (n : ℕ). drop n bytes) s.taken;
      count = omega (arith, m.0, s.taken, length-drop taken bytes, length-take-le d.held entry h);
      taken = s.taken;
      written = s.written;
      text_put = s.text_put;
      unknown = s.unknown;
    }

-- no more is held than before
pub left_within : {room : ℕ} {d : Desk} {block text : List ℕ} {e : DeclaredDesk} {r : Served} → Passes room d block text e r → e.held ≤ length d.held
left_within {room} {d} p = omega (arith, p.count, length-drop (pass room d).taken d.held)
