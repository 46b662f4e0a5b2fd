-- One pass, record by record: its text, and then what is printed from where it stopped, is all that is printed.
use Rattle.std.proofs.Common.{◌≡◌, ℕ, zero, suc, ◌+◌, ◌-◌, ◌<◌, ◌≤◌, Bool, true, false, cond, leb, List, [], ◌∷◌, ◌++◌, length, drop, sym, refl, ap}
use Rattle.std.proofs.Common.{◌∙◌, append_assoc, add-zero, add_assoc, arith, length-append, length-drop, drop-drop, le-leb, leb-true}
use lib.Seq.{drop-append-le}
use borrow.Author.Tests.{lt-leb}
use Rattle.ledger.specs.Book.{Book}
use Rattle.ledger.specs.Calls.{Call, after}
use Rattle.journal.specs.Journal.{Front, whole, cut, unknown, desk_front}
use Rattle.journal.specs.Replies.{reply_to}
use Rattle.desk_core.specs.Lines.{line_of, broken_line}
use Rattle.desk_core.specs.Desk.{printed_at, Serving, stopping, behind, line_room, served_at, served_from, served}
use Rattle.desk_core.proofs.Lengths.{reply_short}
use Rattle.desk_core.proofs.Fronts.{front_stands}
use Rattle.desk_core.proofs.Printing.{rest, rest_at}

-- ---- one step

pub roomy : (most room : ℕ) (b : Book) (s : List ℕ) → length s ≤ most → line_room ≤ room →
    served_from most room b s ≡ served_at (desk_front s) room b s (served_from (most - 1))
unfolding served_from desk_front
roomy zero room b [] h k = refl
roomy zero room b (kind ∷ s) h k = absurd (omega arith)
roomy (suc most) room b s h k = let m : suc most - 1 ≡ most = omega arith in rw (le-leb line_room room k, m)

pub full : (most room : ℕ) (b : Book) (s : List ℕ) → room < line_room → served_from most room b s ≡ stopping b false
unfolding served_from
full zero room b s h = refl
full (suc most) room b s h = rw (lt-leb line_room room h)

-- ---- what holds of a pass that stops, and of one more record before a pass, holds of every pass

-- P says something of a pass that has so much room, from a book, over bytes
pub record Holds (P : ℕ → Book → List ℕ → Serving → Type 0) : Type 0 where
  pub stops : (room : ℕ) (b : Book) (s : List ℕ) → P room b s (stopping b false)
  pub breaks : (room : ℕ) (b : Book) (s : List ℕ) → desk_front s ≡ unknown → P room b s (stopping b true)
  pub goes_on : (room : ℕ) (b : Book) (s : List ℕ) (c : Call) (n : ℕ) (r : Serving) → line_room ≤ room → desk_front s ≡ whole c n →
      P (room - length (line_of (reply_to b (whole c n)))) (after b c) (drop n s) r → P room b s (behind n (line_of (reply_to b (whole c n))) r)

module _ (P : ℕ → Book → List ℕ → Serving → Type 0) (h : Holds P) where
  at_front : (room : ℕ) (b : Book) (s : List ℕ) (next : ℕ → Book → List ℕ → Serving) (f : Front) → line_room ≤ room → desk_front s ≡ f →
      ((left : ℕ) (a : Book) (l : List ℕ) → P left a l (next left a l)) → P room b s (served_at f room b s next)
  at_front room b s next (whole c n) k e p = h.goes_on room b s c n _ k e (p _ (after b c) (drop n s))
  at_front room b s next cut k e p = h.stops room b s
  at_front room b s next unknown k e p = h.breaks room b s e

  pub every_pass : (most room : ℕ) (b : Book) (s : List ℕ) → P room b s (served_from most room b s)
  unfolding served_from
  every_pass zero room b s = h.stops room b s
  every_pass (suc most) room b s = go (leb line_room room) refl (λ left a l. every_pass most left a l)
    where
      go : (roomy : Bool) → leb line_room room ≡ roomy → ((left : ℕ) (a : Book) (l : List ℕ) → P left a l (served_from most left a l)) →
          P room b s (cond roomy (served_at (desk_front s) room b s (served_from most)) (stopping b false))
      go true e p = at_front room b s (served_from most) (desk_front s) (leb-true line_room room e) refl p
      go false e p = h.stops room b s

-- ---- what is printed

-- where a pass over s has stopped, with t still to come
abbrev onward : Serving → ℕ → List ℕ → List ℕ → List ℕ
onward r offset s t = cond r.unknown (broken_line (offset + r.taken)) (rest r.book (offset + r.taken) (drop r.taken s ++ t))

onward-behind : (n : ℕ) (line : List ℕ) (r : Serving) (offset : ℕ) (s t : List ℕ) → onward r (offset + n) (drop n s) t ≡ onward (behind n line r) offset s t
onward-behind n line r offset s t = rw (← add_assoc offset n r.taken, ← drop-drop r.taken n s)

abbrev pub Splits : List ℕ → ℕ → Book → List ℕ → Serving → Type 0
Splits t room b s r = (offset : ℕ) → rest b offset (s ++ t) ≡ r.text ++ onward r offset s t

-- the bytes behind s change neither a whole record nor an unknown kind
pass_splits : (t : List ℕ) → Holds (Splits t)
pass_splits t =
    record {
      stops = λ room b s offset. rw (add-zero offset);
      breaks = λ room b s e offset. now_at b s offset unknown ((front_stands s t).unknown_stays e) ∙ ap broken_line (sym (add-zero offset));
      goes_on = λ room b s c n r k e p offset.
          let line = line_of (reply_to b (whole c n)) in
          now_at b s offset (whole c n) ((front_stands s t).whole_stays e)
          ∙ ap (λ (l : List ℕ). line ++ rest (after b c) (offset + n) l) (drop-append-le n s t ((front_stands s t).within e).1)
          ∙ ap (λ (l : List ℕ). line ++ l) (p (offset + n))
          ∙ sym (append_assoc line r.text (onward r (offset + n) (drop n s) t))
          ∙ ap (λ (l : List ℕ). (line ++ r.text) ++ l) (onward-behind n line r offset s t);
    }
  where
    now_at : (b : Book) (s : List ℕ) (offset : ℕ) (f : Front) → desk_front (s ++ t) ≡ f → rest b offset (s ++ t) ≡ printed_at f b offset (s ++ t) rest
    now_at b s offset f e = rest_at b offset (s ++ t) ∙ ap (λ (f : Front). printed_at f b offset (s ++ t) rest) e

pub served_splits : (t : List ℕ) (room : ℕ) (b : Book) (s : List ℕ) → Splits t room b s (served room b s)
unfolding served
served_splits t room b s = every_pass (Splits t) (pass_splits t) (length s) room b s

-- ---- how much a pass takes

-- no more than there is
takes_within : Holds (λ room b s r. r.taken ≤ length s)
takes_within =
    record {
      stops = λ room b s. omega arith;
      breaks = λ room b s e. omega arith;
      goes_on = λ room b s c n r k e p. omega (arith, length-drop n s, ((front_stands s []).within e).1);
    }

pub served-within : (room : ℕ) (b : Book) (s : List ℕ) → (served room b s).taken ≤ length s
unfolding served
served-within room b s = every_pass _ takes_within (length s) room b s

-- no more text than there is room for
text_fits : Holds (λ room b s r. length r.text ≤ room)
text_fits =
    record {
      stops = λ room b s. omega arith;
      breaks = λ room b s e. omega arith;
      goes_on = λ room b s c n r k e p.
          let line = line_of (reply_to b (whole c n)) in
          omega (arith, length-append line r.text, reply_short (reply_to b (whole c n)));
    }

pub served_fits : (room : ℕ) (b : Book) (s : List ℕ) → length (served room b s).text ≤ room
unfolding served
served_fits room b s = every_pass _ text_fits (length s) room b s

-- nothing, with no unknown kind next, only where no whole record is held
pub takes_nothing : (room : ℕ) (b : Book) (s : List ℕ) → line_room ≤ room → (served room b s).taken ≡ 0 → (served room b s).unknown ≡ false →
    desk_front s ≡ cut
unfolding served
takes_nothing room b s k z x =
    let step = roomy (length s) room b s (omega arith) k in
    go (desk_front s) refl (sym (ap (λ (r : Serving). r.taken) step) ∙ z) (sym (ap (λ (r : Serving). r.unknown) step) ∙ x)
  where
    next : ℕ → Book → List ℕ → Serving
    next = served_from (length s - 1)

    go : (f : Front) → desk_front s ≡ f → (served_at f room b s next).taken ≡ 0 → (served_at f room b s next).unknown ≡ false → desk_front s ≡ cut
    go (whole c n) e z x = absurd (omega (arith, ((front_stands s []).within e).0))
    go cut e z x = e
    go unknown e z x = let o : ◌≡◌ {A = ℕ} 0 1 = cc in absurd (omega arith)
