-- The promise: block by block and pass by pass, the desk prints what is printed for the whole input.
use Rattle.std.proofs.Common.{◌≡◌, ℕ, zero, suc, ◌+◌, ◌<◌, ◌≤◌, Bool, true, false, cond, eqb, List, [], ◌∷◌, ◌++◌, length, drop, sym, refl, ap, ◌∙◌}
use Rattle.std.proofs.Common.{append_assoc, append-nil, arith, length-append, length-drop, eqb-true}
use borrow.Author.Tests.{eqb-false}
use Rattle.journal.specs.Journal.{Front, cut, desk_front}
use Rattle.desk_core.specs.Lines.{broken_line}
use Rattle.desk_core.specs.Desk.{printed_at, printed, Serving, line_room}
use Rattle.desk_core.specs.Desk.{Desk, opened, pass, passed, with_block, reading, after_pass, printed_in, joined, HoweverCut}
use Rattle.desk_core.proofs.Printing.{rest, rest_at}
use Rattle.desk_core.proofs.Passes.{served_splits, served-within, takes_nothing}

-- what is left to do: the bytes that are held, those to come and their blocks
abbrev left : Desk → List (List ℕ) → ℕ
left d blocks = length d.held + length (joined blocks) + length blocks

-- and what is printed for it
abbrev ahead : Desk → List (List ℕ) → List ℕ
ahead d blocks = rest d.book d.offset (d.held ++ joined blocks)

-- after a pass, with as many to come as `next` has
module _ (r : Serving) (next : Desk → List (List ℕ) → List ℕ) (passes : ℕ)
    (again : (e : Desk) (bs : List (List ℕ)) → left e bs < passes → next e bs ≡ ahead e bs) (d : Desk) where
  -- the pass took nothing, as no whole record is held
  reads_on : desk_front d.held ≡ cut → (blocks : List (List ℕ)) → left d blocks ≤ passes → reading next d blocks ≡ ahead d blocks
  reads_on e [] h =
      sym (rw append-nil (rest_at d.book d.offset d.held ∙ ap (λ (f : Front). printed_at f d.book d.offset d.held rest) e))
  reads_on e (block ∷ blocks) h =
      again (with_block d block) blocks (omega (arith, length-append d.held block, length-append block (joined blocks)))
      ∙ ap (rest d.book d.offset) (append_assoc d.held block (joined blocks))

  goes_on : (r.taken ≡ 0 → r.unknown ≡ false → desk_front d.held ≡ cut) → (blocks : List (List ℕ)) → r.taken + left d blocks ≤ passes →
      after_pass r next d blocks ≡ cond r.unknown (broken_line d.offset) (ahead d blocks)
  goes_on nothing-whole blocks h = go r.unknown refl (eqb r.taken 0) refl
    where
      go : (strange : Bool) → r.unknown ≡ strange → (none : Bool) → eqb r.taken 0 ≡ none →
          cond strange (broken_line d.offset) (cond none (reading next d blocks) (next d blocks)) ≡ cond strange (broken_line d.offset) (ahead d blocks)
      go true x none z = refl
      go false x true z = reads_on (nothing-whole (eqb-true r.taken 0 z) x) blocks (omega arith)
      go false x false z = again d blocks (omega (arith, eqb-false r.taken 0 z))

module _ (room : ℕ) (roomy : line_room ≤ room) where
  passes_print : (passes : ℕ) (d : Desk) (blocks : List (List ℕ)) → left d blocks < passes → printed_in room passes d blocks ≡ ahead d blocks
  unfolding printed_in
  passes_print zero d blocks h = absurd (omega arith)
  passes_print (suc passes) d blocks h =
      let r = pass room d in
      ap (λ (l : List ℕ). r.text ++ l)
      (goes_on r (printed_in room passes) passes (λ e bs. passes_print passes e bs) (passed d r)
      (λ z x. ap (λ (n : ℕ). desk_front (drop n d.held)) z ∙ takes_nothing room d.book d.held roomy z x)
      blocks (omega (arith, length-drop r.taken d.held, served-within room d.book d.held)))
      ∙ sym (served_splits (joined blocks) room d.book d.held d.offset)

pub printed_however_cut : HoweverCut
unfolding printed
printed_however_cut room passes blocks roomy h = passes_print room roomy passes opened blocks (omega arith)
