use mathlib.Core.Path.{◌≡◌, sym, ap, ◌∙◌}
use Prim.Native.Nat.{◌+◌, ◌≤◌, ◌<◌}
use native.Mathlib.Omega.{arith}
use lib.IntN.{pos}
use lib.ListN.{length, take, replicate, length-map, get_or-map}
use lib.Seq.{take-set-lt, length-take-le}
use mir.Syntax.{w64}
use mir.ValLaws.{to_z-of_z}
use Rattle.method.specs.Sheet.{right_record, in_range, number_of_record, slots_of, slot, no_slot, slot_at}
use Rattle.method.proofs.Slots.{slots_most}
use Rattle.sheet.specs.Views.{as_layout, as_kind}
use Rattle.sheet.proofs.Cursor.{cursor_first, cursor_most, slot_here, slot_end}
use Rattle.method.proofs.Filling.{filled_none, filled_more}
use Rattle.sheet.proofs.Places.{found_none, found_more, found_all}
use Rattle.sheet.proofs.read_records.Goals as goal
use Rattle.sheet.proofs.read_records.Goals.{After-entry_at-due, After-loop-i}

-- the slot that is read is the one that is due
here : (c : After-entry_at-due) →
    let l = as_layout c.args.layout in
    let e = c.entry_at-due.result in
    let at = c.loop-i in
    slot (as_kind e.kind) e.maturity at.start ≡ slot_at l at.i
here c =
    let l = as_layout c.args.layout in
    let at = c.loop-i in
    slot_here l c.entry_at-due.result at.i at.start c.entry_at-due.ensures (rw (← c.count-i-end.ensures.0) c.loop-i-test.true) at.invariant.at

pub loop-i-init : goal.loop-i-init
loop-i-init c =
    let l = as_layout c.args.layout in
    let n = length (slots_of l) in
    let zeros = replicate 28 (pos 0) in
    let long : length (take n zeros) ≡ n = length-take-le n zeros (slots_most l) in
    record {
      at = sym (cursor_first l);
      right = found_none (right_record c.args.sheet.now) (slots_of l);
      inside = found_none (in_range c.args.sheet.now) (slots_of l);
      filled = filled_none _ _ (rw length-map long);
    }

pub read_record-record-requires : goal.read_record-record-requires
read_record-record-requires c =
    let l = as_layout c.args.layout in
    let i = c.loop-i.i in
    let h : i < length (slots_of l) = rw (← c.count-i-end.ensures.0) c.loop-i-test.true in
    omega (arith, c.requires, slot_end l _ i h (here (goal.at.read_record-record-requires c).After-entry_at-due), cursor_most l (i + 1))

pub loop-i-preserved : goal.loop-i-preserved
loop-i-preserved c =
    let l = as_layout c.args.layout in
    let before = c.loop-i.invariant in
    let i = c.loop-i.i in
    let h : i < length (slots_of l) = rw (← c.count-i-end.ensures.0) c.loop-i-test.true in
    let s = c.args.sheet.now in
    let one = c.read_record-record.ensures in
    let this = here (goal.at.loop-i-preserved c).After-entry_at-due in
    record {
      at = one.next ∙ slot_end l _ i h this;
      right =
          rw (c.or-wrong.ensures, c.then_some.ensures)
          (found_more (right_record s) _ c.loop-i.wrong i _ h (one.right ∙ ap (right_record s) this) before.right);
      inside =
          rw (c.or-outside.ensures, c.then_some-in-loop-i.ensures)
          (found_more (in_range s) _ c.loop-i.outside i _ h (one.inside ∙ ap (in_range s) this) before.inside);
      filled =
          rw (take-set-lt (length (slots_of l)) c.loop-i.numbers i _ h)
          (filled_more _ _ i _ (number_of_record s no_slot) before.filled (rw length-map h)
          (to_z-of_z w64 _ (omega arith) ∙ one.number ∙ ap (number_of_record s) this ∙ sym (get_or-map (number_of_record s) (slots_of l) i no_slot)));
    }

-- the loop ended behind the last slot
ended : (c : After-loop-i) → length (slots_of (as_layout c.args.layout)) ≤ c.loop-i.i
ended c = rw (← c.count-i-end.ensures.0) c.loop-i-test.false

pub returns-clause-wrong : goal.returns-clause-wrong
returns-clause-wrong c = found_all _ _ c.loop-i.wrong c.loop-i.i (ended (goal.at.returns-clause-wrong c).After-loop-i) c.loop-i.invariant.right

pub returns-clause-outside : goal.returns-clause-outside
returns-clause-outside c = found_all _ _ c.loop-i.outside c.loop-i.i (ended (goal.at.returns-clause-outside c).After-loop-i) c.loop-i.invariant.inside
