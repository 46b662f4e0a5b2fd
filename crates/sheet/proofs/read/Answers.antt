-- The grounds in their order, by the laws of `read_sheet`.
use mathlib.Core.Path.{◌≡◌, refl, sym, ap, ◌∙◌}
use mathlib.Core.Bool.{Bool, true}
use mathlib.Core.List.{List, map}
use Prim.Native.Nat.{ℕ}
use lib.Dec.{ltb}
use lib.IntN.{ℤ}
use lib.ListN.{length, take}
use Rattle.std.specs.Prelude.{Option, Some, None, Err}
use borrow.Author.Rules.{rules}
use Rattle.method.specs.Grounds.{wrong_record, out_of_range, refused, done}
use Rattle.method.specs.Sheet.{profile_known, Layout, layout_of, size_of, Slot, slots_of, number_of_record, right_record, in_range, first_failure}
use Rattle.method.specs.Sheet.{all_numbers, total, Numbers, numbers_of, sheet_numbers, read_sheet}
use Rattle.method.proofs.Reading.{first_wrong, first_outside, read_unknown_profile, read_wrong_length, read_wrong_record, read_out_of_range}
use Rattle.method.proofs.Reading.{read_no_volume, read_numbers}
use Rattle.method.proofs.SheetBounds.{read_bounds}
use Rattle.sheet.specs.Views.{as_layout}
use Rattle.sheet.specs.Records.{found, AllInside}
use Rattle.sheet.proofs.Places.{place_found, none_found}
use Rattle.sheet.proofs.Choosing.{known_by, unknown_by}
use Rattle.sheet.proofs.Ranges.{all_inside}
use Rattle.sheet.proofs.read.Goals as goal
use Rattle.sheet.proofs.read.Goals.{In_ok-profile_of, Else-sheet-size, In_default, In_default-outside, After-count, Else-not-any_traded}

-- ---- what the calls say, by the sheet's own layout

module _ (s : List ℕ) {l : Layout} (made : l ≡ layout_of s) where
  place_is : (p : Slot → Bool) {o : Option ℕ} {place : ℕ} → o ≡ found (first_failure p 1 (slots_of l)) → o ≡ Some place →
      (first_failure p 1 (slots_of (layout_of s)) ≡ 0 → ⊥) × (first_failure p 1 (slots_of (layout_of s)) ≡ place)
  place_is p told some = rw (← made) (place_found (first_failure p 1 (slots_of l)) (sym told ∙ some))

  none_is : (p : Slot → Bool) {o : Option ℕ} → o ≡ found (first_failure p 1 (slots_of l)) → o ≡ None → first_failure p 1 (slots_of (layout_of s)) ≡ 0
  none_is p told none = rw (← made) (none_found (first_failure p 1 (slots_of l)) (sym told ∙ none))

  numbers_are : {zs : List ℤ} → zs ≡ all_numbers s → numbers_of l zs ≡ sheet_numbers s
  numbers_are read = rw (made, read) refl

known : (c : In_ok-profile_of) → profile_known c.args.sheet.now ≡ true
known c = known_by c.args.sheet.now _ c.in_ok-profile_of.ensures

long : (c : Else-sheet-size) → length c.args.sheet.now ≡ size_of (layout_of c.args.sheet.now)
long c = c.if-sheet-size.false ∙ c.size.ensures.0 ∙ ap size_of c.layout_of-layout.ensures

right : (c : In_default) → first_wrong c.args.sheet.now ≡ 0
right c = none_is c.args.sheet.now c.layout_of-layout.ensures (right_record c.args.sheet.now) c.read_records-wrong.ensures.wrong c.in_default.is

inside : (c : In_default-outside) → first_outside c.args.sheet.now ≡ 0
inside c = none_is c.args.sheet.now c.layout_of-layout.ensures (in_range c.args.sheet.now) c.read_records-wrong.ensures.outside c.in_default-outside.is

-- the part of the array that is passed on
all_are : (c : After-count) → take c.count.result c.read_records-wrong.result.numbers ≡ all_numbers c.args.sheet.now
all_are c =
    rw c.count.ensures.0 c.read_records-wrong.ensures.numbers
    ∙ ap (λ (l : Layout). map (number_of_record c.args.sheet.now) (slots_of l)) c.layout_of-layout.ensures

of_sheet : (c : After-count) →
    numbers_of (as_layout c.layout_of-layout.result) (take c.count.result c.read_records-wrong.result.numbers) ≡ sheet_numbers c.args.sheet.now
of_sheet c = numbers_are c.args.sheet.now c.layout_of-layout.ensures (all_are c)

-- ground 4's test is on the sheet's volumes
traded_by : (s : List ℕ) {n : Numbers} {b : Bool} → n ≡ sheet_numbers s → b ≡ ltb 0 (total n.volumes) → ltb 0 (total (sheet_numbers s).volumes) ≡ b
traded_by s e told = sym (told ∙ ap (λ (n : Numbers). ltb 0 (total n.volumes)) e)

-- ---- the grounds

pub returns-in_err-profile_of : goal.returns-in_err-profile_of
returns-in_err-profile_of c =
    let told : c.from_residual.result ≡ Err c.in_err-profile_of.field-0.0 = search rules in
    let (unknown, ground) = unknown_by c.args.sheet.now _ c.in_err-profile_of.ensures in
    rw (told, ground) (sym (read_unknown_profile c.args.sheet.now unknown))

pub returns-then-sheet-size : goal.returns-then-sheet-size
returns-then-sheet-size c =
    let at = goal.at.returns-then-sheet-size c in
    let size = c.size.ensures.0 ∙ ap size_of c.layout_of-layout.ensures in
    sym (read_wrong_length c.args.sheet.now (known at.In_ok-profile_of) (λ e. c.if-sheet-size.true (e ∙ sym size)))

pub returns-in-Some : goal.returns-in-Some
returns-in-Some c =
    let at = goal.at.returns-in-Some c in
    let s = c.args.sheet.now in
    let (some, is) = place_is s c.layout_of-layout.ensures (right_record s) c.read_records-wrong.ensures.wrong c.in-Some.is in
    sym
    (read_wrong_record s (known at.In_ok-profile_of) (long at.Else-sheet-size) some
    ∙ ap (λ (i : ℕ). refused (wrong_record i)) is)

pub returns-in-Some-outside : goal.returns-in-Some-outside
returns-in-Some-outside c =
    let at = goal.at.returns-in-Some-outside c in
    let s = c.args.sheet.now in
    let (some, is) = place_is s c.layout_of-layout.ensures (in_range s) c.read_records-wrong.ensures.outside c.in-Some-outside.is in
    sym
    (read_out_of_range s (known at.In_ok-profile_of) (long at.Else-sheet-size) (right at.In_default) some
    ∙ ap (λ (i : ℕ). refused (out_of_range i)) is)

all_here : (c : After-count) → first_outside c.args.sheet.now ≡ 0 →
    AllInside (as_layout c.layout_of-layout.result) (take c.count.result c.read_records-wrong.result.numbers)
all_here c inside = rw (all_are c, c.layout_of-layout.ensures) (all_inside _ inside)

pub any_traded-requires : goal.any_traded-requires
any_traded-requires c =
    let at = goal.at.any_traded-requires c in
    all_here at.After-count (inside at.In_default-outside)

pub returns-then-not-any_traded : goal.returns-then-not-any_traded
returns-then-not-any_traded c =
    let at = goal.at.returns-then-not-any_traded c in
    let s = c.args.sheet.now in
    let untraded = traded_by s (of_sheet at.After-count) c.any_traded.ensures ∙ c.if-not-any_traded.true in
    sym (read_no_volume s (known at.In_ok-profile_of) (long at.Else-sheet-size) (right at.In_default) (inside at.In_default-outside) untraded)

-- all grounds passed
passed : (c : Else-not-any_traded) → read_sheet c.args.sheet.now ≡ done (sheet_numbers c.args.sheet.now)
passed c =
    let at = goal.at.numbers_of-requires-clause-in_range c in
    let s = c.args.sheet.now in
    let traded = traded_by s (of_sheet at.After-count) c.any_traded.ensures ∙ c.if-not-any_traded.false in
    read_numbers s (known at.In_ok-profile_of) (long at.Else-sheet-size) (right at.In_default) (inside at.In_default-outside) traded

pub numbers_of-requires-clause-inside : goal.numbers_of-requires-clause-inside
numbers_of-requires-clause-inside c =
    let at = goal.at.numbers_of-requires-clause-inside c in
    all_here at.After-count (inside at.In_default-outside)

pub numbers_of-requires-clause-in_range : goal.numbers_of-requires-clause-in_range
numbers_of-requires-clause-in_range c =
    let at = goal.at.numbers_of-requires-clause-in_range c in
    rw (of_sheet at.After-count) (read_bounds _ _ (passed c))

pub returns : goal.returns
returns c =
    let at = goal.at.returns c in
    ap done (c.numbers_of.ensures ∙ of_sheet at.After-count) ∙ sym (passed at.Else-not-any_traded)
