-- The sheet typed again is read as the shifted numbers, or has a quote outside its range: its profile and layout are the sheet's, and so is
-- each record but a rate's, whose number is s more.
use mathlib.Core.Path.{◌≡◌, refl, sym, ap, ◌∙◌}
use mathlib.Core.Bool.{true, false, false≢true}
use mathlib.Core.List.{List, map}
use Prim.Native.Nat.{ℕ, ◌+◌, ◌-◌, ◌*◌, ◌≤◌, ◌<◌}
use native.Mathlib.Omega.{arith}
use borrow.Author.Tests.{ltb-true, ltb-false, lt-ltb}
use lib.Dec.{eqb, ltb, leb→le}
use lib.IntN.{ℤ, pos, negsuc, nat_abs, ◌+ℤ◌}
use lib.ListN.{length, take, drop, get_or, length-map, length-take, length-drop, get_or-eq_default}
use lib.Seq.{ext_get_or, get_or-take, get_or-drop}
use lib.Signed.{◌≤ℤ◌, nat_abs-le}
use Rattle.method.specs.Grounds.{Ground, out_of_range, refused, done}
use Rattle.method.specs.Sheet.{body_length, quote_count, volume_count, names_profile, profile_known, Layout, layout_of}
use Rattle.method.specs.Sheet.{Slot, slots_of, slot_at, body_of, number_of_record, right_record, in_range, month_index, rate_index, volume_index}
use Rattle.method.specs.Sheet.{ultimate_index, Numbers, all_numbers, sheet_numbers, size_of, total, read_sheet}
use Rattle.method.proofs.Outcome.{split}
use Rattle.method.proofs.Entries.{map_at}
use Rattle.method.proofs.Reading.{Passes, first_wrong, first_outside, read_passes, read_numbers, read_out_of_range}
use Rattle.method.proofs.Slots.{rate_start, size_is, slots_least, number_at, rate_at_lem, rates_length, rate_slot, before_rates, behind_rates, none_fails, all_pass}
use Rattle.method.proofs.Size.{bounded-+}
use Rattle.method.proofs.SheetBounds.{read_bounds}
use Rattle.method.proofs.Layouts.{first_bytes, layout_is}
use Rattle.shift.specs.Shift.{shifted_rates, shifted, quotes_inside}
use Rattle.shift.specs.Meaning.{quotes_typed, quotes_start, retyped}
use Rattle.shift.proofs.Ranges.{inside, inside_each, each_inside}
use Rattle.shift.proofs.Quotes.{Retyped, read_again, read_again_lem, typed_again}

-- ---- lists

-- a part of two lists, entry by entry
same_part : {A : Type 0} (d : A) (i n : ℕ) (xs ys : List A) → length xs ≡ length ys →
    ((j : ℕ) → i ≤ j → j < i + n → get_or xs j d ≡ get_or ys j d) → take n (drop i xs) ≡ take n (drop i ys)
same_part d i n xs ys long each =
    ext_get_or d (take n (drop i xs)) (take n (drop i ys)) (simp (length-take, length-drop, long))
    λ j h.
    let inside : j < n = omega (arith, length-take n (drop i xs)) in
    simp (get_or-take, get_or-drop) (each (i + j) (omega arith) (omega arith))

-- ---- the two sheets

module _ (s : ℤ) (old new : List ℕ) (r : Retyped s (rate_start (layout_of old).led) (quote_count (layout_of old).profile) old new) where
  abbrev l : Layout
  l = layout_of old

  first_byte : get_or new 0 0 ≡ get_or old 0 0
  first_byte = r.kept 0 (λ from inside. absurd (omega arith))

  second_byte : get_or new 1 0 ≡ get_or old 1 0
  second_byte = r.kept 1 (λ from inside. absurd (omega arith))

  byte_behind : get_or new (first_bytes old) 0 ≡ get_or old (first_bytes old) 0
  unfolding layout_of
  byte_behind = r.kept (first_bytes old) (λ from inside. absurd (omega arith))

  same_known : profile_known new ≡ profile_known old
  same_known = rw (first_byte, second_byte, r.long)

  same_layout : layout_of new ≡ layout_of old
  same_layout = rw (layout_is new, layout_is old, first_byte, second_byte, r.long, byte_behind)

  -- ---- the records

  -- not a rate's
  abbrev Other : ℕ → Type 0
  Other i = rate_index l ≤ i → volume_index l ≤ i

  by_slot : (P : ℕ → Type 0) → ((i : ℕ) → Other i → i < length (slots_of l) → P i) → ((i : ℕ) → i < quote_count l.profile → P (rate_index l + i)) →
      (i : ℕ) → i < length (slots_of l) → P i
  by_slot P others rates i h =
      split (ltb i (rate_index l))
      (λ t. others i (λ from. absurd (omega (arith, ltb-true i (rate_index l) t))) h)
      λ t.
      split (ltb i (volume_index l))
      (λ u.
      let at : i ≡ rate_index l + (i - rate_index l) = omega (arith, ltb-false i (rate_index l) t) in
      rw at (rates (i - rate_index l) (omega (arith, ltb-true i (volume_index l) u))))
      (λ u. others i (λ from. ltb-false i (volume_index l) u) h)

  module _ (i : ℕ) (other : Other i) (h : i < length (slots_of l)) where
    abbrev t : Slot
    t = slot_at l i

    same_byte : (j : ℕ) → t.start ≤ j → j < t.start + 1 + body_length t.kind → get_or new j 0 ≡ get_or old j 0
    same_byte j from to =
        r.kept j
        λ behind inside.
        split (ltb i (rate_index l))
        (λ b. absurd (omega (arith, before_rates l i (ltb-true i (rate_index l) b))))
        (λ b. absurd (omega (arith, behind_rates l i (other (ltb-false i (rate_index l) b)) h)))

    same_body : body_of new t ≡ body_of old t
    same_body = same_part 0 (t.start + 1) (body_length t.kind) new old r.long λ j from to. same_byte j (omega arith) (omega arith)

    same_number : number_of_record new t ≡ number_of_record old t
    same_number = rw same_body

  -- the kind and the maturity
  same_right : (i : ℕ) → i < length (slots_of l) → right_record new (slot_at l i) ≡ right_record old (slot_at l i)
  same_right =
      by_slot (λ i. right_record new (slot_at l i) ≡ right_record old (slot_at l i))
      (λ i other h. rw (same_body i other h, same_byte i other h (slot_at l i).start (omega arith) (omega arith)))
      λ i h.
      let a = rate_start l.led + 4 * i in
      let first : 0 < 3 = omega arith in
      let kind = r.kept a (λ from inside. omega arith) in
      let maturity = r.kept (a + 1 + 0) (λ from inside. omega arith) in
      rw (rate_slot l i h) (simp (get_or-take, get_or-drop, kind, maturity))

  -- ---- the numbers

  abbrev zs : List ℤ
  zs = all_numbers old

  abbrev ys : List ℤ
  ys = map (number_of_record new) (slots_of l)

  same_count : length ys ≡ length zs
  same_count = simp length-map

  other_at : (i : ℕ) → Other i → get_or ys i (pos 0) ≡ get_or zs i (pos 0)
  other_at i other =
      split (ltb i (length (slots_of l)))
      (λ t.
      let h = ltb-true i (length (slots_of l)) t in
      (rw same_layout at (number_at new)) i (slot_at l i) h refl ∙ same_number i other h ∙ sym (number_at old i (slot_at l i) h refl))
      λ t.
      let h = ltb-false i (length (slots_of l)) t in
      rw (get_or-eq_default ys (pos 0) {n = i} (rw length-map h), get_or-eq_default zs (pos 0) {n = i} (rw length-map h))

  same_volumes : take (volume_count l.profile) (drop (volume_index l) ys) ≡ take (volume_count l.profile) (drop (volume_index l) zs)
  same_volumes = same_part (pos 0) (volume_index l) (volume_count l.profile) ys zs same_count λ i from to. other_at i (λ h. from)

  abbrev rates : List ℤ
  rates = shifted_rates s (sheet_numbers old).rates

  rates_count : length rates ≡ quote_count l.profile
  rates_count = length-map (sheet_numbers old).rates _ ∙ rates_length old

  -- where two bytes are enough for each rate
  module _ (small : (i : ℕ) → nat_abs (get_or (sheet_numbers old).rates i (pos 0) +ℤ s) ≤ 32_767) where
    moved : (i : ℕ) → i < quote_count l.profile → number_of_record new (slot_at l (rate_index l + i)) ≡ get_or rates i (pos 0)
    moved i h =
        let e = rate_slot l i h in
        rw e
        (r.number i h
        ∙ ap (λ z. read_again (z +ℤ s)) (sym (rate_at_lem old i _ h e))
        ∙ read_again_lem _ (small i)
        ∙ sym (map_at _ (sheet_numbers old).rates i (pos 0) (pos 0) (rw (rates_length old) h)))

    range_moved : (i : ℕ) → i < quote_count l.profile → in_range new (slot_at l (rate_index l + i)) ≡ inside (get_or rates i (pos 0))
    range_moved i h = rw (moved i h, ap (λ (t : Slot). t.kind) (rate_slot l i h)) refl

    rates_moved : take (quote_count l.profile) (drop (rate_index l) ys) ≡ rates
    rates_moved =
        let count = rw same_layout at (rates_length new) in
        ext_get_or (pos 0) _ rates (count ∙ sym rates_count)
        λ i h.
        let inside : i < quote_count l.profile = rw count at h in
        (rw same_layout at (rate_at_lem new)) i (slot_at l (rate_index l + i)) inside refl ∙ moved i inside

    numbers_moved : sheet_numbers new ≡ shifted s (sheet_numbers old)
    unfolding shifted
    numbers_moved =
        let month = other_at (month_index l) (λ h. absurd (omega arith)) in
        let ultimate = other_at (ultimate_index l) (λ h. omega arith) in
        let limit = other_at (ultimate_index l + 1) (λ h. omega arith) in
        let phase_in = other_at (ultimate_index l + 2) (λ h. omega arith) in
        let adjustment = other_at (length zs - 1) (λ h. omega (arith, slots_least l, length-map (slots_of l) (number_of_record old))) in
        rw (same_layout, rates_moved, same_volumes, same_count, month, ultimate, limit, phase_in, adjustment)

    module _ (n : Numbers) (p : Passes old n) where
      known : profile_known new ≡ true
      known = same_known ∙ p.known

      long : length new ≡ size_of (layout_of new)
      long = rw same_layout (r.long ∙ p.long)

      right : first_wrong new ≡ 0
      right =
          rw same_layout
          (all_pass (right_record new) 1 (slots_of l) λ i h. same_right i h ∙ none_fails (right_record old) 0 (slots_of l) p.right i h)

      traded : ltb 0 (total (sheet_numbers new).volumes) ≡ true
      traded = rw (same_layout, same_volumes) (lt-ltb 0 (total (sheet_numbers old).volumes) p.traded)

      read_inside : quotes_inside rates ≡ true → read_sheet new ≡ done (shifted s n)
      read_inside e = read_numbers new known long right in_range_lem traded ∙ ap done (numbers_moved ∙ ap (shifted s) p.numbers)
        where
          in_range_lem : first_outside new ≡ 0
          in_range_lem =
              rw same_layout
              (all_pass (in_range new) 1 (slots_of l)
              (by_slot (λ i. in_range new (slot_at l i) ≡ true)
              (λ i other h. rw (same_body i other h) (none_fails (in_range old) 0 (slots_of l) p.inside i h))
              (λ i h. range_moved i h ∙ inside_each rates e i (rw rates_count h))))

      read_outside : quotes_inside rates ≡ false → (g : Ground) × (read_sheet new ≡ refused g)
      read_outside e = (
        out_of_range (first_outside new),
        read_out_of_range new known long right
            λ none.
            false≢true
            (sym e
            ∙ each_inside rates
            λ i h.
            let among : i < quote_count l.profile = rw rates_count at h in
            sym (range_moved i among)
            ∙ none_fails (in_range new) 0 (slots_of l) (rw same_layout at none) (rate_index l + i) (omega (arith, slots_least l))),
      )

-- ---- the sheet typed again

shift_small : (s : ℤ) → negsuc 499 ≤ℤ s → s ≤ℤ pos 500 → nat_abs s ≤ 500
shift_small (pos n) from to = leb→le n 500 to.le
shift_small (negsuc n) from to = omega (arith, leb→le n 499 from.le)

-- the sheet typed again with s in its quotes is read as the shifted numbers, or has a quote outside its range
module _ (s : ℤ) (from : negsuc 499 ≤ℤ s) (to : s ≤ℤ pos 500) (sheet : List ℕ) (n : Numbers) (read : read_sheet sheet ≡ done n) where
  abbrev passes : Passes sheet n
  passes = read_passes sheet n read

  start_is : quotes_start sheet ≡ rate_start (layout_of sheet).led
  unfolding layout_of
  start_is = split (names_profile sheet) (λ t. rw t refl) (λ t. rw t refl)

  typed_are : quotes_typed sheet ≡ quote_count (layout_of sheet).profile
  unfolding layout_of
  typed_are =
      split (names_profile sheet)
      (λ t.
      split (eqb (get_or sheet 1 0) 2)
      (λ u. rw (t, u) refl)
      (λ u. split (eqb (get_or sheet 1 0) 3) (λ v. rw (t, u, v) refl) (λ v. rw (t, u, v) refl)))
      (λ t. rw t refl)

  again : Retyped s (rate_start (layout_of sheet).led) (quote_count (layout_of sheet).profile) sheet (retyped s sheet)
  unfolding retyped
  again =
      rw (start_is, typed_are)
      (typed_again s (quote_count (layout_of sheet).profile) (rate_start (layout_of sheet).led) sheet (omega (arith, passes.long, size_is (layout_of sheet))))

  rates_read : (sheet_numbers sheet).rates ≡ n.rates
  rates_read = ap (λ (m : Numbers). m.rates) passes.numbers

  small : (i : ℕ) → nat_abs (get_or (sheet_numbers sheet).rates i (pos 0) +ℤ s) ≤ 32_767
  small i =
      let z = get_or n.rates i (pos 0) in
      let rate-most : nat_abs z ≤ 12_001 = nat_abs-le z (omega (arith, ((read_bounds sheet n read).rate_range i).small)) in
      let sum = bounded-+ {a = z} {b = s} (record { bound = rate-most }) (record { bound = shift_small s from to }) in
      rw rates_read (omega arith)

  pub retyped_inside : quotes_inside (shifted_rates s n.rates) ≡ true → read_sheet (retyped s sheet) ≡ done (shifted s n)
  retyped_inside e = read_inside s sheet (retyped s sheet) again small n passes (rw rates_read e)

  pub retyped_outside : quotes_inside (shifted_rates s n.rates) ≡ false → (g : Ground) × (read_sheet (retyped s sheet) ≡ refused g)
  retyped_outside e = read_outside s sheet (retyped s sheet) again small n passes (rw rates_read e)
