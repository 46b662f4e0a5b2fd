-- The numbers of a sheet that is read are in their ranges.
use mathlib.Core.Path.{◌≡◌, refl, subst}
use mathlib.Core.Bool.{Bool, true, false, false≢true, cond, ◌&&◌}
use mathlib.Core.List.{List, [], ◌∷◌}
use Prim.Native.Nat.{ℕ, zero, suc, ◌+◌, ◌-◌, ◌*◌, ◌≤◌, ◌<◌, zero-le, suc-le-suc}
use native.Mathlib.Omega.{arith}
use lib.Dec.{leb}
use lib.IntN.{ℤ, pos, negsuc, nat_abs}
use lib.ListN.{length, get_or, length-map}
use lib.Signed.{le_z}
use borrow.Author.Tests.{leb-true}
use Rattle.method.specs.Grounds.{done}
use Rattle.method.specs.Sheet.{adjustment, Profile, euro, from_ten, from_fifteen, quote_count, volume_count, adjustable, profile_of}
use Rattle.method.specs.Sheet.{Layout, layout_of, Slot, slot, slots_of, slot_at, number_of_record, in_range, total}
use Rattle.method.specs.Sheet.{month_index, rate_index, volume_index, ultimate_index, Numbers, all_numbers, sheet_numbers, read_sheet}
use Rattle.method.proofs.Outcome.{both_true}
use Rattle.method.proofs.Slots.{slots_least, slots_phased, slots_adjusts, month_slot, rate_slot, volume_slot, ultimate_slot, limit_slot}
use Rattle.method.proofs.Slots.{volumes_most, last_start, phase_in_slot, adjustment_slot}
use Rattle.method.proofs.Slots.{none_fails, number_at, rates_length, rate_at_lem, volumes_length, volume_at_lem}
use Rattle.method.proofs.Reading.{first_outside, read_passes}
use Rattle.method.specs.Ranges.{RateInRange, NumbersInRange}

-- ---- one number

natural_range : (low n high : ℕ) → (leb low n && leb n high) ≡ true → (low ≤ n) × (n ≤ high)
natural_range low n high e =
    let t = both_true (leb low n) (leb n high) e in
    (leb-true _ _ t.0, leb-true _ _ t.1)

pub integer_range : (z : ℤ) → (le_z (negsuc 1_999) z && le_z z (pos 12_000)) ≡ true → RateInRange z
integer_range (pos n) e = let h = leb-true n 12_000 e in omega arith
integer_range (negsuc n) e = let h = leb-true n 1_999 (both_true (leb n 1_999) true e).0 in omega arith

adjustment_range : (z : ℤ) → (le_z (negsuc 499) z && le_z z (pos 500)) ≡ true → nat_abs z ≤ 500
adjustment_range (pos n) e = leb-true n 500 e
adjustment_range (negsuc n) e = let h = leb-true n 499 (both_true (leb n 499) true e).0 in omega arith

-- ---- lists

at_every {ℓ} : {A : Type ℓ} (P : A → Type 0) (l : List A) (d : A) → P d → ((i : ℕ) → i < length l → P (get_or l i d)) → (i : ℕ) → P (get_or l i d)
at_every P [] d p f i = p
at_every P (x ∷ l) d p f zero = f zero (suc-le-suc zero-le)
at_every P (x ∷ l) d p f (suc i) = at_every P l d p (λ j h. f (suc j) (suc-le-suc h)) i

total_at_most : (b : ℕ) (l : List ℕ) → ((i : ℕ) → get_or l i 0 ≤ b) → total l ≤ length l * b
unfolding total
total_at_most b [] f = omega arith
total_at_most b (x ∷ l) f = omega (arith, f 0, total_at_most b l (λ i. f (suc i)))

-- ---- all numbers

module _ (s : List ℕ) (inside : first_outside s ≡ 0) where
  abbrev layout : Layout
  layout = layout_of s

  in_range_lem : (i : ℕ) (t : Slot) → i < length (slots_of layout) → slot_at layout i ≡ t → in_range s t ≡ true
  in_range_lem i t h e = rw (← e) (none_fails (in_range s) 0 (slots_of layout) inside i h)

  -- one that every sheet of the market has
  among : (i : ℕ) → i < ultimate_index layout + 2 → i < length (slots_of layout)
  among i h = omega (arith, slots_least layout)

  rates_in_range : (i : ℕ) → i < quote_count layout.profile → RateInRange (get_or (sheet_numbers s).rates i (pos 0))
  rates_in_range i h =
      let e = rate_slot layout i h in
      rw (rate_at_lem s i _ h e) (integer_range _ (in_range_lem (rate_index layout + i) _ (among (rate_index layout + i) (omega arith)) e))

  volumes_in_range : (i : ℕ) → i < volume_count layout.profile → get_or (sheet_numbers s).volumes i 0 ≤ 1_000_000
  volumes_in_range i h =
      let e = volume_slot layout i h in
      rw (volume_at_lem s i _ h e)
      (natural_range 0 _ 1_000_000 (in_range_lem (volume_index layout + i) _ (among (volume_index layout + i) (omega arith)) e)).1

  -- a number without sign, by its slot
  number_range : (i : ℕ) (t : Slot) (low high : ℕ) → i < length (slots_of layout) → slot_at layout i ≡ t →
      (in_range s t ≡ true → (low ≤ nat_abs (number_of_record s t)) × (nat_abs (number_of_record s t) ≤ high)) →
      (low ≤ nat_abs (get_or (all_numbers s) i (pos 0))) × (nat_abs (get_or (all_numbers s) i (pos 0)) ≤ high)
  number_range i t low high h e range = rw (number_at s i t h e) (range (in_range_lem i t h e))

  month_range : (sheet_numbers s).month ≤ 2_399
  month_range = (number_range (month_index layout) _ 0 2_399 (among _ (omega arith)) (month_slot layout) (natural_range 0 _ 2_399)).1

  ultimate_range : (sheet_numbers s).ultimate ≤ 10_000
  ultimate_range = (number_range (ultimate_index layout) _ 0 10_000 (among _ (omega arith)) (ultimate_slot layout) (natural_range 0 _ 10_000)).1

  limit_range : (1 ≤ (sheet_numbers s).limit) × ((sheet_numbers s).limit ≤ 100_000)
  limit_range = number_range (ultimate_index layout + 1) _ 1 100_000 (among _ (omega arith)) (limit_slot layout) (natural_range 1 _ 100_000)

  -- read where the record stands, 10,000 elsewhere
  phase_in_range : (10_000 ≤ (sheet_numbers s).phase_in) × ((sheet_numbers s).phase_in ≤ 20_000)
  phase_in_range = go layout.phased present
    where
      present : layout.phased ≡ true →
          let x = nat_abs (get_or (all_numbers s) (ultimate_index layout + 2) (pos 0)) in (10_000 ≤ x) × (x ≤ 20_000)
      present e =
          number_range (ultimate_index layout + 2) _ 10_000 20_000 (omega (arith, slots_phased layout e)) (phase_in_slot layout e)
          (natural_range 10_000 _ 20_000)

      go : {x : ℕ} (phased : Bool) → (phased ≡ true → (10_000 ≤ x) × (x ≤ 20_000)) → (10_000 ≤ cond phased x 10_000) × (cond phased x 10_000 ≤ 20_000)
      go true range = range refl
      go false range = omega arith

  -- 0 where the record does not stand
  adjustment_most : nat_abs (sheet_numbers s).adjustment ≤ 500
  adjustment_most = go _ layout.adjusts present
    where
      present : layout.adjusts ≡ true → nat_abs (get_or (all_numbers s) (length (all_numbers s) - 1) (pos 0)) ≤ 500
      present e =
          let i : ℕ = ultimate_index layout + 2 + cond layout.phased 1 0 in
          let at : length (all_numbers s) - 1 ≡ i = omega (arith, length-map (slots_of layout) (number_of_record s), slots_adjusts layout e) in
          let t : Slot = slot adjustment 0 (last_start layout.led layout.profile + cond layout.phased 3 0) in
          let inside : i < length (slots_of layout) = omega (arith, slots_adjusts layout e) in
          let due = adjustment_slot layout e in
          rw (at, number_at s i t inside due) (adjustment_range (number_of_record s t) (in_range_lem i t inside due))

      go : (z : ℤ) (adjusts : Bool) → (adjusts ≡ true → nat_abs z ≤ 500) → nat_abs (cond adjusts z (pos 0)) ≤ 500
      go z true range = range refl
      go z false range = omega arith

  -- no other market has the record
  adjusted_euro : layout.adjusts ≡ true → layout.profile ≡ euro
  unfolding layout_of
  adjusted_euro e = only_euro (profile_of s) (both_true (adjustable (profile_of s)) _ e).0
    where
      only_euro : (p : Profile) → adjustable p ≡ true → p ≡ euro
      only_euro euro t = refl
      only_euro from_ten t = absurd (false≢true t)
      only_euro from_fifteen t = absurd (false≢true t)

  numbers_in_range : 0 < total (sheet_numbers s).volumes → NumbersInRange (sheet_numbers s)
  numbers_in_range traded =
      let n = sheet_numbers s in
      let volume_most : (i : ℕ) → get_or n.volumes i 0 ≤ 1_000_000 =
      at_every (λ v. v ≤ 1_000_000) n.volumes 0 zero-le (λ i h. volumes_in_range i (rw (volumes_length s) at h)) in
      record {
        month_most = month_range;
        rate_count = rates_length s;
        rate_range = at_every RateInRange n.rates (pos 0) (omega arith) (λ i h. rates_in_range i (rw (rates_length s) at h));
        volume_count = volumes_length s;
        volume_most = volume_most;
        total_least = traded;
        total_most = omega (arith, total_at_most 1_000_000 n.volumes volume_most, volumes_length s, volumes_most layout.profile);
        ultimate_most = ultimate_range;
        limit_least = limit_range.0;
        limit_most = limit_range.1;
        phase_in_least = phase_in_range.0;
        phase_in_most = phase_in_range.1;
        adjustment_size = adjustment_most;
        adjusts_euro = adjusted_euro;
      }

pub read_bounds : (s : List ℕ) (n : Numbers) → read_sheet s ≡ done n → NumbersInRange n
read_bounds s n e =
    let p = read_passes s n e in
    subst NumbersInRange p.numbers (numbers_in_range s p.inside p.traded)
