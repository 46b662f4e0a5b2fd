-- A sheet whose length and kinds are right, read by the offsets of its bytes, has the numbers of its records: field by field, each by the slot
-- that its record stands in, for every layout.
use mathlib.Core.Path.{◌≡◌, refl, ap, ap₂, sym, ◌∙◌}
use mathlib.Core.Bool.{Bool, true, false, cond}
use mathlib.Core.List.{List, map}
use Prim.Native.Nat.{ℕ, zero, suc, ◌+◌, ◌*◌, ◌-◌, ◌≤◌, ◌<◌}
use native.Mathlib.Numerals.{add-one}
use native.Mathlib.Omega.{arith}
use borrow.Author.Tests.{ne_eqb, eqb-true, le-leb, lt-leb, lt-ltb, le-ltb, ltb-true, ltb-false}
use lib.Dec.{eqb, ltb, leb}
use lib.IntN.{ℤ, pos, nat_abs, ◌-ℤ◌, +ℤ_idr}
use lib.ListN.{length, take, drop, get_or, length-map, length-take, length-drop, get_or-map}
use lib.Seq.{drop-cons, ext_get_or, get_or-take, get_or-drop}
use Rattle.method.specs.Bytes.{big_endian}
use Rattle.method.specs.Sheet.{rate, volume, adjustment, kind_byte, Profile, quote_count, volume_count, names_profile, profile_of}
use Rattle.method.specs.Sheet.{Layout, layout_of, size_of, Slot, slot, no_slot, slot_at, slots_of, twos_complement16, number_of_record}
use Rattle.method.specs.Sheet.{right_record, first_failure, month_index, rate_index, volume_index, ultimate_index, Numbers, numbers_of, sheet_numbers}
use Rattle.method.proofs.Outcome.{split, both_true}
use Rattle.method.proofs.Entries.{map_at}
use Rattle.method.proofs.Reading.{first_wrong}
use Rattle.method.proofs.Slots.{lead_bytes, rate_start, volume_start, ultimate_start, last_start, size_is, slots_least, slots_phased, slots_adjusts}
use Rattle.method.proofs.Slots.{month_slot, rate_slot, volume_slot, ultimate_slot, limit_slot, phase_in_slot, adjustment_slot, none_fails}
use Rattle.method.proofs.Layouts.{layout_by, first_bytes, by_layout}
use Rattle.ledger.specs.Count.{byte2, byte4, market_number, rates_of, volumes_of, market_named, month_start, volumes_start, volumes_end, limit_end}
use Rattle.ledger.specs.Count.{limit_of, rate_at, offsets, phase_in_of, has_adjustment, adjustment_of, typed}

-- from 32,768 on, 65,536 less
twos_is : (n : ℕ) → twos_complement16 n ≡ pos n -ℤ pos (cond (leb 32_768 n) 65_536 0)
twos_is n =
    split (ltb n 32_768)
    (λ q. rw (q, lt-leb 32_768 n (ltb-true n 32_768 q)) (sym (+ℤ_idr (pos n))))
    (λ q. rw (q, le-leb 32_768 n (ltb-false n 32_768 q)))

-- ---- offsets

offsets-length : (a d n : ℕ) → length (offsets a d n) ≡ n
unfolding offsets
offsets-length a d zero = refl
offsets-length a d (suc n) = ap suc (offsets-length (a + d) d n)

offsets_at : (a d n i : ℕ) → i < n → get_or (offsets a d n) i 0 ≡ a + d * i
unfolding offsets
offsets_at a d zero i h = absurd (omega arith)
offsets_at a d (suc n) zero h = omega arith
offsets_at a d (suc n) (suc i) h = offsets_at (a + d) d n i (omega arith) ∙ omega arith

-- numbers at equal distances, whatever list they were found in
at_offsets : {A : Type 0} (e : A) (f : ℕ → A) (a d n : ℕ) (zs : List A) → length zs ≡ n → ((i : ℕ) → i < n → get_or zs i e ≡ f (a + d * i)) →
    zs ≡ map f (offsets a d n)
at_offsets e f a d n zs long each =
    ext_get_or e zs _ (long ∙ sym (length-map (offsets a d n) f ∙ offsets-length a d n))
    λ i h.
    let inside : i < n = rw long at h in
    each i inside ∙ ap f (sym (offsets_at a d n i inside)) ∙ sym (map_at f (offsets a d n) i 0 e (rw (offsets-length a d n) inside))

-- ---- the bytes of one number

module _ (s : List ℕ) where
  two_at : (i : ℕ) → i + 2 ≤ length s → big_endian 0 (take 2 (drop i s)) ≡ byte2 s i
  unfolding big_endian
  two_at i h = rw (drop-cons s i 0 (omega arith), drop-cons s (suc i) 0 (omega arith), add-one i) (omega arith)

  four_at : (i : ℕ) → i + 4 ≤ length s → big_endian 0 (take 4 (drop i s)) ≡ byte4 s i
  unfolding big_endian
  four_at i h =
      let two : i + 2 ≡ suc (suc i) = omega arith in
      let three : i + 3 ≡ suc (suc (suc i)) = omega arith in
      let first = drop-cons s i 0 (omega arith) in
      let second = drop-cons s (suc i) 0 (omega arith) in
      let third = drop-cons s (suc (suc i)) 0 (omega arith) in
      let fourth = drop-cons s (suc (suc (suc i))) 0 (omega arith) in
      rw (first, second, third, fourth, add-one i, two, three) (omega arith)

  -- behind a maturity
  behind : (n i : ℕ) → i < length s → drop 1 (take (suc n) (drop i s)) ≡ take n (drop (i + 1) s)
  behind n i h = rw (drop-cons s i 0 h, add-one i)

  -- ---- one record

  rate_number : (m a : ℕ) → a + 4 ≤ length s → number_of_record s (slot rate m a) ≡ rate_at s (a + 2)
  rate_number m a h =
      let next : a + 1 + 1 ≡ a + 2 = omega arith in
      rw (behind 2 (a + 1) (omega arith), next, two_at (a + 2) (omega arith)) (twos_is (byte2 s (a + 2)))

  volume_number : (m a : ℕ) → a + 6 ≤ length s → number_of_record s (slot volume m a) ≡ pos (byte4 s (a + 2))
  volume_number m a h =
      let next : a + 1 + 1 ≡ a + 2 = omega arith in
      rw (behind 4 (a + 1) (omega arith), next, four_at (a + 2) (omega arith))

  adjustment_number : (a : ℕ) → a + 3 ≤ length s → number_of_record s (slot adjustment 0 a) ≡ rate_at s (a + 1)
  adjustment_number a h = rw (two_at (a + 1) (omega arith)) (twos_is (byte2 s (a + 1)))

  -- ---- the numbers of a layout's records, where the bytes reach that far

  module _ (l : Layout) (long : last_start l.led l.profile ≤ length s) where
    abbrev zs : List ℤ
    zs = map (number_of_record s) (slots_of l)

    number_in : (i : ℕ) (t : Slot) → i < length (slots_of l) → slot_at l i ≡ t → get_or zs i (pos 0) ≡ number_of_record s t
    number_in i t h e = rw (← e) (map_at (number_of_record s) (slots_of l) i no_slot (pos 0) h)

    month_is : nat_abs (get_or zs (month_index l) (pos 0)) ≡ byte2 s (lead_bytes l.led + 1)
    month_is =
        let start = lead_bytes l.led in
        ap nat_abs (number_in (month_index l) _ (omega (arith, slots_least l)) (month_slot l)) ∙ two_at (start + 1) (omega arith)

    rates_are : take (quote_count l.profile) (drop (rate_index l) zs) ≡ map (rate_at s) (offsets (rate_start l.led + 2) 4 (quote_count l.profile))
    rates_are =
        at_offsets (pos 0) (rate_at s) (rate_start l.led + 2) 4 (quote_count l.profile) _
        (simp (length-take, length-drop, length-map) (omega (arith, slots_least l)))
        λ i h.
        let a = rate_start l.led + 4 * i in
        let here : a + 2 ≡ rate_start l.led + 2 + 4 * i = omega arith in
        get_or-take (quote_count l.profile) (drop (rate_index l) zs) i (pos 0) h ∙ get_or-drop (rate_index l) zs i (pos 0)
        ∙ number_in (rate_index l + i) _ (omega (arith, slots_least l)) (rate_slot l i h)
        ∙ rate_number 0 a (omega arith)
        ∙ ap (rate_at s) here

    volumes_are :
        map nat_abs (take (volume_count l.profile) (drop (volume_index l) zs)) ≡
        map (byte4 s) (offsets (volume_start l.led l.profile + 2) 6 (volume_count l.profile))
    volumes_are =
        at_offsets 0 (byte4 s) (volume_start l.led l.profile + 2) 6 (volume_count l.profile) _
        (simp (length-take, length-drop, length-map) (omega (arith, slots_least l)))
        λ i h.
        let a = volume_start l.led l.profile + 6 * i in
        let here : a + 2 ≡ volume_start l.led l.profile + 2 + 6 * i = omega arith in
        get_or-map nat_abs (take (volume_count l.profile) (drop (volume_index l) zs)) i (pos 0)
        ∙ ap nat_abs
        (get_or-take (volume_count l.profile) (drop (volume_index l) zs) i (pos 0) h ∙ get_or-drop (volume_index l) zs i (pos 0)
        ∙ number_in (volume_index l + i) _ (omega (arith, slots_least l)) (volume_slot l i h)
        ∙ volume_number 0 a (omega arith))
        ∙ ap (byte4 s) here

    ultimate_is : nat_abs (get_or zs (ultimate_index l) (pos 0)) ≡ byte2 s (ultimate_start l.led l.profile + 1)
    ultimate_is =
        let start = ultimate_start l.led l.profile in
        ap nat_abs (number_in (ultimate_index l) _ (omega (arith, slots_least l)) (ultimate_slot l)) ∙ two_at (start + 1) (omega arith)

    limit_is : nat_abs (get_or zs (ultimate_index l + 1) (pos 0)) ≡ byte4 s (ultimate_start l.led l.profile + 4)
    limit_is =
        let start = ultimate_start l.led l.profile in
        let next : start + 3 + 1 ≡ start + 4 = omega arith in
        ap nat_abs (number_in (ultimate_index l + 1) _ (omega (arith, slots_least l)) (limit_slot l))
        ∙ ap (λ (i : ℕ). big_endian 0 (take 4 (drop i s))) next
        ∙ four_at (start + 4) (omega arith)

    phase_in_is : l.phased ≡ true → last_start l.led l.profile + 3 ≤ length s →
        nat_abs (get_or zs (ultimate_index l + 2) (pos 0)) ≡ byte2 s (last_start l.led l.profile + 1)
    phase_in_is e more =
        ap nat_abs (number_in (ultimate_index l + 2) _ (omega (arith, slots_phased l e)) (phase_in_slot l e))
        ∙ two_at (last_start l.led l.profile + 1) (omega arith)

    -- the adjustment's record, which is the last, starts at a
    adjustment_is : (a : ℕ) → l.adjusts ≡ true → last_start l.led l.profile + cond l.phased 3 0 ≡ a → a + 3 ≤ length s →
        get_or zs (length zs - 1) (pos 0) ≡ rate_at s (a + 1)
    adjustment_is a e start more =
        let i : ℕ = ultimate_index l + 2 + cond l.phased 1 0 in
        let last : length zs - 1 ≡ i = omega (arith, length-map (slots_of l) (number_of_record s), slots_adjusts l e) in
        ap (λ (k : ℕ). get_or zs k (pos 0)) last
        ∙ number_in i _ (omega (arith, slots_adjusts l e)) (adjustment_slot l e ∙ ap (slot adjustment 0) start)
        ∙ adjustment_number a more

  -- ---- the market, in the count's words

  lead_is : lead_bytes (names_profile s) ≡ month_start s
  lead_is = refl

  market_is : profile_of s ≡ market_named (market_number s)
  market_is = split (eqb (get_or s 0 0) 0x08) (λ t. rw t refl) (λ t. rw t refl)

  quotes_are : (m : ℕ) → quote_count (market_named m) ≡ rates_of m
  quotes_are m = split (eqb m 2) (λ t. rw t refl) (λ t. split (eqb m 3) (λ u. rw (t, u) refl) (λ u. rw (t, u) refl))

  volumes_of_lem : (m : ℕ) → volume_count (market_named m) ≡ volumes_of m
  volumes_of_lem m = split (eqb m 2) (λ t. rw t refl) (λ t. split (eqb m 3) (λ u. rw (t, u) refl) (λ u. rw (t, u) refl))

  -- ---- the sheet

  -- the kind byte that a slot asks for stands where it starts
  kind_at : (l : Layout) (i : ℕ) (t : Slot) → first_failure (right_record s) 1 (slots_of l) ≡ 0 → i < length (slots_of l) → slot_at l i ≡ t →
      eqb (get_or s t.start 0) (kind_byte t.kind) ≡ true
  kind_at l i t right h e =
      let here : right_record s t ≡ true = rw (← e) (none_fails (right_record s) 0 (slots_of l) right i h) in
      (both_true (eqb (get_or s t.start 0) (kind_byte t.kind)) _ here).0

  module _ (l : Layout) (right : first_failure (right_record s) 1 (slots_of l) ≡ 0) where
    phase_in_named : l.phased ≡ true → eqb (get_or s (last_start l.led l.profile) 0) 0x06 ≡ true
    phase_in_named e = kind_at l (ultimate_index l + 2) _ right (omega (arith, slots_phased l e)) (phase_in_slot l e)

    adjustment_named : l.adjusts ≡ true → eqb (get_or s (last_start l.led l.profile + cond l.phased 3 0) 0) 0x07 ≡ true
    adjustment_named e = kind_at l (ultimate_index l + 2 + cond l.phased 1 0) _ right (omega (arith, slots_adjusts l e)) (adjustment_slot l e)

  -- hex 06 is not hex 07
  one_kind : (b k m : ℕ) → (k ≡ m → ⊥) → eqb b k ≡ true → eqb b m ≡ false
  one_kind b k m other e = ne_eqb b m (λ h. other (sym (eqb-true b k e) ∙ h))

  abbrev Read : Layout → Type 0
  Read l = length s ≡ size_of l → first_failure (right_record s) 1 (slots_of l) ≡ 0 → numbers_of l (map (number_of_record s) (slots_of l)) ≡ typed s

  abbrev with_all : Profile → ℕ → List ℤ → List ℕ → ℕ → ℕ → ℕ → Bool → ℤ → Numbers
  with_all p m rs vs u k x adjusts a =
      record { profile = p; month = m; rates = rs; volumes = vs; ultimate = u; limit = k; phase_in = x; adjusts = adjusts; adjustment = a }

  same_numbers : {p q : Profile} {m n : ℕ} {rs ts : List ℤ} {vs ws : List ℕ} {u v k j x y : ℕ} {b c : Bool} {a z : ℤ} →
      p ≡ q → m ≡ n → rs ≡ ts → vs ≡ ws → u ≡ v → k ≡ j → x ≡ y → b ≡ c → a ≡ z → with_all p m rs vs u k x b a ≡ with_all q n ts ws v j y c z
  same_numbers e1 e2 e3 e4 e5 e6 e7 e8 e9 = cc

  rate_count : quote_count (profile_of s) ≡ rates_of (market_number s)
  rate_count = ap (λ (p : Profile). quote_count p) market_is ∙ quotes_are (market_number s)

  volume_count_lem : volume_count (profile_of s) ≡ volumes_of (market_number s)
  volume_count_lem = ap (λ (p : Profile). volume_count p) market_is ∙ volumes_of_lem (market_number s)

  volumes_start_lem : volume_start (names_profile s) (profile_of s) ≡ volumes_start s
  volumes_start_lem = ap (λ (q : ℕ). month_start s + 3 + 4 * q) rate_count

  volumes_end_lem : ultimate_start (names_profile s) (profile_of s) ≡ volumes_end s
  volumes_end_lem = omega (arith, volumes_start_lem, volume_count_lem)

  limit_end_lem : first_bytes s ≡ limit_end s
  limit_end_lem = ap (λ (n : ℕ). n + 8) volumes_end_lem

  -- all but what follows the limit's record, whatever that is
  module _ (phased adjusts : Bool) (long : first_bytes s ≤ length s) where
    abbrev l : Layout
    l = layout_by s phased adjusts

    abbrev numbers : Numbers
    numbers = numbers_of l (map (number_of_record s) (slots_of l))

    rates_typed : numbers.rates ≡ map (rate_at s) (offsets (month_start s + 5) 4 (rates_of (market_number s)))
    rates_typed =
        let start : rate_start (names_profile s) + 2 ≡ month_start s + 5 = omega arith in
        rates_are l long ∙ ap₂ (λ (a n : ℕ). map (rate_at s) (offsets a 4 n)) start rate_count

    volumes_typed : numbers.volumes ≡ map (byte4 s) (offsets (volumes_start s + 2) 6 (volumes_of (market_number s)))
    volumes_typed = volumes_are l long ∙ ap₂ (λ (a n : ℕ). map (byte4 s) (offsets (a + 2) 6 n)) volumes_start_lem volume_count_lem

    ultimate_typed : numbers.ultimate ≡ byte2 s (volumes_end s + 1)
    ultimate_typed = ultimate_is l long ∙ ap (λ (a : ℕ). byte2 s (a + 1)) volumes_end_lem

    limit_typed : numbers.limit ≡ limit_of s
    limit_typed = limit_is l long ∙ ap (λ (a : ℕ). byte4 s (a + 4)) volumes_end_lem

    -- and so are those that follow the limit's record
    typed_by : numbers.phase_in ≡ phase_in_of s → adjusts ≡ has_adjustment s → numbers.adjustment ≡ adjustment_of s → numbers ≡ typed s
    unfolding typed
    typed_by x a z = same_numbers market_is (month_is l long) rates_typed volumes_typed ultimate_typed limit_typed x a z

  pub typed_is : length s ≡ size_of (layout_of s) → first_wrong s ≡ 0 → sheet_numbers s ≡ typed s
  typed_is = by_layout s Read (λ h. neither) (λ h few. phase_in_last) (λ h few a n. adjustment_alone) (λ h a. both)
    where
      neither : Read (layout_by s false false)
      neither size right =
          let e : length s ≡ limit_end s = size ∙ size_is (layout_by s false false) ∙ omega (arith, limit_end_lem) in
          let none = le-ltb (limit_end s) (length s) (omega arith) in
          typed_by false false (omega (arith, limit_end_lem)) (rw none refl) (rw none refl) (rw none refl)

      phase_in_last : Read (layout_by s true false)
      phase_in_last size right =
          let e : length s ≡ limit_end s + 3 = size ∙ size_is (layout_by s true false) ∙ omega (arith, limit_end_lem) in
          let some = lt-ltb (limit_end s) (length s) (omega arith) in
          let kind : eqb (get_or s (limit_end s) 0) 0x06 ≡ true = rw limit_end_lem at (phase_in_named (layout_by s true false) right refl) in
          let last : length s - 3 ≡ limit_end s = omega arith in
          let other = one_kind (get_or s (limit_end s) 0) 0x06 0x07 (λ h. omega arith) kind in
          let x = phase_in_is (layout_by s true false) (omega (arith, limit_end_lem)) refl (omega (arith, limit_end_lem)) in
          typed_by true false (omega (arith, limit_end_lem)) (rw (some, kind) (x ∙ ap (λ (a : ℕ). byte2 s (a + 1)) limit_end_lem))
          (rw (some, last, other) refl) (rw (some, last, other) refl)

      adjustment_alone : Read (layout_by s false true)
      adjustment_alone size right =
          let e : length s ≡ limit_end s + 3 = size ∙ size_is (layout_by s false true) ∙ omega (arith, limit_end_lem) in
          let some = lt-ltb (limit_end s) (length s) (omega arith) in
          let start : first_bytes s + 0 ≡ limit_end s = omega (arith, limit_end_lem) in
          let kind : eqb (get_or s (limit_end s) 0) 0x07 ≡ true = rw start at (adjustment_named (layout_by s false true) right refl) in
          let last : length s - 3 ≡ limit_end s = omega arith in
          let number : length s - 2 ≡ limit_end s + 1 = omega arith in
          let other = one_kind (get_or s (limit_end s) 0) 0x07 0x06 (λ h. omega arith) kind in
          let z = adjustment_is (layout_by s false true) (omega (arith, limit_end_lem)) (limit_end s) refl start (omega arith) in
          typed_by false true (omega (arith, limit_end_lem)) (rw (some, other) refl) (rw (some, last, kind) refl) (rw (some, last, kind, number) z)

      both : Read (layout_by s true true)
      both size right =
          let e : length s ≡ limit_end s + 6 = size ∙ size_is (layout_by s true true) ∙ omega (arith, limit_end_lem) in
          let some = lt-ltb (limit_end s) (length s) (omega arith) in
          let start : first_bytes s + 3 ≡ limit_end s + 3 = omega (arith, limit_end_lem) in
          let first : eqb (get_or s (limit_end s) 0) 0x06 ≡ true = rw limit_end_lem at (phase_in_named (layout_by s true true) right refl) in
          let second : eqb (get_or s (limit_end s + 3) 0) 0x07 ≡ true = rw start at (adjustment_named (layout_by s true true) right refl) in
          let last : length s - 3 ≡ limit_end s + 3 = omega arith in
          let number : length s - 2 ≡ limit_end s + 3 + 1 = omega arith in
          let x = phase_in_is (layout_by s true true) (omega (arith, limit_end_lem)) refl (omega (arith, limit_end_lem)) in
          let z = adjustment_is (layout_by s true true) (omega (arith, limit_end_lem)) (limit_end s + 3) refl start (omega arith) in
          typed_by true true (omega (arith, limit_end_lem)) (rw (some, first) (x ∙ ap (λ (a : ℕ). byte2 s (a + 1)) limit_end_lem))
          (rw (some, last, second) refl) (rw (some, last, second, number) z)
