-- 1 is the euro, also without the record: a sheet that names the euro is read as the same one is without the profile's record, and only
-- grounds 2 and 3 tell them apart, for each record is one later.
use mathlib.Core.Path.{◌≡◌, refl, ap, ◌∙◌}
use mathlib.Core.Bool.{Bool, true, false, cond, not, ◌&&◌, ◌||◌}
use mathlib.Core.List.{List, [], ◌∷◌, map}
use Prim.Native.Nat.{ℕ, zero, suc, ◌+◌, ◌-◌, ◌<◌}
use native.Mathlib.Omega.{arith}
use lib.Dec.{eqb, ltb, leb, leb-suc-suc, eqb-suc-zero, eqb-suc-suc}
use lib.IntN.{ℤ}
use lib.ListN.{length, get_or, length-map}
use borrow.Author.Tests.{lt-ltb}
use Rattle.method.specs.Bytes.{big_endian}
use Rattle.method.specs.Grounds.{unknown_profile, wrong_length, wrong_record, out_of_range, no_volume, Outcome, refused, done, ◌>>=◌, demand}
use Rattle.method.specs.Sheet.{euro, profile, body_length, total, Entry, entry, Layout, names_profile, profile_of, layout_of, entries_of, size_of}
use Rattle.method.specs.Sheet.{Slot, slot, slots_from, slots_of, body_of, number_of_record, right_record, in_range, first_failure}
use Rattle.method.specs.Sheet.{profile_known, Numbers, numbers_of, sheet_numbers, read_sheet}
use Rattle.method.specs.Curve.{curves_of, answer_with, answer}
use Rattle.method.specs.Earlier.{one_on_in}
use Rattle.method.proofs.Slots.{size_is, slots_least}
use Rattle.method.proofs.Layouts.{layout, layout_is}
use Rattle.method.proofs.Reading.{first_wrong, first_outside}

-- ---- slots that start two bytes later

abbrev later : Slot → Slot
later t = slot t.kind t.maturity (suc (suc t.start))

-- each record starts where the one before it ends
slots_later : (n : ℕ) (es : List Entry) → slots_from (suc (suc n)) es ≡ map later (slots_from n es)
unfolding slots_from
slots_later n [] = refl
slots_later n (e ∷ es) =
    let two : suc (suc n) + 1 + body_length e.kind ≡ suc (suc (n + 1 + body_length e.kind)) = omega arith in
    rw (two, slots_later (n + 1 + body_length e.kind) es) refl

-- behind the profile's record
slots_behind_profile : (es : List Entry) → slots_from 0 (entry profile 0 ∷ es) ≡ slot profile 0 0 ∷ map later (slots_from 0 es)
unfolding slots_from
slots_behind_profile es = ap (λ (ts : List Slot). slot profile 0 0 ∷ ts) (slots_later 0 es)

-- numbers, and the first failure of a test, where the later slots give what the slots do
numbers_later : (f g : Slot → ℤ) → ((t : Slot) → g (later t) ≡ f t) → (ts : List Slot) → map g (map later ts) ≡ map f ts
numbers_later f g same [] = refl
numbers_later f g same (t ∷ ts) = rw (same t, numbers_later f g same ts) refl

-- the place of a record, one on; 0 is none's
abbrev next : ℕ → ℕ
next zero = 0
next (suc i) = suc (suc i)

failure_later : (p q : Slot → Bool) → ((t : Slot) → q (later t) ≡ p t) → (i : ℕ) (ts : List Slot) →
    first_failure q (suc (suc i)) (map later ts) ≡ next (first_failure p (suc i) ts)
unfolding first_failure
failure_later p q same i [] = refl
failure_later p q same i (t ∷ ts) = rw (same t, failure_later p q same (suc i) ts) (go (p t) (first_failure p (suc (suc i)) ts))
  where
    go : (b : Bool) (n : ℕ) → cond b (next n) (suc (suc i)) ≡ next (cond b n (suc i))
    go true n = refl
    go false n = refl

-- ---- the euro's layouts, with the profile's record and without

module _ (phased adjusts : Bool) where
  abbrev with : Layout
  with = layout true euro phased adjusts

  abbrev without : Layout
  without = layout false euro phased adjusts

  size_with : size_of with ≡ suc (suc (size_of without))
  size_with = rw (size_is with, size_is without) (omega arith)

  slots_with : slots_of with ≡ slot profile 0 0 ∷ map later (slots_of without)
  unfolding slots_of entries_of
  slots_with = slots_behind_profile _

  -- past the profile's own record
  failure_with : (p q : Slot → Bool) → q (slot profile 0 0) ≡ true → ((t : Slot) → q (later t) ≡ p t) →
      first_failure q 1 (slots_of with) ≡ next (first_failure p 1 (slots_of without))
  unfolding first_failure
  failure_with p q own same = rw (slots_with, own) (failure_later p q same 0 (slots_of without))

  -- each number one later; the last one stays the last
  numbers_with : (z : ℤ) (zs : List ℤ) → 0 < length zs → numbers_of with (z ∷ zs) ≡ numbers_of without zs
  numbers_with z [] some = absurd (omega arith)
  numbers_with z (y ∷ zs) some =
      let last : suc (suc (length zs)) - 1 ≡ suc (suc (length zs) - 1) = omega arith in
      rw last refl

-- ---- the two sheets

module _ (s : List ℕ) where
  abbrev led : List ℕ
  led = 0x08 ∷ 0x01 ∷ s

  -- 1 is the euro
  names_euro : profile_of led ≡ euro
  names_euro = refl

  -- a record that is two bytes later has the same body, and so passes and fails the same tests, with the same number
  body_later : (t : Slot) → body_of led (later t) ≡ body_of s t
  body_later t = let two : suc (suc t.start) + 1 ≡ suc (suc (t.start + 1)) = omega arith in rw two refl

  right_later : (t : Slot) → right_record led (later t) ≡ right_record s t
  right_later t = rw body_later

  range_later : (t : Slot) → in_range led (later t) ≡ in_range s t
  range_later t = rw body_later

  number_later : (t : Slot) → number_of_record led (later t) ≡ number_of_record s t
  number_later t = rw body_later

  -- which records stand behind the limit's, where the market's own length is 109 bytes
  abbrev named : Bool
  named = eqb (get_or s 109 0) 0x07

  abbrev phased : Bool
  phased = ltb 109 (length s) && (ltb 112 (length s) || not named)

  abbrev adjusts : Bool
  adjusts = ltb 109 (length s) && (ltb 112 (length s) || named)

  -- all of it two bytes later
  layout_with : layout_of led ≡ with phased adjusts
  layout_with = rw (layout_is led, two_more 110, two_more 113)
    where
      two_more : (n : ℕ) → leb (suc (suc n)) (length led) ≡ leb n (length s)
      two_more n = leb-suc-suc (suc n) (suc (length s)) ∙ leb-suc-suc n (length s)

  -- test by test
  module _ (unnamed : names_profile s ≡ false) where
    layout_without : layout_of s ≡ without phased adjusts
    layout_without = rw (layout_is s, unnamed)

    same_known : profile_known led ≡ profile_known s
    same_known = rw (lt-ltb 1 (length led) (omega arith), unnamed)

    same_length : eqb (length led) (size_of (layout_of led)) ≡ eqb (length s) (size_of (layout_of s))
    same_length = rw (layout_with, layout_without, size_with, eqb-suc-suc, eqb-suc-suc)

    wrong_later : first_wrong led ≡ next (first_wrong s)
    wrong_later = rw (layout_with, layout_without) (failure_with phased adjusts (right_record s) (right_record led) refl right_later)

    outside_later : first_outside led ≡ next (first_outside s)
    unfolding big_endian
    outside_later = rw (layout_with, layout_without) (failure_with phased adjusts (in_range s) (in_range led) refl range_later)

    same_numbers : sheet_numbers led ≡ sheet_numbers s
    same_numbers =
        let slots = slots_of (without phased adjusts) in
        let some : 0 < length (map (number_of_record s) slots) = rw length-map (omega (arith, slots_least (without phased adjusts))) in
        rw (layout_with, layout_without, slots_with, numbers_later (number_of_record s) (number_of_record led) number_later slots)
        (numbers_with phased adjusts _ (map (number_of_record s) slots) some)

-- ---- what is read

-- a sheet is read by the tests' answers
unfoldable read_by_lem : Bool → Bool → ℕ → ℕ → Numbers → Outcome Numbers
read_by_lem known long wrong outside n = do
  _ ← demand known unknown_profile
  _ ← demand long wrong_length
  _ ← demand (eqb wrong 0) (wrong_record wrong)
  _ ← demand (eqb outside 0) (out_of_range outside)
  _ ← demand (ltb 0 (total n.volumes)) no_volume
  done n

read_by : (s : List ℕ) → read_sheet s ≡ read_by_lem (profile_known s) (eqb (length s) (size_of (layout_of s))) (first_wrong s) (first_outside s) (sheet_numbers s)
unfolding read_sheet read_by_lem
read_by s = refl

-- the first test that fails is the same one
read_one_on : (known long : Bool) (wrong outside : ℕ) (n : Numbers) →
    read_by_lem known long (next wrong) (next outside) n ≡ one_on_in (read_by_lem known long wrong outside n)
unfolding read_by_lem
read_one_on false long wrong outside n = refl
read_one_on true false wrong outside n = refl
read_one_on true true (suc i) outside n = rw (eqb-suc-zero (suc i), eqb-suc-zero i) (ap (λ (j : ℕ). refused (wrong_record j)) (omega arith))
read_one_on true true zero (suc i) n = rw (eqb-suc-zero (suc i), eqb-suc-zero i) (ap (λ (j : ℕ). refused (out_of_range j)) (omega arith))
read_one_on true true zero zero n = go (ltb 0 (total n.volumes))
  where
    go : (b : Bool) → (demand b no_volume >>= λ _. done n) ≡ one_on_in (demand b no_volume >>= λ _. done n)
    go true = refl
    go false = refl

pub also_without : (s : List ℕ) → names_profile s ≡ false → read_sheet (0x08 ∷ 0x01 ∷ s) ≡ one_on_in (read_sheet s)
also_without s unnamed =
    cc (
      read_by (0x08 ∷ 0x01 ∷ s),
      read_by s,
      same_known s unnamed,
      same_length s unnamed,
      wrong_later s unnamed,
      outside_later s unnamed,
      same_numbers s unnamed,
      read_one_on (profile_known s) (eqb (length s) (size_of (layout_of s))) (first_wrong s) (first_outside s) (sheet_numbers s),
    )

-- the curves, or the ground
pub named_euro : (s : List ℕ) → names_profile s ≡ false → answer (0x08 ∷ 0x01 ∷ s) ≡ (one_on_in (read_sheet s) >>= curves_of)
unfolding answer_with
named_euro s unnamed = rw (also_without s unnamed)
