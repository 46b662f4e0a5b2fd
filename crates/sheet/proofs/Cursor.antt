-- The cursor along a sheet: each record starts after the bytes of those before it.
use mathlib.Core.Path.{◌≡◌, refl, sym}
use mathlib.Core.List.{List, [], ◌∷◌}
use Prim.Native.Nat.{ℕ, zero, suc, ◌+◌, ◌≤◌, ◌<◌}
use native.Mathlib.Nat.{not-suc-le-zero, le_of_suc-le-suc}
use native.Mathlib.Numerals.{add-one}
use native.Mathlib.Omega.{arith}
use lib.ListN.{length, take, get_or}
use Rattle.method.specs.Sheet as method
use Rattle.method.specs.Sheet.{body_length, total, bytes_of, Layout, entries_of, size_of}
use Rattle.method.specs.Sheet.{Slot, slots_from, slots_of, slot, no_slot, slot_at}
use Rattle.sheet.specs.declared.Entry.{Entry}
use Rattle.sheet.specs.Views.{as_kind}
use Rattle.sheet.specs.Records.{Due}

-- a record starts after the bytes of those before it
starts : (s : ℕ) (es : List method.Entry) (i : ℕ) → i < length (slots_from s es) → (get_or (slots_from s es) i no_slot).start ≡ s + bytes_of (take i es)
unfolding total bytes_of slots_from
starts s [] i h = absurd (not-suc-le-zero h)
starts s (e ∷ es) zero h = omega arith
starts s (e ∷ es) (suc i) h = omega (arith, starts (s + 1 + body_length e.kind) es i (le_of_suc-le-suc h))

-- and adds its kind byte and its body
adds : (s : ℕ) (es : List method.Entry) (i : ℕ) → i < length (slots_from s es) →
    bytes_of (take (suc i) es) ≡ bytes_of (take i es) + 1 + body_length (get_or (slots_from s es) i no_slot).kind
unfolding total bytes_of slots_from
adds s [] i h = absurd (not-suc-le-zero h)
adds s (e ∷ es) zero h = omega arith
adds s (e ∷ es) (suc i) h = omega (arith, adds (s + 1 + body_length e.kind) es i (le_of_suc-le-suc h))

front_most : (es : List method.Entry) (i : ℕ) → bytes_of (take i es) ≤ bytes_of es
unfolding total bytes_of
front_most es zero = omega arith
front_most [] (suc i) = omega arith
front_most (e ∷ es) (suc i) = omega (arith, front_most es i)

module _ (l : Layout) where
  -- the byte that the cursor stands at, before record i
  abbrev pub cursor : ℕ → ℕ
  cursor i = bytes_of (take i (entries_of l))

  pub cursor_first : cursor 0 ≡ 0
  unfolding total bytes_of
  cursor_first = refl

  pub cursor_start : (i : ℕ) → i < length (slots_of l) → (slot_at l i).start ≡ cursor i
  unfolding slots_of
  cursor_start i h = omega (arith, starts 0 (entries_of l) i h)

  pub cursor_next : (i : ℕ) → i < length (slots_of l) → cursor (i + 1) ≡ cursor i + 1 + body_length (slot_at l i).kind
  unfolding slots_of
  cursor_next i h = rw (add-one i) (adds 0 (entries_of l) i h)

  pub cursor_most : (i : ℕ) → cursor i ≤ size_of l
  unfolding size_of
  cursor_most i = front_most (entries_of l) i

  -- an entry that is due, at the cursor, is the slot
  pub slot_here : (e : Entry) (i start : ℕ) → Due l i e → i < length (slots_of l) → start ≡ cursor i →
      slot (as_kind e.kind) e.maturity start ≡ slot_at l i
  slot_here e i start d h at = rw (d.kind h, d.maturity h, at, ← cursor_start i h)

  -- after it the cursor stands at the next
  pub slot_end : (t : Slot) (i : ℕ) → i < length (slots_of l) → t ≡ slot_at l i → t.start + 1 + body_length t.kind ≡ cursor (i + 1)
  slot_end t i h e = rw (e, cursor_start i h) (sym (cursor_next i h))
