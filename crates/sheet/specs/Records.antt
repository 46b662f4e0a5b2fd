-- What the contracts say of the markets and the records, beyond the method's definitions.
use Rattle.std.specs.Prelude.{Bool, true, cond, ◌&&◌, List, ◌≡◌, ℕ, zero, suc, ◌+◌, ◌≤◌, ◌<◌, ℤ, pos, length, get_or, leb, Option, Some, None, Result}
use Rattle.std.specs.Int.Signed.{le_z}
use Rattle.method.specs.Grounds.{refused, done, unknown_profile}
use Rattle.method.specs.Sheet.{Kind, body_length, lowest, highest, Profile, profile_by, quote_count, smoothing_index, Layout, slots_of, slot_at}
use Rattle.grounds.specs.declared.Ground.{Ground}
use Rattle.grounds.specs.Answers.{outcome_of}
use Rattle.sheet.specs.declared.Profile as code
use Rattle.sheet.specs.declared.Market.{Market}
use Rattle.sheet.specs.declared.Entry.{Entry}
use Rattle.sheet.specs.declared.Slot.{Slot}
use Rattle.sheet.specs.Views.{as_profile, as_kind}

-- the profile with this code, of 1 to 3; any other is turned down (19)
abbrev pub Named : ℕ → Result code.Profile Ground → Type 0
Named n r = outcome_of as_profile r ≡ cond (leb 1 n && leb n 3) (done (profile_by n)) (refused unknown_profile)

-- a profile's market, and the ranges that code above may count on
pub record MarketOf (p : Profile) (m : Market) : Type 0 where
  pub quotes : m.quotes ≡ quote_count p
  pub smoothing : m.smoothing ≡ smoothing_index p
  pub most : m.quotes ≤ 17
  pub late : 9 ≤ m.smoothing
  pub inside : m.smoothing < m.quotes
  pub volumes : m.quotes ≤ m.smoothing + 5

-- what is due at index i, where the layout has it
pub record Due (l : Layout) (i : ℕ) (e : Entry) : Type 0 where
  pub kind : i < length (slots_of l) → as_kind e.kind ≡ (slot_at l i).kind
  pub maturity : i < length (slots_of l) → e.maturity ≡ (slot_at l i).maturity

-- the byte after the record's last
abbrev pub end_of : Slot → ℕ
end_of t = t.start + 1 + body_length (as_kind t.due.kind)

-- a number in the range of its kind
abbrev pub in_kind : Kind → ℤ → Bool
in_kind k z = le_z (lowest k) z && le_z z (highest k)

-- as many numbers as the layout has slots, each in the range of its slot
pub record AllInside (l : Layout) (zs : List ℤ) : Type 0 where
  pub count : length zs ≡ length (slots_of l)
  pub inside : (i : ℕ) → i < length (slots_of l) → in_kind (slot_at l i).kind (get_or zs i (pos 0)) ≡ true

-- numbers of one kind, each in range
pub record Run (k : Kind) (zs : List ℤ) : Type 0 where
  pub inside : (i : ℕ) → i < length zs → in_kind k (get_or zs i (pos 0)) ≡ true

-- the place of a first failure where there is one: the definition counts from 1, and answers 0 where there is none
abbrev pub found : ℕ → Option ℕ
found zero = None
found (suc place) = Some (suc place)
