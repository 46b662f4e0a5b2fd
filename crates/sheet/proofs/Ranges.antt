-- What the ranges that passed say of the numbers.
use mathlib.Core.Path.{◌≡◌, refl}
use mathlib.Core.Bool.{true}
use mathlib.Core.List.{List}
use Prim.Native.Nat.{ℕ, ◌+◌, ◌≤◌, ◌<◌}
use native.Mathlib.Omega.{arith}
use lib.IntN.{ℤ, pos}
use lib.ListN.{length, take, drop, get_or, length-map}
use Rattle.method.specs.Sheet.{rate, quote_count, Layout, layout_of, Slot, slots_of, slot_at, in_range, rate_index, all_numbers}
use Rattle.method.proofs.Filling.{part_length, part_at}
use Rattle.method.proofs.Slots.{slots_least, rate_slot, none_fails, number_at}
use Rattle.method.proofs.Reading.{first_outside}
use Rattle.sheet.specs.Records.{in_kind, AllInside, Run}

pub all_inside : (s : List ℕ) → first_outside s ≡ 0 → AllInside (layout_of s) (all_numbers s)
all_inside s e =
    record {
      count = simp length-map;
      inside = λ i h. rw (number_at s i _ h refl) (none_fails (in_range s) 0 (slots_of (layout_of s)) e i h);
    }

inside_at : (l : Layout) (zs : List ℤ) → AllInside l zs → (i : ℕ) (t : Slot) → i < length (slots_of l) → slot_at l i ≡ t →
    in_kind t.kind (get_or zs i (pos 0)) ≡ true
inside_at l zs all i t h e = rw (← e) (all.inside i h)

-- each rate stands in the slot of one
pub rate_run : (l : Layout) (zs : List ℤ) → AllInside l zs → Run rate (take (quote_count l.profile) (drop (rate_index l) zs))
rate_run l zs all =
    let many : rate_index l + quote_count l.profile ≤ length zs = omega (arith, all.count, slots_least l) in
    record {
      inside = λ i h.
          let few : i < quote_count l.profile = rw part_length at h in
          rw (part_at (rate_index l) (quote_count l.profile) zs i (pos 0) few)
          (inside_at l zs all (rate_index l + i) _ (omega (arith, slots_least l)) (rate_slot l i few));
    }
