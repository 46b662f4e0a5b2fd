-- What code that tries a shift may count on: its size, and numbers in their ranges where the quotes stay inside theirs.
use mathlib.Core.Path.{◌≡◌, refl, ap, ◌∙◌}
use mathlib.Core.Bool.{true, false}
use mathlib.Core.List.{List}
use Prim.Native.Nat.{ℕ, ◌+◌, ◌≤◌}
use native.Mathlib.Omega.{arith}
use borrow.Author.Tests.{ltb-true, ltb-false, leb-true, leb-false}
use lib.Dec.{ltb}
use lib.IntN.{ℤ, pos, nat_abs, ◌+ℤ◌}
use lib.Signed.{le_z}
use lib.ListN.{length, get_or, length-map, get_or-eq_default}
use Rattle.std.proofs.lemmas.Int.{ints}
use Rattle.method.specs.Sheet.{Numbers}
use Rattle.method.specs.Ranges.{RateInRange, NumbersInRange}
use Rattle.method.proofs.Outcome.{split}
use Rattle.method.proofs.SheetBounds.{integer_range}
use Rattle.shift.specs.Shift.{shifted_rates, shifted, quotes_inside, shift_at}
use Rattle.rounding.proofs.Machine.{stored, stored_is}
use Rattle.shift.proofs.Ranges.{inside_each}

pub shift_size : (i : ℕ) → i ≤ 1_000 → nat_abs (shift_at i) ≤ 500
shift_size i h =
    split (ltb i 500)
    (λ q. let low = ltb-true i 500 q in rw q (omega arith))
    (λ q. let high = ltb-false i 500 q in rw q (omega arith))

-- in a loop that counts shifts up: those that are not above the last, the first that is, and the next one in 64 bits

pub not_past : (i : ℕ) → i ≤ 1_001 → le_z (shift_at i) (pos 500) ≡ true → i ≤ 1_000
not_past i h e =
    split (ltb i 500)
    (λ q. omega (arith, ltb-true i 500 q))
    (λ q. let high = ltb-false i 500 q in let to = leb-true _ _ (rw q at e) in omega arith)

pub past : (i : ℕ) → le_z (shift_at i) (pos 500) ≡ false → 1_001 ≤ i
past i e =
    split (ltb i 500)
    (λ q. let low = rw q at e in absurd cc)
    (λ q. let high = ltb-false i 500 q in let to = leb-false _ _ (rw q at e) in omega arith)

one_more : (i : ℕ) → shift_at i +ℤ pos 1 ≡ shift_at (i + 1)
one_more i = omega (arith, ints)

pub shift_next : (i : ℕ) → i ≤ 1_000 → stored (shift_at i +ℤ pos 1) ≡ shift_at (i + 1)
shift_next i h = ap stored (one_more i) ∙ stored_is (shift_at (i + 1)) {M = 501} size tt
  where
    size : nat_abs (shift_at (i + 1)) ≤ 501
    size =
        split (ltb (i + 1) 500)
        (λ q. let low = ltb-true (i + 1) 500 q in rw q (omega arith))
        (λ q. let high = ltb-false (i + 1) 500 q in rw q (omega arith))

-- past the end stands 0, which is inside too
quotes_in_range : (zs : List ℤ) → quotes_inside zs ≡ true → (i : ℕ) → RateInRange (get_or zs i (pos 0))
quotes_in_range zs e i =
    split (ltb i (length zs))
    (λ t. integer_range _ (inside_each zs e i (ltb-true i (length zs) t)))
    (λ t. rw (get_or-eq_default zs (pos 0) {n = i} (ltb-false i (length zs) t)) (integer_range (pos 0) refl))

pub shifted_in_range : (s : ℤ) (n : Numbers) → NumbersInRange n → quotes_inside (shifted_rates s n.rates) ≡ true → NumbersInRange (shifted s n)
unfolding shifted
shifted_in_range s n r e =
    record {
      month_most = r.month_most;
      rate_count = length-map n.rates _ ∙ r.rate_count;
      rate_range = quotes_in_range (shifted_rates s n.rates) e;
      volume_count = r.volume_count;
      volume_most = r.volume_most;
      total_least = r.total_least;
      total_most = r.total_most;
      ultimate_most = r.ultimate_most;
      limit_least = r.limit_least;
      limit_most = r.limit_most;
      phase_in_least = r.phase_in_least;
      phase_in_most = r.phase_in_most;
      adjustment_size = r.adjustment_size;
      adjusts_euro = r.adjusts_euro;
    }
