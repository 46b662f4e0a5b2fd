-- One quote, moved in 64 bits and kept in 16; and quotes inside their range, those from an index on.
use mathlib.Core.Path.{◌≡◌, ap, ◌∙◌}
use mathlib.Core.Bool.{true, false}
use mathlib.Core.List.{List, ◌∷◌}
use Prim.Native.Nat.{ℕ, ◌+◌, ◌≤◌, ◌<◌}
use native.Mathlib.Numerals.{add-one}
use native.Mathlib.Omega.{arith}
use lib.IntN.{ℤ, pos, nat_abs, ◌+ℤ◌}
use lib.ListN.{length, drop, get_or, drop_of_length-le}
use lib.Seq.{drop-cons}
use lib.Signed.{nat_abs-le}
use mir.Syntax.{w16, w64}
use mir.Val.{SFits, of_z, to_z}
use mir.ValLaws.{to_z-of_z}
use Rattle.method.specs.Ranges.{RateInRange}
use Rattle.method.proofs.SheetBounds.{integer_range}
use Rattle.shift.specs.Shift.{quotes_inside}
use Rattle.shift.proofs.Ranges.{inside, inside_first}
use Rattle.rounding.proofs.Machine.{stored, Computed, integer, given, held, plus, fits, read}

-- ---- one quote

-- 16 bits hold one that is inside its range
rate_fits : {z : ℤ} → RateInRange z → SFits w16 z
rate_fits r = record { sfits = omega (arith, r.small) }

abbrev kept : ℤ → ℤ
kept z = to_z w16 (of_z w16 z)

module _ (z s : ℤ) (range : RateInRange z) (few : nat_abs s ≤ 500) where
  kept_is : kept z ≡ z
  kept_is = to_z-of_z w16 z (rate_fits range)

  -- read from the array
  abbrev quote : Computed
  quote = given (kept z) {z = z} 12_001 kept_is (rw kept_is (nat_abs-le z (omega (arith, range.small))))

  abbrev moved : Computed
  moved = plus (held quote tt) (held (integer s 500 few) tt)

  pub quote_fits : SFits w64 (kept z)
  quote_fits = fits quote tt

  pub moved_fits : SFits w64 (stored (kept z) +ℤ stored s)
  moved_fits = fits moved tt

  pub moved_is : stored (stored (kept z) +ℤ stored s) ≡ z +ℤ s
  moved_is = read moved tt

  -- put back, where it stays inside
  module _ (e : inside (z +ℤ s) ≡ true) where
    pub back_fits : SFits w16 (stored (stored (kept z) +ℤ stored s))
    back_fits = rw moved_is (rate_fits (integer_range (z +ℤ s) e))

    pub back_is : kept (stored (stored (kept z) +ℤ stored s)) ≡ z +ℤ s
    back_is = to_z-of_z w16 _ back_fits ∙ moved_is

-- ---- the quotes from index i on

module _ (zs : List ℤ) (i : ℕ) where
  from_here : i < length zs → drop i zs ≡ get_or zs i (pos 0) ∷ drop (i + 1) zs
  from_here h = rw (add-one i) (drop-cons zs i (pos 0) h)

  pub inside_here : i < length zs → inside (get_or zs i (pos 0)) ≡ true → quotes_inside (drop i zs) ≡ quotes_inside (drop (i + 1) zs)
  inside_here h e = ap quotes_inside (from_here h) ∙ inside_first (get_or zs i (pos 0)) (drop (i + 1) zs) ∙ rw e

  pub outside_here : i < length zs → inside (get_or zs i (pos 0)) ≡ false → quotes_inside (drop i zs) ≡ false
  outside_here h e = ap quotes_inside (from_here h) ∙ inside_first (get_or zs i (pos 0)) (drop (i + 1) zs) ∙ rw e

  pub inside_end : length zs ≤ i → quotes_inside (drop i zs) ≡ true
  unfolding quotes_inside
  inside_end h = rw (drop_of_length-le zs {i = i} h)
