-- LLFR and the year's forward, built of their two ends; the sizes are by the laws of the crate method.
use mathlib.Core.Path.{◌≡◌, refl, subst⁻¹, ◌∙◌}
use mathlib.Core.Bool.{Bool, true, false, beq, cond}
use mathlib.Core.List.{List, map}
use Prim.Native.Nat.{ℕ, ◌*◌, ◌^◌, ◌≤◌, ◌<◌}
use lib.IntN.{ℤ, pos, nat_abs}
use lib.ListN.{length, get_or, length-map, get_or-map}
use Rattle.std.proofs.lemmas.Simd.{map-map}
use lib.Signed.{mag, le_z}
use Rattle.fraction.specs.Rounding.{U, round_ℤ}
use Rattle.method.specs.Units as method
use Rattle.method.specs.Units.{signed_pair}
use Rattle.method.specs.Ranges.{forward_bound}
use Rattle.method.specs.Sheet.{total}
use Rattle.method.specs.Extrapolation.{llfr_numerator, llfr, blend, forward}
use Rattle.method.proofs.Size.{Within}
use Rattle.method.proofs.Forward.{llfr_bound_at, forward_bound_lem}
use Rattle.rounding.specs.Pairs.{as_signed_pair, SizeAtMost}
use Rattle.rounding.specs.Pairs.{SignedPair}
use Rattle.rounding.proofs.Machine.{stored, stored_is, returned}
use Rattle.extrapolation.specs.Extrapolated.{Forwards}
use Rattle.extrapolation.specs.Extrapolated.{as_forwards, no_forward, signed_end, outer, ForwardSizes, WeightRange}

-- ---- a pair's size, as the code and as the method have it

within : (f : SignedPair) → SizeAtMost forward_bound f → Within forward_bound (as_signed_pair f)
within f h = record { low_within = record { bound = h.low_size }; high_within = record { bound = h.high_size } }

-- by the definition that the pair is equal to
sized : (f : SignedPair) {p : method.SignedPair} → as_signed_pair f ≡ p → Within forward_bound p → SizeAtMost forward_bound f
sized f e w =
    let h = subst⁻¹ (Within forward_bound) e w in
    record { low_size = h.low_within.bound; high_size = h.high_within.bound }

-- a pair of two calls' results
abbrev pub built : ℤ → ℤ → SignedPair
built a b = record { low = stored a; high = stored b }

-- a call's result, worked from two stored ends
pub ends_read : (F : ℤ → ℤ → ℤ) (l f : ℤ) {r : ℤ} → nat_abs l ≤ forward_bound → nat_abs f ≤ forward_bound →
    r ≡ F (stored l) (stored f) → mag r < 2 ^ 63 → stored r ≡ F l f
ends_read F l f hl hf e h = returned (rw (stored_is l hl tt, stored_is f hf tt) at e) h

-- ---- LLFR

-- of either end
pub ends_sized : (up : Bool) (g : Forwards) {M : ℕ} → ForwardSizes M g → (i : ℕ) → nat_abs (get_or (map (signed_end up) g) i (pos 0)) ≤ M
ends_sized true g b i = rw (get_or-map (signed_end true) g i no_forward) (b.sizes i).high_size
ends_sized false g b i = rw (get_or-map (signed_end false) g i no_forward) (b.sizes i).low_size

module _ (vs : List ℕ) (g : Forwards) (hv : length vs ≡ 5) (hg : length g ≡ 5) where
  llfr-within : 0 < total vs → ForwardSizes forward_bound g → Within forward_bound (llfr vs (as_forwards g))
  llfr-within h b =
      llfr_bound_at vs (as_forwards g) hv (length-map g as_signed_pair ∙ hg) h
      (λ i k. rw (get_or-map as_signed_pair g i no_forward) (within (get_or g i no_forward) (b.sizes i)))

  pub llfr_is : 0 < total vs → ForwardSizes forward_bound g → (r : SignedPair) →
      r.low ≡ round_ℤ false (llfr_numerator vs (map (signed_end false) g)) (12 * total vs) →
      r.high ≡ round_ℤ true (llfr_numerator vs (map (signed_end true) g)) (12 * total vs) →
      (as_signed_pair r ≡ llfr vs (as_forwards g)) × SizeAtMost forward_bound r
  unfolding llfr
  llfr_is h b r low high =
      let lows = map-map (λ (p : method.SignedPair). p.low) as_signed_pair g in
      let highs = map-map (λ (p : method.SignedPair). p.high) as_signed_pair g in
      let e : as_signed_pair r ≡ llfr vs (as_forwards g) = rw (lows, highs, low, high) in
      (e, sized r e (llfr-within h b))

-- ---- the year's forward

-- the outer of two, by the code's test
picked : (up c : Bool) (a b : ℤ) → cond up (cond c b a) (cond c a b) ≡ cond (beq c up) b a
picked true true a b = refl
picked true false a b = refl
picked false true a b = refl
picked false false a b = refl

outer_is : (up : Bool) (a b : ℤ) → outer up a b ≡ cond (beq (le_z a b) up) b a
outer_is true a b = picked true (le_z a b) a b
outer_is false a b = picked false (le_z a b) a b

module _ (up : Bool) {a b x y : ℤ} (e : a ≡ x) (k : b ≡ y) where
  pub outer-first : beq (le_z a b) up ≡ false → a ≡ outer up x y
  outer-first t = rw (← e, ← k, outer_is up a b, t)

  pub outer_second : beq (le_z a b) up ≡ true → b ≡ outer up x y
  outer_second t = rw (← e, ← k, outer_is up a b, t)

-- an end, for κ
abbrev forward_end : Bool → ℤ → ℤ → method.Pair → ℤ
forward_end up l f κ = outer up (round_ℤ up (blend l f κ.low) U) (round_ℤ up (blend l f κ.high) U)

module _ (l f : SignedPair) (κ : method.Pair) (hl : SizeAtMost forward_bound l) (hf : SizeAtMost forward_bound f) (hκ : WeightRange κ) where
  pub forward_is : {a b : ℤ} → a ≡ forward_end false (stored l.low) (stored f.low) κ → mag a < 2 ^ 63 →
      b ≡ forward_end true (stored l.high) (stored f.high) κ → mag b < 2 ^ 63 →
      (as_signed_pair (built a b) ≡ forward (as_signed_pair l) (as_signed_pair f) κ) × SizeAtMost forward_bound (built a b)
  unfolding forward
  forward_is {a} {b} ea ha eb hb =
      let low = ends_read (λ x y. forward_end false x y κ) l.low f.low hl.low_size hf.low_size ea ha in
      let high = ends_read (λ x y. forward_end true x y κ) l.high f.high hl.high_size hf.high_size eb hb in
      let e : as_signed_pair (built a b) ≡ forward (as_signed_pair l) (as_signed_pair f) κ = rw (low, high) in
      (e, sized (built a b) e (forward_bound_lem (as_signed_pair l) (as_signed_pair f) κ hκ.ordered hκ.at_most_U (within l hl) (within f hf)))
