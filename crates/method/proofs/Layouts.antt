-- The lengths that a sheet can have: the market's own, 3 more with the phase-in's record or, for the euro, the adjustment's, 6 more with both.
use mathlib.Core.Path.{◌≡◌, refl, sym, ◌∙◌}
use mathlib.Core.Bool.{Bool, true, false, false≢true, not, ◌&&◌, ◌||◌}
use mathlib.Core.List.{List}
use Prim.Native.Nat.{ℕ, ◌+◌, ◌≤◌, ◌<◌}
use native.Mathlib.Omega.{arith}
use borrow.Author.Tests.{ne_eqb, ltb-true, ltb-false}
use lib.Dec.{eqb, ltb}
use lib.ListN.{length, get_or}
use Rattle.method.specs.Sheet.{Profile, adjustable, Layout, shortest, names_profile, profile_of, layout_of, size_of, sheet_numbers}
use Rattle.method.proofs.Outcome.{split}
use Rattle.method.proofs.Slots.{last_start, size_by, size_is}

abbrev pub layout : Bool → Profile → Bool → Bool → Layout
layout led p phased adjusts = record { led = led; profile = p; phased = phased; adjusts = adjusts }

module _ (s : List ℕ) where
  -- the market's own length
  abbrev pub first_bytes : ℕ
  first_bytes = last_start (names_profile s) (profile_of s)

  -- the kind byte behind it is the adjustment's
  abbrev pub named : Bool
  named = eqb (get_or s first_bytes 0) 0x07

  abbrev pub layout_by : Bool → Bool → Layout
  layout_by phased adjusts = layout (names_profile s) (profile_of s) phased adjusts

  pub layout_is :
      layout_of s ≡
      layout_by (ltb first_bytes (length s) && (ltb (first_bytes + 3) (length s) || not (adjustable (profile_of s) && named)))
      (adjustable (profile_of s) && (ltb first_bytes (length s) && (ltb (first_bytes + 3) (length s) || named)))
  unfolding layout_of
  layout_is =
      let size : size_of (shortest (names_profile s) (profile_of s)) ≡ first_bytes = size_is (shortest (names_profile s) (profile_of s)) ∙ omega arith in
      let next : first_bytes + 1 + 2 ≡ first_bytes + 3 = omega arith in
      rw (size, next) refl

  -- a sheet has an adjustment where its record stands, whatever the number: 0 is one
  pub adjusts_by_record : (sheet_numbers s).adjusts ≡ (layout_of s).adjusts
  adjusts_by_record = refl

  module _ (P : Layout → Type 0) where
    -- by the length, and by the kind byte behind the limit's record where one record more stands; a market without an adjustment has the
    -- phase-in's there, however long the sheet is
    pub by_layout :
        (length s ≤ first_bytes → P (layout_by false false)) →
        (first_bytes < length s → (adjustable (profile_of s) ≡ true → length s ≤ first_bytes + 3) → P (layout_by true false)) →
        (first_bytes < length s → length s ≤ first_bytes + 3 → adjustable (profile_of s) ≡ true → named ≡ true → P (layout_by false true)) →
        (first_bytes + 3 < length s → adjustable (profile_of s) ≡ true → P (layout_by true true)) → P (layout_of s)
    by_layout neither first second both =
        rw layout_is
        (split (adjustable (profile_of s))
        (λ a.
        split (ltb first_bytes (length s))
        (λ t.
        let more = ltb-true first_bytes (length s) t in
        split (ltb (first_bytes + 3) (length s))
        (λ u. rw (a, t, u) (both (ltb-true (first_bytes + 3) (length s) u) a))
        (λ u.
        let few = ltb-false (first_bytes + 3) (length s) u in
        split named (λ n. rw (a, t, u, n) (second more few a n)) (λ n. rw (a, t, u, n) (first more (λ e. few)))))
        (λ t. rw (a, t) (neither (ltb-false first_bytes (length s) t))))
        (λ a.
        split (ltb first_bytes (length s))
        (λ t.
        let alone = first (ltb-true first_bytes (length s) t) (λ e. absurd (false≢true (sym a ∙ e))) in
        split (ltb (first_bytes + 3) (length s)) (λ u. rw (a, t, u) alone) (λ u. rw (a, t, u) alone))
        (λ t. rw (a, t) (neither (ltb-false first_bytes (length s) t)))))

  -- ground 1's test, in other words
  pub any_length :
      eqb (length s) (size_of (layout_of s)) ≡
      (eqb (length s) first_bytes || (eqb (length s) (first_bytes + 3) || (adjustable (profile_of s) && eqb (length s) (first_bytes + 6))))
  any_length =
      by_layout
      (λ l.
      eqb (length s) (size_of l) ≡
      (eqb (length s) first_bytes || (eqb (length s) (first_bytes + 3) || (adjustable (profile_of s) && eqb (length s) (first_bytes + 6)))))
      (λ h.
      rw (size (layout_by false false) first_bytes (omega arith), other (first_bytes + 3) (λ e. omega arith), other (first_bytes + 6) (λ e. omega arith))
      (or_none (eqb (length s) first_bytes) (adjustable (profile_of s))))
      (λ h few. rw (size (layout_by true false) (first_bytes + 3) (omega arith)) (one_more h few))
      (λ h few a n. rw (size (layout_by false true) (first_bytes + 3) (omega arith)) (one_more h (λ e. few)))
      (λ h a. rw (size (layout_by true true) (first_bytes + 6) (omega arith), a, other first_bytes (λ e. omega arith), other (first_bytes + 3) (λ e. omega arith)))
    where
      size : (l : Layout) (n : ℕ) → size_by l ≡ n → size_of l ≡ n
      size l n e = size_is l ∙ e

      other : (n : ℕ) → (length s ≡ n → ⊥) → eqb (length s) n ≡ false
      other n h = ne_eqb (length s) n h

      or_false : (b : Bool) → b ≡ (b || false)
      or_false true = refl
      or_false false = refl

      one_more : first_bytes < length s → (adjustable (profile_of s) ≡ true → length s ≤ first_bytes + 3) →
          eqb (length s) (first_bytes + 3) ≡
          (eqb (length s) first_bytes || (eqb (length s) (first_bytes + 3) || (adjustable (profile_of s) && eqb (length s) (first_bytes + 6))))
      one_more h few =
          rw (other first_bytes (λ e. omega arith))
          (split (adjustable (profile_of s))
          (λ a. rw (a, other (first_bytes + 6) (λ e. omega (arith, few a))) (or_false (eqb (length s) (first_bytes + 3))))
          (λ a. rw a (or_false (eqb (length s) (first_bytes + 3)))))

      or_none : (b a : Bool) → b ≡ (b || (false || (a && false)))
      or_none true a = refl
      or_none false true = refl
      or_none false false = refl
