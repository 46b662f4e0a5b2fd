-- The slots past the limit's: the phase-in's first, where it stands, and the adjustment's last.
use mathlib.Core.Path.{◌≡◌, refl, ap, subst, sym}
use mathlib.Core.Bool.{Bool, true, false, cond}
use Prim.Native.Nat.{ℕ, ◌+◌, ◌≤◌, ◌<◌}
use native.Mathlib.Omega.{arith}
use borrow.Author.Tests.{eqb-true, eqb-false}
use lib.Dec.{eqb}
use lib.ListN.{length}
use Rattle.method.specs.Sheet.{phase_in, adjustment, Layout, slot, slots_of, slot_at, ultimate_index}
use Rattle.method.proofs.Outcome.{split}
use Rattle.method.proofs.Slots.{last_start, slots_length, phase_in_slot, adjustment_slot}

-- so many slots behind those before the first
abbrev past : Bool → Bool → ℕ
past phased adjusts = cond phased 1 0 + cond adjusts 1 0

-- one more slot than those before it stands only where its record does
stands : (adjusts : Bool) → 0 < cond adjusts 1 0 → adjusts ≡ true
stands true h = refl
stands false h = absurd (omega arith)

both_stand : (phased adjusts : Bool) → 1 < past phased adjusts → (phased ≡ true) × (adjusts ≡ true)
both_stand true true h = (refl, refl)
both_stand true false h = absurd (omega arith)
both_stand false true h = absurd (omega arith)
both_stand false false h = absurd (omega arith)

most_one : (stands : Bool) → cond stands 1 0 ≤ 1
most_one true = omega arith
most_one false = omega arith

most_two : (phased adjusts : Bool) → past phased adjusts ≤ 2
most_two true true = omega arith
most_two true false = omega arith
most_two false true = omega arith
most_two false false = omega arith

module _ (l : Layout) where
  -- the first index past the limit's
  abbrev first : ℕ
  first = ultimate_index l + 2

  abbrev start : ℕ
  start = last_start l.led l.profile

  -- the adjustment's, whether the phase-in's stands before it or not
  placed : {phased : Bool} → l.phased ≡ phased → l.adjusts ≡ true → slot_at l (first + cond phased 1 0) ≡ slot adjustment 0 (start + cond phased 3 0)
  placed e adjusts = subst (λ (b : Bool). slot_at l (first + cond b 1 0) ≡ slot adjustment 0 (start + cond b 3 0)) e (adjustment_slot l adjusts)

  pub first_past : l.phased ≡ true → slot_at l first ≡ slot phase_in 0 start
  first_past = phase_in_slot l

  pub alone_past : l.phased ≡ false → first < length (slots_of l) → slot_at l first ≡ slot adjustment 0 (start + 0)
  alone_past f h =
      let none : ◌≡◌ {A = ℕ} (cond l.phased 1 0) 0 = ap (λ (b : Bool). cond b 1 0) f in
      let here : first + 0 ≡ first = omega arith in
      rw here at (placed f (stands l.adjusts (omega (arith, slots_length l, none))))

  pub second_past : first + 1 < length (slots_of l) → slot_at l (first + 1) ≡ slot adjustment 0 (start + 3)
  second_past h =
      let (phased, adjusts) = both_stand l.phased l.adjusts (omega (arith, slots_length l)) in
      placed phased adjusts

  -- and no slot behind that one
  pub past_two : (i : ℕ) → first < i → i < length (slots_of l) → i ≡ first + 1
  past_two i from to = omega (arith, slots_length l, most_two l.phased l.adjusts)

  first_none : first < length (slots_of l) → 0 ≡ (slot_at l first).maturity
  first_none h =
      split l.phased (λ t. sym (ap (λ s. s.maturity) (first_past t))) (λ f. sym (ap (λ s. s.maturity) (alone_past f h)))

  -- the adjustment's stands behind the phase-in's, or alone
  later_slot : (i : ℕ) → first < i → i < length (slots_of l) → slot_at l i ≡ slot adjustment 0 (start + 3)
  later_slot i from to =
      let e = past_two i from to in
      rw e (second_past (rw e at to))

  pub later_kind : (i : ℕ) → first < i → i < length (slots_of l) → adjustment ≡ (slot_at l i).kind
  later_kind i from to = sym (ap (λ s. s.kind) (later_slot i from to))

  pub alone_kind : (i : ℕ) → l.phased ≡ false → first ≤ i → i < length (slots_of l) → adjustment ≡ (slot_at l i).kind
  alone_kind i f from to =
      let none : ◌≡◌ {A = ℕ} (cond l.phased 1 0) 0 = ap (λ (b : Bool). cond b 1 0) f in
      let e : i ≡ first = omega (arith, slots_length l, none, most_one l.adjusts) in
      rw e (sym (ap (λ s. s.kind) (alone_past f (rw e at to))))

  pub no_maturity : (i : ℕ) → first ≤ i → i < length (slots_of l) → 0 ≡ (slot_at l i).maturity
  no_maturity i from to =
      split (eqb i first)
      (λ t. let e = eqb-true i first t in rw e (first_none (rw e at to)))
      (λ f. sym (ap (λ s. s.maturity) (later_slot i (omega (arith, eqb-false i first f)) to)))
