-- The volatility adjustment encloses what it does to the true curve, at every order: t steps with a whole adjustment hold the factor
-- times e to minus it, t times; and g1 with as much added at both ends holds the 15-20 forward with it. Ground 8 keeps each year's high.
use mathlib.Core.Path.{◌≡◌, refl, ap}
use mathlib.Core.List.{List, [], ◌∷◌}
use Prim.Native.Nat.{ℕ, zero, suc, ◌+◌, ◌≤◌, ◌<◌}
use native.Mathlib.Numerals.{add-one}
use native.Mathlib.Omega.{arith}
use borrow.Author.Tests.{leb-true}
use lib.Dec.{leb, lit<}
use lib.IntN.{ℤ, pos, nat_abs}
use lib.ListN.{length, get_or}
use Rattle.fraction.specs.Fraction.{ℚ, ◌≈◌, nat_ℚ, int_ℚ, neg_ℚ, ◌*ℚ◌, ◌÷◌, recip, pow_ℚ}
use Rattle.fraction.specs.Rounding.{Encloses}
use Rattle.fraction.proofs.Order.{≈-sym, ≈-trans}
use Rattle.fraction.proofs.Sum.{neg_ℚ_cong}
use Rattle.fraction.proofs.Product.{*ℚ-one, *ℚ-comm, *ℚ-cong-right}
use Rattle.fraction.proofs.Quotient.{÷-unique}
use Rattle.fraction.proofs.Integer.{nat_ℚ_positive, natℚ-*, intℚ-*, int_ℚ-pos}
use Rattle.fraction.proofs.Ring.{var, ◌⊗◌}
use Rattle.fraction.proofs.RingFraction.{ring_ℚ}
use Rattle.fraction.proofs.Enclosure.{encloses_exact, encloses-≈, encloses-+}
use Rattle.fraction.proofs.Rounding.{U-positive}
use Rattle.method.specs.Units.{Pair, pair, SignedPair, signed_pair}
use Rattle.method.specs.Grounds.{high_above_limit, Outcome, done, ◌>>=◌}
use Rattle.method.specs.Quotes.{highest_factor}
use Rattle.method.specs.Extrapolation.{step, billionths, steps_with, steps, adjusted_years_with, adjusted_years, first_raised}
use Rattle.method.specs.True.{billion, exp, lowered_from, with_VA}
use Rattle.method.proofs.Outcome.{bind_done, demand_done, done_injective}
use Rattle.method.proofs.Enclosed.{AllEnclosed, none, more}
use Rattle.method.proofs.Size.{Bounded, Within, bounded-*, bounded-+}
use Rattle.method.proofs.Step.{step_encloses, exp_cong}
use Rattle.method.proofs.Forward.{zero_pair}

-- ---- the adjustment in billionths

-- at both ends of a forward
abbrev pub both_ends : ℤ → SignedPair
both_ends a = signed_pair (billionths a) (billionths a)

billionths_bound : (a : ℤ) → nat_abs a ≤ 500 → Bounded 5_000_000 (billionths a)
billionths_bound a h = bounded-* {N = 10_000} {a = a} (record { bound = h }) (record { bound = omega arith })

pub both_within : (a : ℤ) → nat_abs a ≤ 500 → Within 250_000_000 (both_ends a)
both_within a h =
    let b = billionths_bound a h in
    record { low_within = record { bound = omega (arith, b.bound) }; high_within = record { bound = omega (arith, b.bound) } }

-- as the true curve has it
abbrev VA : ℤ → ℚ
VA a = int_ℚ a ÷ nat_ℚ 100_000

VA-is : (a : ℤ) → int_ℚ (billionths a) ≈ billion *ℚ VA a
VA-is a =
    let r : ℚ = recip (nat_ℚ 100_000) in
    let unit : nat_ℚ 10_000 ≈ billion *ℚ r = ÷-unique (nat_ℚ_positive (lit< tt)) (≈-sym (natℚ-* 10_000 100_000)) in
    ≈-trans (intℚ-* a (pos 10_000))
    (≈-trans (*ℚ-cong-right (int_ℚ a) (≈-trans (int_ℚ-pos 10_000) unit))
    (ring_ℚ (int_ℚ a ∷ billion ∷ r ∷ []) (var 0 ⊗ (var 1 ⊗ var 2)) (var 1 ⊗ (var 0 ⊗ var 2)) tt))

pub VA-over : (a : ℤ) → int_ℚ (billionths a) ÷ billion ≈ VA a
VA-over a = ≈-sym (÷-unique (nat_ℚ_positive U-positive) (≈-sym (≈-trans (VA-is a) (*ℚ-comm billion (VA a)))))

-- ---- t steps

steps_enclose : (n : ℕ) (a : ℤ) → nat_abs a ≤ 500 → (t : ℕ) (p : Pair) {y : ℚ} → Encloses (pos p.low) (pos p.high) y →
    Encloses (pos (steps (both_ends a) t p).low) (pos (steps (both_ends a) t p).high) (y *ℚ pow_ℚ (exp n (neg_ℚ (VA a))) t)
unfolding steps_with pow_ℚ
steps_enclose n a h zero p {y} e = encloses-≈ (≈-sym (*ℚ-one y)) e
steps_enclose n a h (suc t) p {y} e =
    let d = exp n (neg_ℚ (VA a)) in
    let same : y *ℚ exp n (neg_ℚ (int_ℚ (billionths a) ÷ billion)) ≈ y *ℚ d = *ℚ-cong-right y (exp_cong n (neg_ℚ_cong (VA-over a))) in
    let one = encloses-≈ same (step_encloses n (both_ends a) p (both_within a h) (encloses_exact (billionths a)) e) in
    encloses-≈ (ring_ℚ (y ∷ d ∷ pow_ℚ d t ∷ []) ((var 0 ⊗ var 1) ⊗ var 2) (var 0 ⊗ (var 2 ⊗ var 1)) tt)
    (steps_enclose n a h t (step (both_ends a) p) one)

-- ---- the years

record Lowered (a : ℤ) (year : ℕ) (p : Pair) (ps qs : List Pair) : Type 0 where
  later : List Pair
  is : steps (both_ends a) year p ∷ later ≡ qs
  high : (steps (both_ends a) year p).high ≤ highest_factor
  rest : adjusted_years a (year + 1) ps ≡ done later

lowered : (a : ℤ) (year : ℕ) (p : Pair) (ps : List Pair) {qs : List Pair} → adjusted_years a year (p ∷ ps) ≡ done qs → Lowered a year p ps qs
unfolding adjusted_years_with
lowered a year p ps e =
    let next = steps (both_ends a) year p in
    let later = adjusted_years a (year + 1) ps in
    let add : List Pair → Outcome (List Pair) = λ qs. done (next ∷ qs) in
    let tested = demand_done (leb next.high highest_factor) (high_above_limit year) (λ u. later >>= add) e in
    let worked = bind_done later add tested.1 in
    record { later = worked.0; is = done_injective worked.2; high = leb-true _ _ tested.0; rest = worked.1 }

nothing_lowered : (a : ℤ) (year : ℕ) {qs : List Pair} → adjusted_years a year [] ≡ done qs → [] ≡ qs
unfolding adjusted_years_with
nothing_lowered a year e = done_injective e

pub adjusted_length : (a : ℤ) (year : ℕ) (ps : List Pair) {qs : List Pair} → adjusted_years a year ps ≡ done qs → length qs ≡ length ps
adjusted_length a year [] e = rw (← nothing_lowered a year e)
adjusted_length a year (p ∷ ps) e =
    let l = lowered a year p ps e in
    rw (← l.is) (ap suc (adjusted_length a (year + 1) ps l.rest))

-- ground 8, at any index: past the end stands 0
pub adjusted_highs : (a : ℤ) (year : ℕ) (ps : List Pair) {qs : List Pair} → adjusted_years a year ps ≡ done qs →
    (i : ℕ) → (get_or qs i (pair 0 0)).high ≤ highest_factor
adjusted_highs a year [] e i = rw (← nothing_lowered a year e) (omega arith)
adjusted_highs a year (p ∷ ps) e zero = let l = lowered a year p ps e in rw (← l.is) l.high
adjusted_highs a year (p ∷ ps) e (suc i) = let l = lowered a year p ps e in rw (← l.is) (adjusted_highs a (year + 1) ps l.rest i)

pub adjusted_encloses : (n : ℕ) (a : ℤ) → nat_abs a ≤ 500 → (year : ℕ) {ps qs : List Pair} {xs : List ℚ} → AllEnclosed ps xs →
    adjusted_years a year ps ≡ done qs → AllEnclosed qs (lowered_from year (exp n (neg_ℚ (VA a))) xs)
unfolding lowered_from
adjusted_encloses n a h year none e = rw (← nothing_lowered a year e) none
adjusted_encloses n a h year (more {p} {ps} k r) e =
    let l = lowered a year p ps e in
    rw (← l.is) (more (steps_enclose n a h year p k) (adjusted_encloses n a h (suc year) r (rw (add-one year) at l.rest)))

-- ---- g1

-- whichever gap it is
pub raised_encloses : (a : ℤ) (gs : List SignedPair) (fs : List ℚ) (i : ℕ) → i < length gs → length fs ≡ length gs →
    Encloses (get_or gs i zero_pair).low (get_or gs i zero_pair).high (get_or fs i (nat_ℚ 0)) →
    let g = get_or (first_raised a gs) i zero_pair in
    Encloses g.low g.high (get_or (with_VA (billion *ℚ VA a) fs) i (nat_ℚ 0))
unfolding first_raised with_VA
raised_encloses a [] fs i h l e = absurd (omega arith)
raised_encloses a (g ∷ gs) [] i h l e = absurd (omega arith)
raised_encloses a (g ∷ gs) (f ∷ fs) zero h l e = encloses-+ e (encloses-≈ (VA-is a) (encloses_exact (billionths a)))
raised_encloses a (g ∷ gs) (f ∷ fs) (suc i) h l e = e

pub raised_length : (a : ℤ) (gs : List SignedPair) → length (first_raised a gs) ≡ length gs
unfolding first_raised
raised_length a [] = refl
raised_length a (g ∷ gs) = refl

pub va_length : (v : ℚ) (fs : List ℚ) → length (with_VA v fs) ≡ length fs
unfolding with_VA
va_length v [] = refl
va_length v (f ∷ fs) = refl

pub raised_within : (M : ℕ) (a : ℤ) → nat_abs a ≤ 500 → (gs : List SignedPair) (i : ℕ) → Within M (get_or gs i zero_pair) →
    Within (M + 5_000_000) (get_or (first_raised a gs) i zero_pair)
unfolding first_raised
raised_within M a h [] i w = record { low_within = record { bound = omega arith }; high_within = record { bound = omega arith } }
raised_within M a h (g ∷ gs) zero w =
    let b = billionths_bound a h in
    record { low_within = bounded-+ w.low_within b; high_within = bounded-+ w.high_within b }
raised_within M a h (g ∷ gs) (suc i) w =
    record { low_within = record { bound = omega (arith, w.low_within.bound) }; high_within = record { bound = omega (arith, w.high_within.bound) } }
