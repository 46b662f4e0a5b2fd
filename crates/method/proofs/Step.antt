-- A year's step, times e to minus the forward: e^y is monotone through 0, so the step's ends are at the forward's ends. By
-- steps, the extrapolated years enclose the true ones of every order.
use mathlib.Core.Path.{◌≡◌, refl, ap, subst}
use mathlib.Core.Bool.{Bool, true, false, cond}
use mathlib.Core.Logic.{◌⊎◌, inl, inr}
use mathlib.Core.List.{List, [], ◌∷◌}
use Prim.Native.Nat.{ℕ, zero, suc, ◌+◌, ◌/◌, ◌≤◌, ◌<◌, suc-le-suc}
use native.Mathlib.Nat.{zero-lt-suc, add-zero, add-suc, suc-add}
use native.Mathlib.Omega.{arith}
use borrow.Author.Tests.{leb-true}
use lib.Dec.{T, leb}
use lib.IntN.{ℤ, pos, negsuc, nat_abs, neg_ℤ}
use lib.ListN.{length, get_or}
use Rattle.fraction.specs.Fraction.{ℚ, ◌≈◌, ◌≤ℚ◌, ◌<ℚ◌, NonNegative, Positive, le_ℚ, nat_ℚ, int_ℚ, neg_ℚ, recip, ◌*ℚ◌, ◌÷◌, pow_ℚ, sum_ℚ}
use Rattle.fraction.specs.Rounding.{ceil_div, Encloses}
use Rattle.fraction.proofs.Order.{≤ℚ-refl, ≤ℚ-trans, ≤ℚ-total, ≤ℚ-antisym, ≈→≤, ≈→≥, ≈-sym, ≈-trans, ≡→≈, ≈-≤ℚ-trans}
use Rattle.fraction.proofs.Order.{<ℚ→≤ℚ, <ℚ-not-≤ℚ, non_negative→≤, ≤→non_negative, ≤→non_positive, neg_non_positive}
use Rattle.fraction.proofs.Decide.{le_ℚ→≤, ≤→le_ℚ}
use Rattle.fraction.proofs.Sum.{+ℚ-cong, +ℚ-zero, zero-+ℚ, neg_ℚ_anti, neg_ℚ_cong, neg_ℚ-neg_ℚ}
use Rattle.fraction.proofs.Product.{*ℚ-cong-left, *ℚ-cong-right, *ℚ-one, one-*ℚ, *ℚ-zero, zero-*ℚ, negℚ-*ℚ, *ℚ-mono-right, *ℚ-positive}
use Rattle.fraction.proofs.Integer.{nat_ℚ_positive, nat_ℚ_non_negative, int_ℚ-pos, int_ℚ_neg}
use Rattle.fraction.proofs.Quotient.{*ℚ-recip, recip_anti, recip_cong, ÷-mono-left, ÷-cong-left, ÷-unique, ÷-non_negative}
use Rattle.fraction.proofs.Ring.{var, ◌⊗◌}
use Rattle.fraction.proofs.RingFraction.{ring_ℚ}
use Rattle.fraction.proofs.Rounding.{U-positive}
use Rattle.fraction.proofs.Enclosure.{encloses-≈, encloses_non_negative, encloses_product, encloses_scaled, encloses_ratio, nat_encloses}
use Rattle.method.specs.Units.{Pair, pair, SignedPair}
use Rattle.method.specs.Grounds.{high_above_limit, Outcome, done, ◌>>=◌}
use Rattle.method.specs.Quotes.{highest_factor}
use Rattle.method.specs.Series.{growth}
use Rattle.method.specs.Extrapolation.{forward, step_low, step_high, step_with, step, extrapolate_with, extrapolate}
use Rattle.method.specs.True.{billion, factorial, exp_sum, exp, convergence, year_forward, extrapolated}
use Rattle.method.proofs.Enclosed.{AllEnclosed, none, more}
use Rattle.method.proofs.Outcome.{bind_done, demand_done, done_injective}
use Rattle.method.proofs.Growth.{exp_sum_mono, exp_sum_cong, exp_sum-≥-1, exp_sum_positive, growth_encloses}
use Rattle.method.proofs.Size.{Within}
use Rattle.method.proofs.Forward.{Weighs, weight_ordered, forward_encloses, forward_bound_lem}

-- ---- e^y at 0 and by sign

terms_at_0 : (k : ℕ) → sum_ℚ (λ i. pow_ℚ (nat_ℚ 0) i ÷ nat_ℚ (factorial i)) (suc k) ≈ nat_ℚ 1
unfolding sum_ℚ pow_ℚ factorial
terms_at_0 zero = ≈-trans (zero-+ℚ _) (*ℚ-recip (nat_ℚ_positive (omega arith)))
terms_at_0 (suc k) =
    ≈-trans (+ℚ-cong (terms_at_0 k) (≈-trans (*ℚ-cong-left _ (*ℚ-zero (pow_ℚ (nat_ℚ 0) k))) (zero-*ℚ _))) (+ℚ-zero (nat_ℚ 1))

pub exp_sum-zero : (n : ℕ) → exp_sum n (nat_ℚ 0) ≈ nat_ℚ 1
unfolding exp_sum
exp_sum-zero n = subst (λ (k : ℕ). sum_ℚ (λ i. pow_ℚ (nat_ℚ 0) i ÷ nat_ℚ (factorial i)) k ≈ nat_ℚ 1) (omega arith) (terms_at_0 (12 + n))

pub cond-true : (c : Bool) (x y : ℚ) → T c → cond c x y ≡ x
cond-true true x y t = refl
cond-true false x y t = absurd t

pub cond-false : (c : Bool) (x y : ℚ) → (T c → ⊥) → cond c x y ≡ y
cond-false true x y f = absurd (f tt)
cond-false false x y f = refl

pub exp_non_negative : (n : ℕ) {y : ℚ} → nat_ℚ 0 ≤ℚ y → exp n y ≡ exp_sum n y
unfolding exp
exp_non_negative n {y} h = cond-true (le_ℚ (nat_ℚ 0) y) _ _ (≤→le_ℚ h)

pub exp_negative : (n : ℕ) {y : ℚ} → y <ℚ nat_ℚ 0 → exp n y ≡ recip (exp_sum n (neg_ℚ y))
unfolding exp
exp_negative n {y} h = cond-false (le_ℚ (nat_ℚ 0) y) _ _ (λ t. <ℚ-not-≤ℚ h (le_ℚ→≤ t))

pub recip_one : recip (nat_ℚ 1) ≈ nat_ℚ 1
recip_one = ≈-trans (≈-sym (one-*ℚ _)) (*ℚ-recip (nat_ℚ_positive (omega arith)))

negated : {y : ℚ} → y <ℚ nat_ℚ 0 → NonNegative (neg_ℚ y)
negated h = neg_non_positive (≤→non_positive (<ℚ→≤ℚ h))

both_0 : {y : ℚ} → NonNegative y → nat_ℚ 0 ≤ℚ neg_ℚ y → (y ≈ nat_ℚ 0) × (neg_ℚ y ≈ nat_ℚ 0)
unfolding nat_ℚ neg_ℚ
both_0 h k = omega arith

-- ---- growth, read as a quotient and as a product

growth_positive : (round : ℕ → ℕ → ℕ) (y : ℕ) → 0 < growth round y
unfolding growth
growth_positive round y = omega arith

pub ratio_is : (y : ℚ) {e : ℚ} → Positive e → (y *ℚ billion) ÷ (billion *ℚ e) ≈ y *ℚ recip e
ratio_is y {e} h = ≈-sym (÷-unique (*ℚ-positive (nat_ℚ_positive U-positive) h) times)
  where
    times : (y *ℚ recip e) *ℚ (billion *ℚ e) ≈ y *ℚ billion
    times =
        ≈-trans (ring_ℚ (y ∷ recip e ∷ billion ∷ e ∷ []) ((var 0 ⊗ var 1) ⊗ (var 2 ⊗ var 3)) ((var 0 ⊗ var 2) ⊗ (var 3 ⊗ var 1)) tt)
        (≈-trans (*ℚ-cong-right (y *ℚ billion) (*ℚ-recip h)) (*ℚ-one _))

scaled_is : (y e : ℚ) → (y *ℚ (billion *ℚ e)) ÷ billion ≈ y *ℚ e
scaled_is y e =
    ≈-sym (÷-unique (nat_ℚ_positive U-positive) (ring_ℚ (y ∷ e ∷ billion ∷ []) ((var 0 ⊗ var 1) ⊗ var 2) (var 0 ⊗ (var 2 ⊗ var 1)) tt))

-- minus a whole number of billionths
neg_billionths : (z : ℤ) → neg_ℚ (int_ℚ z ÷ billion) ≈ int_ℚ (neg_ℤ z) ÷ billion
neg_billionths z = ≈-trans (≈-sym (negℚ-*ℚ (int_ℚ z) _)) (*ℚ-cong-left _ (≈-sym (int_ℚ_neg z)))

-- ---- e^y is monotone over all signs

pub exp_mono : (n : ℕ) {y z : ℚ} → y ≤ℚ z → exp n y ≤ℚ exp n z
exp_mono n {y} {z} h = go (≤ℚ-total (nat_ℚ 0) y) (≤ℚ-total (nat_ℚ 0) z)
  where
    go : (nat_ℚ 0 ≤ℚ y) ⊎ (y <ℚ nat_ℚ 0) → (nat_ℚ 0 ≤ℚ z) ⊎ (z <ℚ nat_ℚ 0) → exp n y ≤ℚ exp n z
    go (inl a) (inl b) = rw (exp_non_negative n a, exp_non_negative n b) (exp_sum_mono n (≤→non_negative a) h)
    go (inl a) (inr b) = absurd (<ℚ-not-≤ℚ b (≤ℚ-trans a h))
    go (inr a) (inl b) =
        rw (exp_negative n a, exp_non_negative n b)
        (≤ℚ-trans (recip_anti (nat_ℚ_positive (omega arith)) (exp_sum-≥-1 n (negated a))) (≈-≤ℚ-trans recip_one (exp_sum-≥-1 n (≤→non_negative b))))
    go (inr a) (inr b) =
        rw (exp_negative n a, exp_negative n b) (recip_anti (exp_sum_positive n (negated b)) (exp_sum_mono n (negated b) (neg_ℚ_anti h)))

pub exp_cong : (n : ℕ) {y z : ℚ} → y ≈ z → exp n y ≈ exp n z
exp_cong n e = ≤ℚ-antisym (exp_mono n (≈→≤ e)) (exp_mono n (≈→≥ e))

-- at 0 too, where both forms are 1
pub exp_neg : (n : ℕ) {y : ℚ} → NonNegative y → exp n (neg_ℚ y) ≈ recip (exp_sum n y)
exp_neg n {y} h = go (≤ℚ-total (nat_ℚ 0) (neg_ℚ y))
  where
    go : (nat_ℚ 0 ≤ℚ neg_ℚ y) ⊎ (neg_ℚ y <ℚ nat_ℚ 0) → exp n (neg_ℚ y) ≈ recip (exp_sum n y)
    go (inl a) =
        let z = both_0 h a in
        rw (exp_non_negative n a)
        (≈-trans (≈-trans (exp_sum_cong n z.1) (exp_sum-zero n))
        (≈-sym (≈-trans (recip_cong (exp_sum_positive n h) (≈-trans (exp_sum_cong n z.0) (exp_sum-zero n))) recip_one)))
    go (inr a) =
        rw (exp_negative n a) (recip_cong (exp_sum_positive n (negated a)) (exp_sum_cong n (neg_ℚ-neg_ℚ y)))

-- ---- a step at a whole forward z: over E at z from 0 up, times E at -z below

exp-minus-pos : (n a : ℕ) → exp n (neg_ℚ (int_ℚ (pos a) ÷ billion)) ≈ recip (exp_sum n (nat_ℚ a ÷ billion))
exp-minus-pos n a =
    ≈-trans (exp_cong n (neg_ℚ_cong (÷-cong-left billion (int_ℚ-pos a)))) (exp_neg n (÷-non_negative billion (nat_ℚ_non_negative a)))

exp-minus-negsuc : (n a : ℕ) → exp n (neg_ℚ (int_ℚ (negsuc a) ÷ billion)) ≈ exp_sum n (nat_ℚ (suc a) ÷ billion)
exp-minus-negsuc n a =
    ≈-trans (exp_cong n (≈-trans (neg_billionths (negsuc a)) (÷-cong-left billion (int_ℚ-pos (suc a)))))
    (≡→≈ (exp_non_negative n (non_negative→≤ (÷-non_negative billion (nat_ℚ_non_negative (suc a))))))

step_at : (n : ℕ) (z : ℤ) {low high : ℕ} {y : ℚ} → nat_abs z ≤ 250_000_000 → Encloses (pos low) (pos high) y →
    Encloses (pos (step_low z low)) (pos (step_high z high)) (y *ℚ exp n (neg_ℚ (int_ℚ z ÷ billion)))
step_at n (pos a) {y = y} k h =
    let whole = nat_encloses (≤ℚ-refl billion) (≤ℚ-refl billion) in
    encloses-≈
    (≈-trans (ratio_is y (exp_sum_positive n (÷-non_negative billion (nat_ℚ_non_negative a)))) (*ℚ-cong-right y (≈-sym (exp-minus-pos n a))))
    (encloses_ratio (growth_positive ◌/◌ a) (omega (arith, growth_positive ceil_div a)) (encloses_product h whole) (growth_encloses n a k))
step_at n (negsuc a) {y = y} k h =
    encloses-≈ (≈-trans (scaled_is y _) (*ℚ-cong-right y (≈-sym (exp-minus-negsuc n a))))
    (encloses_scaled U-positive h (growth_encloses n (suc a) k))

-- ---- and at an enclosed forward: the low at its high, the high at its low

pub step_encloses : (n : ℕ) (f : SignedPair) (p : Pair) {x y : ℚ} → Within 250_000_000 f →
    Encloses f.low f.high x → Encloses (pos p.low) (pos p.high) y →
    Encloses (pos (step f p).low) (pos (step f p).high) (y *ℚ exp n (neg_ℚ (x ÷ billion)))
unfolding step_with
step_encloses n f p {x} {y} w hx hy =
    record {
      below = ≤ℚ-trans (step_at n f.high w.high_within.bound hy).below (*ℚ-mono-right (encloses_non_negative hy) (falls hx.above));
      above = ≤ℚ-trans (*ℚ-mono-right (encloses_non_negative hy) (falls hx.below)) (step_at n f.low w.low_within.bound hy).above;
    }
  where
    falls : {s t : ℚ} → s ≤ℚ t → exp n (neg_ℚ (t ÷ billion)) ≤ℚ exp n (neg_ℚ (s ÷ billion))
    falls h = exp_mono n (neg_ℚ_anti (÷-mono-left billion h))

-- ---- a year that is done, and the later ones

record Years (l f : SignedPair) (κ : Pair) (κs : List Pair) (year : ℕ) (p : Pair) (qs : List Pair) : Type 0 where
  later : List Pair
  is : step (forward l f κ) p ∷ later ≡ qs
  high : (step (forward l f κ) p).high ≤ highest_factor
  rest : extrapolate l f κs (year + 1) (step (forward l f κ) p) ≡ done later

years : (l f : SignedPair) (κ : Pair) (κs : List Pair) (year : ℕ) (p : Pair) {qs : List Pair} → extrapolate l f (κ ∷ κs) year p ≡ done qs →
    Years l f κ κs year p qs
unfolding extrapolate_with
years l f κ κs year p e =
    let next = step (forward l f κ) p in
    let later = extrapolate l f κs (year + 1) next in
    let add : List Pair → Outcome (List Pair) = λ ps. done (next ∷ ps) in
    let tested = demand_done (leb next.high highest_factor) (high_above_limit year) (λ u. later >>= add) e in
    let worked = bind_done later add tested.1 in
    record { later = worked.0; is = done_injective worked.2; high = leb-true _ _ tested.0; rest = worked.1 }

no_years : (l f : SignedPair) (year : ℕ) (p : Pair) {qs : List Pair} → extrapolate l f [] year p ≡ done qs → [] ≡ qs
unfolding extrapolate_with
no_years l f year p e = done_injective e

pub extrapolate-length : (l f : SignedPair) (κs : List Pair) (year : ℕ) (p : Pair) {qs : List Pair} → extrapolate l f κs year p ≡ done qs →
    length qs ≡ length κs
extrapolate-length l f [] year p e = rw (← no_years l f year p e)
extrapolate-length l f (κ ∷ κs) year p e =
    let ys = years l f κ κs year p e in
    rw (← ys.is) (ap suc (extrapolate-length l f κs (year + 1) _ ys.rest))

-- ground 8, at any index: past the end stands 0
pub extrapolate_highs : (l f : SignedPair) (κs : List Pair) (year : ℕ) (p : Pair) {qs : List Pair} → extrapolate l f κs year p ≡ done qs →
    (i : ℕ) → (get_or qs i (pair 0 0)).high ≤ highest_factor
extrapolate_highs l f [] year p e i = rw (← no_years l f year p e) (omega arith)
extrapolate_highs l f (κ ∷ κs) year p e zero = let ys = years l f κ κs year p e in rw (← ys.is) ys.high
extrapolate_highs l f (κ ∷ κs) year p e (suc i) =
    let ys = years l f κ κs year p e in
    rw (← ys.is) (extrapolate_highs l f κs (year + 1) _ ys.rest i)

-- ---- enclosure, for every order and every list of κ pairs

pub extrapolate_encloses : (n : ℕ) (α : ℚ) (l f : SignedPair) {x y : ℚ} → Within 250_000_000 l → Within 250_000_000 f →
    Encloses l.low l.high x → Encloses f.low f.high y →
    (κs : List Pair) (h year : ℕ) (p : Pair) {q : ℚ} {qs : List Pair} →
    ((i : ℕ) → i < length κs → Weighs (get_or κs i (pair 0 0)) (convergence n α (h + i))) →
    Encloses (pos p.low) (pos p.high) q → extrapolate l f κs year p ≡ done qs →
    AllEnclosed qs (extrapolated n α x y h (length κs) q)
unfolding extrapolated year_forward
extrapolate_encloses n α l f bl bf hl hf [] h year p w hp e = rw (← no_years l f year p e) none
extrapolate_encloses n α l f bl bf hl hf (κ ∷ κs) h year p w hp e =
    let ys = years l f κ κs year p e in
    let weighs : Weighs κ (convergence n α h) = rw add-zero at (w 0 (zero-lt-suc _)) in
    let bound = forward_bound_lem l f κ (weight_ordered weighs) weighs.at_most_U bl bf in
    let next = step_encloses n (forward l f κ) p bound (forward_encloses l f κ hl hf weighs) hp in
    rw (← ys.is)
    (more next
    (extrapolate_encloses n α l f bl bf hl hf κs (suc h) (year + 1) (step (forward l f κ) p)
    (λ i k. rw (suc-add h i, ← add-suc h i) (w (suc i) (suc-le-suc k)))
    next
    ys.rest))
