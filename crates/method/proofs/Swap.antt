-- The two tests of a trial: "surely not above par" and "surely not below par" say so of the exact swap.
use mathlib.Core.Path.{◌≡◌, refl, ap}
use mathlib.Core.Bool.{true, false, cond}
use Prim.Native.Nat.{ℕ, zero, suc, ◌+◌, ◌*◌, ◌/◌, ◌≤◌}
use native.Mathlib.Nat.{zero-add}
use native.Mathlib.Omega.{arith}
use borrow.Author.Tests.{leb-true}
use lib.IntN.{ℤ, pos, negsuc}
use lib.ListN.{length}
use lib.Signed.{non_neg}
use Rattle.fraction.specs.Fraction.{ℚ, ◌≤ℚ◌, nat_ℚ, int_ℚ, ◌+ℚ◌, ◌*ℚ◌, sum_ℚ}
use Rattle.fraction.specs.Rounding.{U, ceil_div, Encloses}
use Rattle.fraction.proofs.Order.{≤ℚ-trans, ≤ℚ-refl, ≤ℚ-≈-trans, ≈-≤ℚ-trans, ≈-sym}
use Rattle.fraction.proofs.Sum.{+ℚ-mono}
use Rattle.fraction.proofs.Product.{*ℚ-mono-right, *ℚ-anti-right}
use Rattle.fraction.proofs.Integer.{nat_ℚ_non_negative}
use Rattle.fraction.proofs.Enclosure.{encloses-≈, encloses-+, nat_encloses, nat_below, nat_above}
use Rattle.method.specs.Units.{pair, par_value}
use Rattle.method.specs.Sheet.{total}
use Rattle.method.specs.Quotes.{Gap, trial, last_of, low_trial, high_trial, at_most_par, at_least_par, surely_not_above, surely_not_below}
use Rattle.method.specs.True.{onward, swap_value}
use Rattle.method.proofs.Enclosed.{enclosed_sum}
use Rattle.method.proofs.Par.{par_ℚ, par_value-exact, rate_non_negative, rate_non_positive}
use Rattle.method.proofs.Zips.{zip_left, zip_right}
use Rattle.method.proofs.Trial.{onward-zero, trial_encloses, last_encloses, between_sum}

-- ---- the comparison with par, for an annuity s and a last factor t bounded on the side that the rate's sign asks

above_core : (n a l : ℕ) → n * a + 100_000 * l ≤ par_value → int_ℚ (pos n) *ℚ nat_ℚ a +ℚ nat_ℚ 100_000 *ℚ nat_ℚ l ≤ℚ nat_ℚ par_value
unfolding int_ℚ nat_ℚ ◌*ℚ◌ ◌+ℚ◌
above_core n a l h = omega arith

above_core_neg : (n a l : ℕ) → 100_000 * l ≤ par_value + suc n * a → int_ℚ (negsuc n) *ℚ nat_ℚ a +ℚ nat_ℚ 100_000 *ℚ nat_ℚ l ≤ℚ nat_ℚ par_value
unfolding int_ℚ nat_ℚ ◌*ℚ◌ ◌+ℚ◌
above_core_neg n a l h = omega arith

below_core : (n a l : ℕ) → par_value ≤ n * a + 100_000 * l → nat_ℚ par_value ≤ℚ int_ℚ (pos n) *ℚ nat_ℚ a +ℚ nat_ℚ 100_000 *ℚ nat_ℚ l
unfolding int_ℚ nat_ℚ ◌*ℚ◌ ◌+ℚ◌
below_core n a l h = omega arith

below_core_neg : (n a l : ℕ) → par_value + suc n * a ≤ 100_000 * l → nat_ℚ par_value ≤ℚ int_ℚ (negsuc n) *ℚ nat_ℚ a +ℚ nat_ℚ 100_000 *ℚ nat_ℚ l
unfolding int_ℚ nat_ℚ ◌*ℚ◌ ◌+ℚ◌
below_core_neg n a l h = omega arith

module _ {s t : ℚ} where
  at_most_par_lem : (r : ℤ) (a l : ℕ) → (non_neg r ≡ true → s ≤ℚ nat_ℚ a) → (non_neg r ≡ false → nat_ℚ a ≤ℚ s) → t ≤ℚ nat_ℚ l →
      at_most_par r a l ≡ true → int_ℚ r *ℚ s +ℚ nat_ℚ 100_000 *ℚ t ≤ℚ par_ℚ
  at_most_par_lem (pos n) a l h k m e =
      ≤ℚ-trans (+ℚ-mono (*ℚ-mono-right (rate_non_negative n) (h refl)) (*ℚ-mono-right (nat_ℚ_non_negative 100_000) m))
      (≤ℚ-≈-trans (above_core n a l (leb-true _ _ e)) par_value-exact)
  at_most_par_lem (negsuc n) a l h k m e =
      ≤ℚ-trans (+ℚ-mono (*ℚ-anti-right (rate_non_positive n) (k refl)) (*ℚ-mono-right (nat_ℚ_non_negative 100_000) m))
      (≤ℚ-≈-trans (above_core_neg n a l (leb-true _ _ e)) par_value-exact)

  at_least_par_lem : (r : ℤ) (a l : ℕ) → (non_neg r ≡ true → nat_ℚ a ≤ℚ s) → (non_neg r ≡ false → s ≤ℚ nat_ℚ a) → nat_ℚ l ≤ℚ t →
      at_least_par r a l ≡ true → par_ℚ ≤ℚ int_ℚ r *ℚ s +ℚ nat_ℚ 100_000 *ℚ t
  at_least_par_lem (pos n) a l h k m e =
      ≤ℚ-trans (≈-≤ℚ-trans (≈-sym par_value-exact) (below_core n a l (leb-true _ _ e)))
      (+ℚ-mono (*ℚ-mono-right (rate_non_negative n) (h refl)) (*ℚ-mono-right (nat_ℚ_non_negative 100_000) m))
  at_least_par_lem (negsuc n) a l h k m e =
      ≤ℚ-trans (≈-≤ℚ-trans (≈-sym par_value-exact) (below_core_neg n a l (leb-true _ _ e)))
      (+ℚ-mono (*ℚ-anti-right (rate_non_positive n) (k refl)) (*ℚ-mono-right (nat_ℚ_non_negative 100_000) m))

-- ---- a trial's sum and last factor

pub trial-length : (round : ℕ → ℕ → ℕ) (k t x : ℕ) → length (trial round t x k) ≡ k
unfolding trial
trial-length round zero t x = refl
trial-length round (suc k) t x = ap suc (trial-length round k (round (t * x) U) x)

-- ---- the tests of a gap whose annuity and start enclose exact ones

module _ (g : Gap) {a t : ℚ} (ha : Encloses (pos g.annuity.low) (pos g.annuity.high) a)
    (ht : Encloses (pos g.start.low) (pos g.start.high) t) (x : ℕ) where
  exact_x : Encloses (pos x) (pos x) (nat_ℚ x)
  exact_x = nat_encloses (≤ℚ-refl (nat_ℚ x)) (≤ℚ-refl (nat_ℚ x))

  start_encloses : Encloses (pos g.start.low) (pos g.start.high) (onward t (nat_ℚ x) 0)
  start_encloses = encloses-≈ (≈-sym (onward-zero t (nat_ℚ x))) ht

  same_length : length (low_trial g x) ≡ length (high_trial g x)
  same_length = rw (trial-length ◌/◌ g.years g.start.low x, trial-length ceil_div g.years g.start.high x)

  sum_encloses : Encloses (pos (g.annuity.low + total (low_trial g x))) (pos (g.annuity.high + total (high_trial g x)))
      (a +ℚ sum_ℚ (λ j. onward t (nat_ℚ x) (suc j)) g.years)
  sum_encloses =
      let years = trial_encloses t exact_x g.years 0 g.start.low g.start.high start_encloses in
      let lows = zip_left pair (λ p. p.low) (λ a b. refl) (low_trial g x) (high_trial g x) same_length in
      let highs = zip_right pair (λ p. p.high) (λ a b. refl) (low_trial g x) (high_trial g x) same_length in
      encloses-+ ha (encloses-≈ (between_sum t (nat_ℚ x) g.years) (rw (lows, highs) at (enclosed_sum years)))

  last_of_lem : Encloses (pos (last_of g.start.low (low_trial g x))) (pos (last_of g.start.high (high_trial g x))) (onward t (nat_ℚ x) g.years)
  last_of_lem = rw (zero-add g.years) at (last_encloses t exact_x g.years 0 g.start.low g.start.high start_encloses)

  abbrev low_annuity : ℕ
  low_annuity = g.annuity.low + total (low_trial g x)

  abbrev high_annuity : ℕ
  high_annuity = g.annuity.high + total (high_trial g x)

  pub not_above : surely_not_above g x ≡ true → swap_value g.rate a t g.years (nat_ℚ x) ≤ℚ par_ℚ
  unfolding surely_not_above swap_value
  not_above e =
      at_most_par_lem g.rate (cond (non_neg g.rate) high_annuity low_annuity) (last_of g.start.high (high_trial g x))
      (λ p. rw p (nat_above sum_encloses))
      (λ p. rw p (nat_below sum_encloses))
      (nat_above last_of_lem)
      e

  pub not_below : surely_not_below g x ≡ true → par_ℚ ≤ℚ swap_value g.rate a t g.years (nat_ℚ x)
  unfolding surely_not_below swap_value
  not_below e =
      at_least_par_lem g.rate (cond (non_neg g.rate) low_annuity high_annuity) (last_of g.start.low (low_trial g x))
      (λ p. rw p (nat_below sum_encloses))
      (λ p. rw p (nat_above sum_encloses))
      (nat_below last_of_lem)
      e
