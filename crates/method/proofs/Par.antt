-- The factor of a quoted year by par encloses the exact one, for any rate above -100,000 and any enclosed annuity.
use Prim.Native.Nat.{ℕ, suc, ◌-◌, ◌≤◌, ◌<◌}
use native.Mathlib.Omega.{arith}
use borrow.Author.Tests.{le-ltb}
use lib.IntN.{ℤ, pos, negsuc}
use Rattle.fraction.specs.Fraction.{ℚ, ◌≈◌, NonNegative, NonPositive, neg_part, nat_ℚ, int_ℚ, ◌+ℚ◌, ◌-ℚ◌, ◌*ℚ◌}
use Rattle.fraction.specs.Rounding.{Encloses}
use Rattle.fraction.proofs.Order.{≈-refl, ≈-sym, ≈-trans}
use Rattle.fraction.proofs.Sum.{+ℚ-cong}
use Rattle.fraction.proofs.Product.{*ℚ-cong-right}
use Rattle.fraction.proofs.Integer.{natℚ-+, int_ℚ-pos, nat_ℚ_positive}
use Rattle.fraction.proofs.Quotient.{recip_cong, ÷-cong-left}
use Rattle.fraction.proofs.Decide as decide
use Rattle.fraction.proofs.Enclosure.{encloses-≈}
use Rattle.method.specs.Units.{Pair, rate_unit, par_value}
use Rattle.method.specs.Quotes.{par_denominator, par_low, par_high}
use Rattle.method.specs.True.{billion, par_factor}
use Rattle.method.proofs.QuotesBounds.{par_encloses}

-- a swap's value at par, exactly
abbrev pub par_ℚ : ℚ
par_ℚ = billion *ℚ nat_ℚ 100_000

pub par_value-exact : nat_ℚ par_value ≈ par_ℚ
unfolding decide.computes
par_value-exact = decide.eq_ℚ→≈ tt

-- ---- 100,000 + rate

below_zero : (n : ℕ) → suc n ≤ 100_000 → nat_ℚ (100_000 - suc n) ≈ nat_ℚ 100_000 +ℚ int_ℚ (negsuc n)
unfolding nat_ℚ int_ℚ ◌+ℚ◌
below_zero n h = omega arith

pub denominator_exact : (r : ℤ) → neg_part r < 100_000 → nat_ℚ (par_denominator r) ≈ nat_ℚ 100_000 +ℚ int_ℚ r
denominator_exact (pos n) h = ≈-trans (natℚ-+ rate_unit n) (+ℚ-cong (≈-refl (nat_ℚ rate_unit)) (≈-sym (int_ℚ-pos n)))
denominator_exact (negsuc n) h = rw (le-ltb 100_000 (suc n) (omega arith)) (below_zero n (omega arith))

pub denominator_positive : (r : ℤ) → neg_part r < 100_000 → 0 < par_denominator r
denominator_positive (pos n) h = omega arith
denominator_positive (negsuc n) h = rw (le-ltb 100_000 (suc n) (omega arith)) (omega arith)

-- ---- the rate's sign

pub rate_non_negative : (n : ℕ) → NonNegative (int_ℚ (pos n))
unfolding int_ℚ
rate_non_negative n = omega arith

pub rate_non_positive : (n : ℕ) → NonPositive (int_ℚ (negsuc n))
unfolding int_ℚ
rate_non_positive n = omega arith

pub true_par_encloses : (r : ℤ) (a : Pair) {x : ℚ} → neg_part r < 100_000 → Encloses (pos a.low) (pos a.high) x →
    Encloses (par_low r a) (par_high r a) (par_factor r x)
unfolding par_factor
true_par_encloses r a {x} h k =
    let value : int_ℚ (pos par_value) -ℚ int_ℚ r *ℚ x ≈ par_ℚ -ℚ int_ℚ r *ℚ x = +ℚ-cong (≈-trans (int_ℚ-pos par_value) par_value-exact) (≈-refl _) in
    let weight : nat_ℚ (par_denominator r) ≈ nat_ℚ 100_000 +ℚ int_ℚ r = denominator_exact r h in
    let d = denominator_positive r h in
    encloses-≈ (≈-trans (÷-cong-left _ value) (*ℚ-cong-right _ (recip_cong (nat_ℚ_positive d) weight))) (par_encloses r a d k)
