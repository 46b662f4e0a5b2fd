-- Growth over years: it grows with the multiplier; it is the growth at the rate; and rounded down and up it encloses the exact one.
use mathlib.Core.Path.{◌≡◌, refl}
use mathlib.Core.Bool.{Bool, true, false}
use mathlib.Core.List.{[], ◌∷◌}
use Prim.Native.Nat.{ℕ, zero, suc, ◌*◌, ◌≤◌, ◌<◌}
use native.Mathlib.Nat.{mul-le-mul, mul-le-mul_right, mul-lt-mul_of_pos_left, le_refl, le_trans}
use native.Mathlib.Omega.{arith}
use lib.Dec.{lit<}
use lib.IntN.{ℤ, pos, ◌+ℤ◌}
use Rattle.fraction.specs.Fraction.{ℚ, ◌≈◌, nat_ℚ, int_ℚ, ◌+ℚ◌, ◌*ℚ◌, ◌÷◌, recip, pow_ℚ}
use Rattle.fraction.specs.Rounding.{U, round_ℤ, round_ℕ, Encloses}
use Rattle.fraction.proofs.Order.{≈-refl, ≈-sym, ≈-trans}
use Rattle.fraction.proofs.Sum.{+ℚ-cong}
use Rattle.fraction.proofs.Product.{*ℚ-cong-right, *ℚ-one}
use Rattle.fraction.proofs.Integer.{int_ℚ-pos, intℚ-+}
use Rattle.fraction.proofs.Quotient.{÷-cong-left}
use Rattle.fraction.proofs.Power.{pow_ℚ_cong}
use Rattle.fraction.proofs.Floor.{ceiling-pos}
use Rattle.fraction.proofs.Enclosure.{encloses-≈, encloses_scaled}
use Rattle.fraction.proofs.Ring.{var, ◌⊗◌}
use Rattle.fraction.proofs.RingFraction.{ring_ℚ}
use Rattle.method.specs.Units.{rate_unit}
use Rattle.method.proofs.Quotients.{nat_exact, down_below_down, down_below_up, up_below_up}
use Rattle.zero_rates.specs.Rates.{compound}
use Rattle.zero_rates.specs.Meaning.{grown, exact_growth}

-- ---- one induction for both roundings

round_mono : (up : Bool) {a b : ℕ} → a ≤ b → round_ℕ up a rate_unit ≤ round_ℕ up b rate_unit
round_mono true h = up_below_up.below rate_unit h
round_mono false h = down_below_down.below rate_unit h

pub compound_mono : (up : Bool) {m k : ℕ} → m ≤ k → (t : ℕ) → compound up m t ≤ compound up k t
unfolding compound
compound_mono up h zero = le_refl U
compound_mono up h (suc t) = round_mono up (mul-le-mul (compound_mono up h t) h)

down_up : (m t : ℕ) → compound false m t ≤ compound true m t
unfolding compound
down_up m zero = le_refl U
down_up m (suc t) = down_below_up.below rate_unit (mul-le-mul_right m (down_up m t))

-- a larger multiplier, rounded up, ends strictly higher after one year and more
module _ {m k : ℕ} (h : m < k) where
  positive : (t : ℕ) → 0 < compound true k t
  unfolding compound
  positive zero = omega arith
  positive (suc t) = let product = mul-lt-mul_of_pos_left h (positive t) in omega arith

  pub compound_strict : (t : ℕ) → compound false m (suc t) < compound true k (suc t)
  unfolding compound
  compound_strict t =
      let lower = mul-le-mul_right m (le_trans (down_up m t) (compound_mono true {m = m} {k = k} (omega arith) t)) in
      let higher = mul-lt-mul_of_pos_left h (positive t) in
      omega arith

-- ---- at the rate of which m is the multiplier

module _ (m : ℕ) (z : ℤ) (is : pos 100_000 +ℤ z ≡ pos m) where
  round_pos : (up : Bool) (a : ℕ) → round_ℤ up (pos a) 100_000 ≡ pos (round_ℕ up a 100_000)
  round_pos true a = ceiling-pos a 100_000 (lit< tt)
  round_pos false a = refl

  pub grown_is : (up : Bool) (t : ℕ) → grown up z t ≡ pos (compound up m t)
  unfolding grown compound
  grown_is up zero = refl
  grown_is up (suc t) = rw (grown_is up t, is) (round_pos up (compound up m t * m))

  -- ---- and without rounding

  yearly : (nat_ℚ 100_000 +ℚ int_ℚ z) ÷ nat_ℚ 100_000 ≈ nat_ℚ m ÷ nat_ℚ rate_unit
  yearly =
      ÷-cong-left (nat_ℚ 100_000)
      (≈-trans (+ℚ-cong (≈-sym (int_ℚ-pos 100_000)) (≈-refl (int_ℚ z))) (≈-trans (≈-sym (intℚ-+ (pos 100_000) z)) (rw is (int_ℚ-pos m))))

powers_enclosed : (m t : ℕ) → Encloses (pos (compound false m t)) (pos (compound true m t)) (nat_ℚ U *ℚ pow_ℚ (nat_ℚ m ÷ nat_ℚ rate_unit) t)
unfolding compound pow_ℚ
powers_enclosed m zero = encloses-≈ (≈-sym (*ℚ-one (nat_ℚ U))) (nat_exact U)
powers_enclosed m (suc t) =
    let p : ℚ = pow_ℚ (nat_ℚ m ÷ nat_ℚ rate_unit) t in
    encloses-≈
    (ring_ℚ (nat_ℚ U ∷ p ∷ nat_ℚ m ∷ recip (nat_ℚ rate_unit) ∷ []) (((var 0 ⊗ var 1) ⊗ var 2) ⊗ var 3) (var 0 ⊗ (var 1 ⊗ (var 2 ⊗ var 3))) tt)
    (encloses_scaled (lit< tt) (powers_enclosed m t) (nat_exact m))

pub growth_enclosed : (m : ℕ) (z : ℤ) → pos 100_000 +ℤ z ≡ pos m → (t : ℕ) →
    Encloses (pos (compound false m t)) (pos (compound true m t)) (exact_growth z t)
unfolding exact_growth
growth_enclosed m z is t =
    encloses-≈ (*ℚ-cong-right (nat_ℚ U) (pow_ℚ_cong (≈-sym (yearly m z is)) t)) (powers_enclosed m t)
