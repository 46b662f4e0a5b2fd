-- k(h) of the true curve depends on the value of α alone, and it is at most 1: q = e^-α is at least 1 - α, because e^α is at most
-- 1 + α + α^2 at every order, and (1 + α + α^2)(1 - α) is 1 - α^3.
use mathlib.Core.List.{[], ◌∷◌}
use Prim.Native.Nat.{ℕ, zero, suc, ◌-◌}
use native.Mathlib.Omega.{arith}
use Rattle.fraction.specs.Fraction.{ℚ, ◌≈◌, ◌≤ℚ◌, NonNegative, Positive, nat_ℚ, ◌+ℚ◌, ◌-ℚ◌, ◌*ℚ◌, ◌÷◌, recip, pow_ℚ, sum_ℚ}
use Rattle.fraction.proofs.Order.{≤ℚ-refl, ≤ℚ-trans, ≤ℚ-≈-trans, ≈-≤ℚ-trans, ≈-refl, ≈-trans, ≈→≤, positive→non_negative}
use Rattle.fraction.proofs.Decide.{computes, le_ℚ→≤}
use Rattle.fraction.proofs.Sum.{+ℚ-cong, +ℚ-mono-left, neg_ℚ_cong, ≤→difference, ≤-+ℚ-right}
use Rattle.fraction.proofs.Product.{*ℚ-cong, *ℚ-cong-right, *ℚ-one, *ℚ-mono, *ℚ-mono-left, *ℚ-mono-right, *ℚ-non_negative}
use Rattle.fraction.proofs.Product.{*ℚ-cancel-≤-left}
use Rattle.fraction.proofs.Quotient.{*ℚ-recip, recip_cong, recip_anti, recip_non_negative}
use Rattle.fraction.proofs.Power.{pow_ℚ_cong, pow_ℚ-falls}
use Rattle.fraction.proofs.Integer.{nat_ℚ_non_negative, nat_ℚ_positive}
use Rattle.fraction.proofs.Ring.{var, con, ⊖, ◌⊕◌, ◌⊗◌}
use Rattle.fraction.proofs.RingFraction.{ring_ℚ}
use Rattle.method.specs.True.{factorial, exp_sum, decay, convergence}
use Rattle.method.proofs.Step.{recip_one}
use Rattle.method.proofs.Growth.{exp_term, exp_sum_cong, exp_sum-≤, exp_sum-≥-1, exp_sum_positive}

twice_half : nat_ℚ 2 *ℚ recip (nat_ℚ 2) ≈ nat_ℚ 1
twice_half = *ℚ-recip (nat_ℚ_positive (omega arith))

-- the first two terms, and twice the third
three_terms : (y : ℚ) → sum_ℚ (exp_term y) 2 +ℚ nat_ℚ 2 *ℚ exp_term y 2 ≈ nat_ℚ 1 +ℚ y +ℚ y *ℚ y
unfolding sum_ℚ pow_ℚ factorial
three_terms y =
    let one : ℚ = recip (nat_ℚ 1) in
    let half : ℚ = recip (nat_ℚ 2) in
    ≈-trans
    (ring_ℚ (y ∷ one ∷ half ∷ [])
    ((con 0 ⊕ con 1 ⊗ var 1) ⊕ (con 1 ⊗ var 0) ⊗ var 1 ⊕ con 2 ⊗ (((con 1 ⊗ var 0) ⊗ var 0) ⊗ var 2))
    ((con 1 ⊕ var 0) ⊗ var 1 ⊕ (var 0 ⊗ var 0) ⊗ (con 2 ⊗ var 2))
    tt)
    (+ℚ-cong
    (≈-trans (*ℚ-cong-right (nat_ℚ 1 +ℚ y) recip_one) (*ℚ-one (nat_ℚ 1 +ℚ y)))
    (≈-trans (*ℚ-cong-right (y *ℚ y) twice_half) (*ℚ-one (y *ℚ y))))

-- ---- by the value of α

module _ (n : ℕ) {α β : ℚ} (p : Positive α) (e : α ≈ β) where
  decay_cong : decay n α ≈ decay n β
  unfolding decay
  decay_cong = recip_cong (exp_sum_positive n (positive→non_negative p)) (exp_sum_cong n e)

  pub convergence_cong : (h : ℕ) → convergence n α h ≈ convergence n β h
  unfolding convergence
  convergence_cong h =
      *ℚ-cong (*ℚ-cong (recip_cong p e) (pow_ℚ_cong decay_cong (h - 1))) (+ℚ-cong (≈-refl (nat_ℚ 1)) (neg_ℚ_cong decay_cong))

-- ---- at most 1, for α up to 1/5

abbrev fifth : ℚ
fifth = nat_ℚ 1 ÷ nat_ℚ 5

twice_fifth : nat_ℚ 2 *ℚ fifth ≤ℚ nat_ℚ 3
unfolding computes
twice_fifth = le_ℚ→≤ tt

fifth-≤-1 : fifth ≤ℚ nat_ℚ 1
unfolding computes
fifth-≤-1 = le_ℚ→≤ tt

power-≤-1 : {x : ℚ} → NonNegative x → x ≤ℚ nat_ℚ 1 → (i : ℕ) → pow_ℚ x i ≤ℚ nat_ℚ 1
unfolding pow_ℚ
power-≤-1 p h zero = ≤ℚ-refl (nat_ℚ 1)
power-≤-1 p h (suc i) = ≤ℚ-trans (pow_ℚ-falls p h i) (power-≤-1 p h i)

less-≤ : (x : ℚ) {y : ℚ} → NonNegative y → x -ℚ y ≤ℚ x
less-≤ x {y} h = ≤ℚ-≈-trans (≤-+ℚ-right (x -ℚ y) h) (ring_ℚ (x ∷ y ∷ []) (var 0 ⊕ ⊖ (var 1) ⊕ var 1) (var 0) tt)

module _ (n : ℕ) {α : ℚ} (p : Positive α) (h : α ≤ℚ fifth) where
  some : NonNegative α
  some = positive→non_negative p

  sum_most : exp_sum n α ≤ℚ nat_ℚ 1 +ℚ α +ℚ α *ℚ α
  sum_most =
      ≤ℚ-≈-trans (exp_sum-≤ n some 2 (omega arith) (≤ℚ-trans (*ℚ-mono-right (nat_ℚ_non_negative 2) h) twice_fifth)) (three_terms α)

  -- E (1 - α) is at most 1
  product_most : exp_sum n α *ℚ (nat_ℚ 1 -ℚ α) ≤ℚ nat_ℚ 1
  product_most =
      ≤ℚ-trans (*ℚ-mono-left (≤→difference (≤ℚ-trans h fifth-≤-1)) sum_most)
      (≈-≤ℚ-trans
      (ring_ℚ (α ∷ []) ((con 1 ⊕ var 0 ⊕ var 0 ⊗ var 0) ⊗ (con 1 ⊕ ⊖ (var 0))) (con 1 ⊕ ⊖ (var 0 ⊗ var 0 ⊗ var 0)) tt)
      (less-≤ (nat_ℚ 1) (*ℚ-non_negative (*ℚ-non_negative some some) some)))

  pub decay_non_negative : NonNegative (decay n α)
  unfolding decay
  decay_non_negative = recip_non_negative (exp_sum n α)

  pub decay-≤-1 : decay n α ≤ℚ nat_ℚ 1
  unfolding decay
  decay-≤-1 = ≤ℚ-trans (recip_anti (nat_ℚ_positive (omega arith)) (exp_sum-≥-1 n some)) (≈→≤ recip_one)

  -- 1 - q is at most α: times E it is E - 1, and E (1 - α) is at most 1
  rest_most : nat_ℚ 1 -ℚ decay n α ≤ℚ α
  unfolding decay
  rest_most =
      let E : ℚ = exp_sum n α in
      let q : ℚ = recip E in
      *ℚ-cancel-≤-left (exp_sum_positive n some)
      (≈-≤ℚ-trans
      (≈-trans (ring_ℚ (E ∷ q ∷ []) ((con 1 ⊕ ⊖ (var 1)) ⊗ var 0) (var 0 ⊕ ⊖ (var 0 ⊗ var 1)) tt)
      (≈-trans (+ℚ-cong (≈-refl E) (neg_ℚ_cong (*ℚ-recip (exp_sum_positive n some))))
      (ring_ℚ (E ∷ α ∷ []) (var 0 ⊕ ⊖ (con 1)) (var 0 ⊗ (con 1 ⊕ ⊖ (var 1)) ⊕ (var 1 ⊗ var 0 ⊕ ⊖ (con 1))) tt)))
      (≤ℚ-≈-trans (+ℚ-mono-left (α *ℚ E -ℚ nat_ℚ 1) product_most) (ring_ℚ (E ∷ α ∷ []) (con 1 ⊕ (var 1 ⊗ var 0 ⊕ ⊖ (con 1))) (var 1 ⊗ var 0) tt)))

  pub convergence_most : (h : ℕ) → convergence n α h ≤ℚ nat_ℚ 1
  unfolding convergence
  convergence_most h =
      let power = *ℚ-mono-right (recip_non_negative α) (power-≤-1 decay_non_negative decay-≤-1 (h - 1)) in
      ≤ℚ-trans (*ℚ-mono (*ℚ-non_negative (recip_non_negative α) (nat_ℚ_non_negative 1)) (≤→difference decay-≤-1) power rest_most)
      (≈→≤ (≈-trans (ring_ℚ (α ∷ recip α ∷ []) ((var 1 ⊗ con 1) ⊗ var 0) (var 0 ⊗ var 1) tt) (*ℚ-recip p)))
