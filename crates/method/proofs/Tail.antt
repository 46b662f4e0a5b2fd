-- The tail of a sum whose terms at least halve, and that the 1 added to a high covers it. Both series use them.
use mathlib.Core.Path.{subst}
use mathlib.Core.List.{[], ◌∷◌}
use Prim.Native.Nat.{ℕ, zero, suc, ◌+◌, ◌≤◌}
use native.Mathlib.Nat.{add-zero, add-suc, le_dest}
use native.Mathlib.Omega.{arith}
use lib.IntN.{pos}
use Rattle.fraction.specs.Fraction.{ℚ, ◌≈◌, ◌≤ℚ◌, NonNegative, nat_ℚ, ◌+ℚ◌, ◌*ℚ◌, sum_ℚ}
use Rattle.fraction.specs.Rounding.{Encloses}
use Rattle.fraction.proofs.Order.{≤ℚ-refl, ≤ℚ-trans, ≤ℚ-≈-trans, ≈-≤ℚ-trans, ≈-sym}
use Rattle.fraction.proofs.Sum.{+ℚ-mono, +ℚ-mono-right, ≤-+ℚ-right}
use Rattle.fraction.proofs.Product.{*ℚ-non_negative, *ℚ-mono-right, *ℚ-+ℚ}
use Rattle.fraction.proofs.Power.{sum_ℚ_more}
use Rattle.fraction.proofs.Integer.{nat_ℚ_non_negative, natℚ-+}
use Rattle.fraction.proofs.Enclosure.{nat_encloses, nat_below, nat_above}
use Rattle.fraction.proofs.RingFraction.{ring_ℚ}
use Rattle.fraction.proofs.Ring.{var, con, ◌⊕◌, ◌⊗◌}

module _ (f : ℕ → ℚ) (n : (i : ℕ) → NonNegative (f i)) (k : ℕ) (halves : (i : ℕ) → k ≤ i → nat_ℚ 2 *ℚ f (suc i) ≤ℚ f i) where
  -- the sum with twice the next term does not grow
  falls : (c : ℕ) → sum_ℚ f (k + c) +ℚ nat_ℚ 2 *ℚ f (k + c) ≤ℚ sum_ℚ f k +ℚ nat_ℚ 2 *ℚ f k
  unfolding sum_ℚ
  falls zero = rw (add-zero k) (≤ℚ-refl (sum_ℚ f k +ℚ nat_ℚ 2 *ℚ f k))
  falls (suc c) =
      rw (add-suc k c)
      (≤ℚ-trans
      (≤ℚ-≈-trans (+ℚ-mono-right (sum_ℚ f (k + c) +ℚ f (k + c)) (halves (k + c) (omega arith))) (twice (sum_ℚ f (k + c)) (f (k + c))))
      (falls c))
    where
      twice : (s x : ℚ) → (s +ℚ x) +ℚ x ≈ s +ℚ nat_ℚ 2 *ℚ x
      twice s x = ring_ℚ (s ∷ x ∷ []) ((var 0 ⊕ var 1) ⊕ var 1) (var 0 ⊕ con 2 ⊗ var 1) tt

  -- so all terms from the k-th on come to at most twice the k-th
  pub tail-≤ : (j : ℕ) → k ≤ j → sum_ℚ f j ≤ℚ sum_ℚ f k +ℚ nat_ℚ 2 *ℚ f k
  tail-≤ j h =
      let c = le_dest h in
      subst (λ (m : ℕ). sum_ℚ f m ≤ℚ sum_ℚ f k +ℚ nat_ℚ 2 *ℚ f k) c.1
      (≤ℚ-trans (≤-+ℚ-right (sum_ℚ f (k + c.0)) (*ℚ-non_negative (nat_ℚ_non_negative 2) (n (k + c.0)))) (falls c.0))

  -- where that is at most m, a pair that encloses c × the first k terms encloses c × any longer sum once m is added to its high
  pub tail_covered : {c : ℚ} → NonNegative c → (m : ℕ) → c *ℚ (nat_ℚ 2 *ℚ f k) ≤ℚ nat_ℚ m → {low high : ℕ} →
      Encloses (pos low) (pos high) (c *ℚ sum_ℚ f k) → (j : ℕ) → k ≤ j → Encloses (pos low) (pos (high + m)) (c *ℚ sum_ℚ f j)
  tail_covered {c} p m small {low} {high} e j h =
      nat_encloses
      (≤ℚ-trans (nat_below e) (*ℚ-mono-right p (sum_ℚ_more f n k j h)))
      (≤ℚ-trans (*ℚ-mono-right p (tail-≤ j h))
      (≈-≤ℚ-trans (*ℚ-+ℚ c (sum_ℚ f k) (nat_ℚ 2 *ℚ f k)) (≤ℚ-≈-trans (+ℚ-mono (nat_above e) small) (≈-sym (natℚ-+ high m)))))
