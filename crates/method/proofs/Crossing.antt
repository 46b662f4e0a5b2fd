-- Single crossing: where the exact swap is at par or above at a yearly factor, it is above par at every larger one.
-- For any rate and any gap length.
use mathlib.Core.Path.{subst}
use mathlib.Core.List.{[], ◌∷◌}
use Prim.Native.Nat.{ℕ, suc, ◌+◌, ◌≤◌}
use native.Mathlib.Nat.{le_dest}
use native.Mathlib.Omega.{arith}
use lib.IntN.{ℤ, pos, negsuc}
use Rattle.fraction.specs.Fraction.{ℚ, ◌≈◌, ◌≤ℚ◌, ◌<ℚ◌, NonNegative, Positive, nat_ℚ, int_ℚ, neg_ℚ, ◌+ℚ◌, ◌*ℚ◌, ◌÷◌, pow_ℚ, sum_ℚ}
use Rattle.fraction.proofs.Order.{≤ℚ-trans, ≤ℚ-refl, ≤ℚ-≈-trans, ≈-≤ℚ-trans, ≈→≤, ≈→≥, ≈-refl, ≈-sym, ≈-trans}
use Rattle.fraction.proofs.Order.{<ℚ→≤ℚ, <ℚ-≤ℚ-trans, ≤ℚ-<ℚ-trans, positive→non_negative, non_negative_up}
use Rattle.fraction.proofs.Sum.{+ℚ-mono, +ℚ-mono-left, +ℚ-cong, +ℚ-strict, +ℚ-strict-left, +ℚ-strict-right, +ℚ-positive, neg_ℚ_cong}
use Rattle.fraction.proofs.Product.{*ℚ-comm, *ℚ-cong-left, *ℚ-mono-left, *ℚ-mono-right, *ℚ-strict-left}
use Rattle.fraction.proofs.Product.{*ℚ-strict-right, *ℚ-non_negative, *ℚ-positive, *ℚ-cancel-<-left}
use Rattle.fraction.proofs.Integer.{nat_ℚ_non_negative, nat_ℚ_positive, int_ℚ-pos, int_ℚ_neg}
use Rattle.fraction.proofs.Quotient.{÷-strict-left, ÷-positive}
use Rattle.fraction.proofs.Power.{pow_ℚ_non_negative, pow_ℚ_mono, pow_ℚ_strict, powℚ-+, sum_ℚ_mono, sum_ℚ_scale}
use Rattle.fraction.proofs.Ring.{var, con, ⊖, ◌⊕◌, ◌⊗◌}
use Rattle.fraction.proofs.RingFraction.{ring_ℚ}
use Rattle.method.specs.True.{billion, onward, swap_value}
use Rattle.method.proofs.Par.{par_ℚ, rate_non_negative}

-- ---- powers of two bases u ≤ w, crosswise

module _ {u w : ℚ} (hu : NonNegative u) (huw : u ≤ℚ w) where
  pow_cross : (j k : ℕ) → j ≤ k → pow_ℚ u k *ℚ pow_ℚ w j ≤ℚ pow_ℚ w k *ℚ pow_ℚ u j
  pow_cross j k h =
      let d = le_dest h in
      subst (λ (m : ℕ). pow_ℚ u m *ℚ pow_ℚ w j ≤ℚ pow_ℚ w m *ℚ pow_ℚ u j) d.1 (go d.0)
    where
      hw : NonNegative w
      hw = non_negative_up hu huw

      swapped : (a b c : ℚ) → (a *ℚ b) *ℚ c ≈ (c *ℚ b) *ℚ a
      swapped a b c = ring_ℚ (a ∷ b ∷ c ∷ []) ((var 0 ⊗ var 1) ⊗ var 2) ((var 2 ⊗ var 1) ⊗ var 0) tt

      go : (i : ℕ) → pow_ℚ u (j + i) *ℚ pow_ℚ w j ≤ℚ pow_ℚ w (j + i) *ℚ pow_ℚ u j
      go i =
          ≈-≤ℚ-trans (*ℚ-cong-left (pow_ℚ w j) (powℚ-+ u j i))
          (≤ℚ-trans (*ℚ-mono-left (pow_ℚ_non_negative hw j) (*ℚ-mono-right (pow_ℚ_non_negative hu j) (pow_ℚ_mono hu huw i)))
          (≈-≤ℚ-trans (swapped (pow_ℚ u j) (pow_ℚ w i) (pow_ℚ w j)) (≈→≤ (*ℚ-cong-left (pow_ℚ u j) (≈-sym (powℚ-+ w j i))))))

  -- the same of onward factors and of their sum over the years of a gap
  onward_cross : {t : ℚ} → NonNegative t → (j k : ℕ) → j ≤ k → pow_ℚ u k *ℚ (t *ℚ pow_ℚ w j) ≤ℚ pow_ℚ w k *ℚ (t *ℚ pow_ℚ u j)
  onward_cross {t} ht j k h =
      ≈-≤ℚ-trans (out (pow_ℚ u k) t (pow_ℚ w j))
      (≤ℚ-≈-trans (*ℚ-mono-right ht (pow_cross j k h)) (≈-sym (out (pow_ℚ w k) t (pow_ℚ u j))))
    where
      out : (a b c : ℚ) → a *ℚ (b *ℚ c) ≈ b *ℚ (a *ℚ c)
      out a b c = ring_ℚ (a ∷ b ∷ c ∷ []) (var 0 ⊗ (var 1 ⊗ var 2)) (var 1 ⊗ (var 0 ⊗ var 2)) tt

  sum_cross : {t : ℚ} → NonNegative t → (k n : ℕ) → n ≤ k →
      pow_ℚ u k *ℚ sum_ℚ (λ j. t *ℚ pow_ℚ w (suc j)) n ≤ℚ pow_ℚ w k *ℚ sum_ℚ (λ j. t *ℚ pow_ℚ u (suc j)) n
  sum_cross {t} ht k n h =
      ≈-≤ℚ-trans (sum_ℚ_scale (pow_ℚ u k) (λ j. t *ℚ pow_ℚ w (suc j)) n)
      (≤ℚ-≈-trans (sum_ℚ_mono _ _ n (λ j l. onward_cross ht (suc j) k (omega arith)))
      (≈-sym (sum_ℚ_scale (pow_ℚ w k) (λ j. t *ℚ pow_ℚ u (suc j)) n)))

-- ---- a rate below 0: its part of the value stands on par's side

over : (p σ s e : ℚ) → p ≤ℚ neg_ℚ σ *ℚ s +ℚ e → p +ℚ σ *ℚ s ≤ℚ e
over p σ s e h =
    ≤ℚ-≈-trans (+ℚ-mono-left (σ *ℚ s) h)
    (ring_ℚ (σ ∷ s ∷ e ∷ []) ((⊖ (var 0) ⊗ var 1 ⊕ var 2) ⊕ var 0 ⊗ var 1) (var 2) tt)

back : (p σ s e : ℚ) → p +ℚ σ *ℚ s <ℚ e → p <ℚ neg_ℚ σ *ℚ s +ℚ e
back p σ s e h =
    ≤ℚ-<ℚ-trans (≈→≤ (ring_ℚ (p ∷ σ ∷ s ∷ []) (var 0) ((var 0 ⊕ var 1 ⊗ var 2) ⊕ ⊖ (var 1) ⊗ var 2) tt))
    (<ℚ-≤ℚ-trans (+ℚ-strict-left (neg_ℚ σ *ℚ s) h)
    (≈→≤ (ring_ℚ (σ ∷ s ∷ e ∷ []) (var 2 ⊕ ⊖ (var 0) ⊗ var 1) (⊖ (var 0) ⊗ var 1 ⊕ var 2) tt)))

-- with the annuity a + s and the last factor l at u, and a + s' and l' at w: U = u^k, W = w^k
lifted : (p σ a s s' l l' U W : ℚ) → Positive p → NonNegative σ → NonNegative a → NonNegative U → U <ℚ W → U *ℚ s' ≤ℚ W *ℚ s → W *ℚ l ≈ U *ℚ l' →
    p +ℚ σ *ℚ (a +ℚ s) ≤ℚ l → p +ℚ σ *ℚ (a +ℚ s') <ℚ l'
lifted p σ a s s' l l' U W hp hσ ha hU hUW hs hl h =
    *ℚ-cancel-<-left hU
    (<ℚ-≤ℚ-trans
    (≤ℚ-<ℚ-trans
    (≈→≤ (ring_ℚ (p ∷ σ ∷ a ∷ s' ∷ U ∷ []) ((var 0 ⊕ var 1 ⊗ (var 2 ⊕ var 3)) ⊗ var 4) (var 4 ⊗ (var 0 ⊕ var 1 ⊗ var 2) ⊕ var 1 ⊗ (var 4 ⊗ var 3)) tt))
    (+ℚ-strict (*ℚ-strict-left (+ℚ-positive hp (*ℚ-non_negative hσ ha)) hUW) (*ℚ-mono-right hσ hs)))
    (≈-≤ℚ-trans
    (ring_ℚ (p ∷ σ ∷ a ∷ s ∷ W ∷ []) (var 4 ⊗ (var 0 ⊕ var 1 ⊗ var 2) ⊕ var 1 ⊗ (var 4 ⊗ var 3)) (var 4 ⊗ (var 0 ⊕ var 1 ⊗ (var 2 ⊕ var 3))) tt)
    (≤ℚ-≈-trans (*ℚ-mono-right (non_negative_up hU (<ℚ→≤ℚ hUW)) h) (≈-trans hl (*ℚ-comm U l')))))

-- ---- the crossing

pub par_ℚ_positive : Positive par_ℚ
par_ℚ_positive = *ℚ-positive (nat_ℚ_positive (omega arith)) (nat_ℚ_positive (omega arith))

module _ (k : ℕ) {a t x y : ℚ} (ha : NonNegative a) (ht : Positive t) (hx : Positive x) (hxy : x <ℚ y) where
  u_positive : Positive (x ÷ billion)
  u_positive = ÷-positive hx (nat_ℚ_positive (omega arith))

  u_below : x ÷ billion <ℚ y ÷ billion
  u_below = ÷-strict-left (nat_ℚ_positive (omega arith)) hxy

  u_non_negative : NonNegative (x ÷ billion)
  u_non_negative = positive→non_negative u_positive

  year_mono : (j : ℕ) → t *ℚ pow_ℚ (x ÷ billion) (suc j) ≤ℚ t *ℚ pow_ℚ (y ÷ billion) (suc j)
  year_mono j = *ℚ-mono-right (positive→non_negative ht) (pow_ℚ_mono u_non_negative (<ℚ→≤ℚ u_below) (suc j))

  pub crossing : (r : ℤ) → par_ℚ ≤ℚ swap_value r a t (suc k) x → par_ℚ <ℚ swap_value r a t (suc k) y
  unfolding swap_value onward
  crossing (pos n) h =
      ≤ℚ-<ℚ-trans h
      (+ℚ-strict-right
      (*ℚ-mono-right (rate_non_negative n) (+ℚ-mono (≤ℚ-refl a) (sum_ℚ_mono _ _ (suc k) (λ j l. year_mono j))))
      (*ℚ-strict-right (nat_ℚ_positive (omega arith)) (*ℚ-strict-right ht (pow_ℚ_strict u_positive u_below k))))
  crossing (negsuc n) h =
      <ℚ-≤ℚ-trans
      (back par_ℚ σ (a +ℚ S y) (E y)
      (lifted par_ℚ σ a (S x) (S y) (E x) (E y) (pow_ℚ (x ÷ billion) (suc k)) (pow_ℚ (y ÷ billion) (suc k)) par_ℚ_positive
      (nat_ℚ_non_negative (suc n)) ha (pow_ℚ_non_negative u_non_negative (suc k)) (pow_ℚ_strict u_positive u_below k)
      (sum_cross u_non_negative (<ℚ→≤ℚ u_below) (positive→non_negative ht) (suc k) (suc k) (omega arith))
      (exchanged (pow_ℚ (y ÷ billion) (suc k)) (pow_ℚ (x ÷ billion) (suc k)))
      (over par_ℚ σ (a +ℚ S x) (E x) (≤ℚ-≈-trans h (moved (a +ℚ S x) (E x))))))
      (≈→≥ (moved (a +ℚ S y) (E y)))
    where
      σ : ℚ
      σ = nat_ℚ (suc n)

      S : ℚ → ℚ
      S z = sum_ℚ (λ j. t *ℚ pow_ℚ (z ÷ billion) (suc j)) (suc k)

      E : ℚ → ℚ
      E z = nat_ℚ 100_000 *ℚ (t *ℚ pow_ℚ (z ÷ billion) (suc k))

      moved : (s e : ℚ) → int_ℚ (negsuc n) *ℚ s +ℚ e ≈ neg_ℚ σ *ℚ s +ℚ e
      moved s e = +ℚ-cong (*ℚ-cong-left s (≈-trans (int_ℚ_neg (pos (suc n))) (neg_ℚ_cong (int_ℚ-pos (suc n))))) (≈-refl e)

      exchanged : (v w : ℚ) → v *ℚ (nat_ℚ 100_000 *ℚ (t *ℚ w)) ≈ w *ℚ (nat_ℚ 100_000 *ℚ (t *ℚ v))
      exchanged v w = ring_ℚ (v ∷ w ∷ t ∷ []) (var 0 ⊗ (con 100_000 ⊗ (var 2 ⊗ var 1))) (var 1 ⊗ (con 100_000 ⊗ (var 2 ⊗ var 0))) tt
