-- A gap's trial: T1 to Tk, their sum and the last enclose the exact ones, for any length and any enclosed start and yearly factor.
use mathlib.Core.Path.{◌≡◌, ap, sym}
use mathlib.Core.List.{zip_with}
use Prim.Native.Nat.{ℕ, zero, suc, ◌+◌, ◌*◌, ◌/◌}
use native.Mathlib.Nat.{add-zero}
use native.Mathlib.Omega.{arith}
use lib.IntN.{pos}
use Rattle.fraction.specs.Fraction.{ℚ, ◌≈◌, nat_ℚ, ◌*ℚ◌, ◌÷◌, recip, pow_ℚ, sum_ℚ}
use Rattle.fraction.specs.Rounding.{U, ceil_div, Encloses}
use Rattle.fraction.proofs.Order.{≈-refl, ≈-sym, ≈-trans, ≡→≈}
use Rattle.fraction.proofs.Power.{sum_ℚ_cong, sum_ℚ-first}
use Rattle.fraction.proofs.Sum.{+ℚ-cong}
use Rattle.fraction.proofs.Product.{*ℚ-assoc, *ℚ-one}
use Rattle.fraction.proofs.Rounding.{U-positive}
use Rattle.fraction.proofs.Enclosure.{encloses-≈, encloses_scaled}
use Rattle.method.specs.Units.{pairs_of}
use Rattle.method.specs.Quotes.{trial, last_of}
use Rattle.method.specs.True.{billion, onward, between, sum_of}
use Rattle.method.proofs.Enclosed.{AllEnclosed, none, more}

pub onward-zero : (t x : ℚ) → onward t x 0 ≈ t
unfolding onward pow_ℚ
onward-zero t x = *ℚ-one t

pub onward-suc : (t x : ℚ) (j : ℕ) → (onward t x j *ℚ x) ÷ nat_ℚ U ≈ onward t x (suc j)
unfolding onward pow_ℚ
onward-suc t x j =
    ≈-trans (*ℚ-assoc (t *ℚ pow_ℚ (x ÷ billion) j) x (recip billion)) (*ℚ-assoc t (pow_ℚ (x ÷ billion) j) (x ÷ billion))

module _ (t : ℚ) {xl xh : ℕ} {x : ℚ} (hx : Encloses (pos xl) (pos xh) x) where
  next_encloses : (j tl th : ℕ) → Encloses (pos tl) (pos th) (onward t x j) →
      Encloses (pos (tl * xl / U)) (pos (ceil_div (th * xh) U)) (onward t x (suc j))
  next_encloses j tl th h = encloses-≈ (onward-suc t x j) (encloses_scaled U-positive h hx)

  pub trial_encloses : (k j tl th : ℕ) → Encloses (pos tl) (pos th) (onward t x j) →
      AllEnclosed (pairs_of (trial ◌/◌ tl xl k) (trial ceil_div th xh k)) (between t x (suc j) k)
  unfolding trial zip_with between
  trial_encloses zero j tl th h = none
  trial_encloses (suc k) j tl th h =
      let next = next_encloses j tl th h in
      more next (trial_encloses k (suc j) (tl * xl / U) (ceil_div (th * xh) U) next)

  pub last_encloses : (k j tl th : ℕ) → Encloses (pos tl) (pos th) (onward t x j) →
      Encloses (pos (last_of tl (trial ◌/◌ tl xl k))) (pos (last_of th (trial ceil_div th xh k))) (onward t x (j + k))
  unfolding trial last_of
  last_encloses zero j tl th h = rw (add-zero j) h
  last_encloses (suc k) j tl th h =
      let e : suc j + k ≡ j + suc k = omega arith in
      rw (← e) (last_encloses k (suc j) (tl * xl / U) (ceil_div (th * xh) U) (next_encloses j tl th h))

-- ---- the sum of the years of a gap, from the first or from the last

between_sum_from : (t x : ℚ) (k j : ℕ) → sum_of (between t x j k) ≈ sum_ℚ (λ i. onward t x (j + i)) k
unfolding between sum_of sum_ℚ
between_sum_from t x zero j = ≈-refl (nat_ℚ 0)
between_sum_from t x (suc k) j =
    ≈-trans
    (+ℚ-cong (≡→≈ (ap (onward t x) (sym (add-zero j)))) (≈-trans (between_sum_from t x k (suc j)) (sum_ℚ_cong _ _ k (λ i h. ≡→≈ (ap (onward t x) (shifted i))))))
    (≈-sym (sum_ℚ-first (λ i. onward t x (j + i)) k))
  where
    shifted : (i : ℕ) → suc j + i ≡ j + suc i
    shifted i = omega arith

pub between_sum : (t x : ℚ) (k : ℕ) → sum_of (between t x 1 k) ≈ sum_ℚ (λ j. onward t x (suc j)) k
between_sum t x k = ≈-trans (between_sum_from t x k 1) (sum_ℚ_cong _ _ k (λ i h. ≡→≈ (ap (onward t x) (next i))))
  where
    next : (i : ℕ) → 1 + i ≡ suc i
    next i = omega arith
