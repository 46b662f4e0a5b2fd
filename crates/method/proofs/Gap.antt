-- A gap's yearly factor: the true one of every order is the largest of all multiples at which the exact swap is at most par,
-- and it lies from the low x to the high x. For any gap that passes ground 9.
use mathlib.Core.Path.{◌≡◌, ap, subst}
use mathlib.Core.Bool.{Bool, true, false}
use mathlib.Core.Logic.{◌⊎◌, inl, inr}
use Prim.Native.Nat.{ℕ, zero, suc, ◌+◌, ◌*◌, ◌^◌, ◌≤◌, ◌<◌}
use native.Mathlib.Nat.{le-suc_iff, one-le-pow}
use native.Mathlib.Decide.{dec_le}
use native.Mathlib.Omega.{arith}
use borrow.Author.Tests.{leb-true, le-leb}
use lib.Dec.{T}
use lib.Pow.{pow-add}
use lib.IntN.{ℤ, pos}
use Rattle.fraction.specs.Fraction.{ℚ, ◌≈◌, ◌≤ℚ◌, ◌<ℚ◌, le_ℚ, nat_ℚ, int_ℚ, recip}
use Rattle.fraction.specs.Rounding.{U, Encloses}
use Rattle.fraction.proofs.Order.{≤ℚ-≈-trans, ≈-≤ℚ-trans, ≈-refl, ≈-sym, ≈-trans, ≡→≈, ≤ℚ-total, <ℚ-not-≤ℚ, ≤ℚ-<ℚ-trans}
use Rattle.fraction.proofs.Sum.{+ℚ-cong}
use Rattle.fraction.proofs.Product.{*ℚ-assoc, *ℚ-cong-right, *ℚ-mono-right, *ℚ-strict-right}
use Rattle.fraction.proofs.Integer.{nat_ℚ_mono, nat_ℚ_strict, natℚ-*, nat_ℚ_positive, nat_ℚ_non_negative}
use Rattle.fraction.proofs.Quotient.{÷-unique, ÷-mono-left, ÷-strict-left, ÷-cong-left}
use Rattle.fraction.proofs.Power.{pow_ℚ_cong, sum_ℚ_cong}
use Rattle.fraction.proofs.Enclosure.{nat_encloses, encloses_non_negative, encloses_positive}
use Rattle.method.specs.Quotes.{Gap, low_x, high_x, lower_end, upper_end, surely_not_above, surely_not_below}
use Rattle.method.specs.True as true
use Rattle.method.specs.True.{billion, onward, swap_value, multiple, largest, chosen}
use Rattle.method.proofs.HalvingLaws.{low_x_passes, high_x_passes, high_x-within}
use Rattle.method.proofs.Par.{par_ℚ}
use Rattle.method.proofs.Swap.{not_above, not_below}
use Rattle.method.proofs.Crossing.{crossing}
use Rattle.method.proofs.Outcome.{split}

-- ---- the largest number up to a bound that passes

module _ (p : ℕ → Bool) where
  -- one that passes stands below the last, where the last does not
  below_last : (b m : ℕ) → m ≤ suc b → p m ≡ true → p (suc b) ≡ false → m ≤ b
  below_last b m h e q = go (le-suc_iff.0 h)
    where
      go : (m ≤ b) ⊎ (m ≡ suc b) → m ≤ b
      go (inl l) = l
      go (inr i) = let z : true ≡ false = cc in absurd (subst T z tt)

  largest_passes : (b m : ℕ) → m ≤ b → p m ≡ true → p (largest p b) ≡ true
  unfolding largest
  largest_passes zero m h e = let z : m ≡ 0 = omega arith in rw z at e
  largest_passes (suc b) m h e =
      split (p (suc b)) (λ q. rw q q) (λ q. rw q (largest_passes b m (below_last b m h e q) e))

  largest_above : (b m : ℕ) → m ≤ b → p m ≡ true → m ≤ largest p b
  unfolding largest
  largest_above zero m h e = h
  largest_above (suc b) m h e =
      split (p (suc b)) (λ q. rw q h) (λ q. rw q (largest_above b m (below_last b m h e q) e))

-- ---- multiples of 10^-(9 + n), times U

ten_positive : (i : ℕ) → 0 < 10 ^ i
ten_positive i = one-le-pow i 10 (omega arith)

pub multiple_whole : (n x : ℕ) → multiple n (x * 10 ^ n) ≈ nat_ℚ x
unfolding multiple
multiple_whole n x =
    ≈-trans (≈-sym (*ℚ-assoc billion (nat_ℚ (x * 10 ^ n)) (recip (nat_ℚ (10 ^ (9 + n))))))
    (≈-sym (÷-unique (nat_ℚ_positive (ten_positive (9 + n))) (≈-trans (≈-sym (natℚ-* x (10 ^ (9 + n)))) (≈-trans (≡→≈ (ap nat_ℚ same)) (natℚ-* U (x * 10 ^ n))))))
  where
    same : x * 10 ^ (9 + n) ≡ U * (x * 10 ^ n)
    same = rw (pow-add 10 9 n) (omega arith)

pub multiple_mono : (n : ℕ) {i j : ℕ} → i ≤ j → multiple n i ≤ℚ multiple n j
unfolding multiple
multiple_mono n h = *ℚ-mono-right (nat_ℚ_non_negative U) (÷-mono-left _ (nat_ℚ_mono h))

pub multiple_strict : (n : ℕ) {i j : ℕ} → i < j → multiple n i <ℚ multiple n j
unfolding multiple
multiple_strict n h = *ℚ-strict-right (nat_ℚ_positive (omega arith)) (÷-strict-left (nat_ℚ_positive (ten_positive (9 + n))) (nat_ℚ_strict h))

onward_cong : (t : ℚ) {x y : ℚ} → x ≈ y → (j : ℕ) → onward t x j ≈ onward t y j
unfolding onward
onward_cong t e j = *ℚ-cong-right t (pow_ℚ_cong (÷-cong-left billion e) j)

swap_value_cong : (r : ℤ) (a t : ℚ) (k : ℕ) {x y : ℚ} → x ≈ y → swap_value r a t k x ≈ swap_value r a t k y
unfolding swap_value
swap_value_cong r a t k e =
    +ℚ-cong (*ℚ-cong-right (int_ℚ r) (+ℚ-cong (≈-refl a) (sum_ℚ_cong _ _ k (λ j l. onward_cong t e (suc j)))))
    (*ℚ-cong-right (nat_ℚ 100_000) (onward_cong t e k))

≤-or-< : (m b : ℕ) → (m ≤ b) ⊎ (b < m)
≤-or-< m b = go (dec_le m b)
  where
    go : Dec (m ≤ b) → (m ≤ b) ⊎ (b < m)
    go (yes h) = inl h
    go (no h) = inr (omega arith)

-- ---- a gap that passes ground 9

pub record PassesEnds (g : Gap) : Type 0 where
  pub lower : surely_not_above g lower_end ≡ true
  pub upper : surely_not_below g upper_end ≡ true

le_ℚ-true : {x y : ℚ} → le_ℚ x y ≡ true → x ≤ℚ y
le_ℚ-true e = record { le = leb-true _ _ e }

≤ℚ-true : {x y : ℚ} → x ≤ℚ y → le_ℚ x y ≡ true
≤ℚ-true h = le-leb _ _ h.le

module _ (n k : ℕ) (g : Gap) (ends : PassesEnds g) (hk : g.years ≡ suc k) {a t : ℚ}
    (ha : Encloses (pos g.annuity.low) (pos g.annuity.high) a)
    (ht : Encloses (pos g.start.low) (pos g.start.high) t)
    (h1 : 0 < g.start.low) where
  abbrev passes : ℕ → Bool
  passes m = true.at_most_par n g.rate a t g.years m

  low_passes : passes (low_x g * 10 ^ n) ≡ true
  unfolding true.at_most_par
  low_passes =
      let same-value = swap_value_cong g.rate a t g.years (multiple_whole n (low_x g)) in
      ≤ℚ-true (≈-≤ℚ-trans same-value (not_above g ha ht (low_x g) (low_x_passes g ends.lower)))

  -- what passes is at most the high x
  at_most_high : (m : ℕ) → passes m ≡ true → multiple n m ≤ℚ nat_ℚ (high_x g)
  unfolding true.at_most_par
  at_most_high m e = go (≤ℚ-total (multiple n m) (nat_ℚ (high_x g)))
    where
      above : par_ℚ ≤ℚ swap_value g.rate a t (suc k) (nat_ℚ (high_x g))
      above = subst (λ (j : ℕ). par_ℚ ≤ℚ swap_value g.rate a t j (nat_ℚ (high_x g))) hk (not_below g ha ht (high_x g) (high_x_passes g ends.upper))

      go : (multiple n m ≤ℚ nat_ℚ (high_x g)) ⊎ (nat_ℚ (high_x g) <ℚ multiple n m) → multiple n m ≤ℚ nat_ℚ (high_x g)
      go (inl l) = l
      go (inr l) =
          absurd
          (<ℚ-not-≤ℚ
          (crossing k (encloses_non_negative ha) (encloses_positive h1 ht) (nat_ℚ_positive (omega (arith, high_x-within g))) l g.rate above)
          (subst (λ (j : ℕ). swap_value g.rate a t j (multiple n m) ≤ℚ par_ℚ) hk (le_ℚ-true e)))

  -- so it is within the search's bound
  within_bound : (m : ℕ) → passes m ≡ true → m ≤ 2 * 10 ^ (9 + n)
  within_bound m e = go (≤-or-< m (2 * 10 ^ (9 + n)))
    where
      bound : 2 * 10 ^ (9 + n) ≡ 2_000_000_000 * 10 ^ n
      bound = rw (pow-add 10 9 n) (omega arith)

      go : (m ≤ 2 * 10 ^ (9 + n)) ⊎ (2 * 10 ^ (9 + n) < m) → m ≤ 2 * 10 ^ (9 + n)
      go (inl l) = l
      go (inr l) =
          absurd
          (<ℚ-not-≤ℚ
          (≤ℚ-<ℚ-trans (≤ℚ-≈-trans (nat_ℚ_mono (omega (arith, high_x-within g))) (≈-sym (multiple_whole n 2_000_000_000))) (multiple_strict n (rw bound at l)))
          (at_most_high m e))

  -- SPECIFICATION 6: the largest multiple, from 0 up, at which the swap's value is at most par; no bound is left
  pub chosen_passes : passes (chosen n g.rate a t g.years) ≡ true
  unfolding chosen
  chosen_passes = largest_passes passes (2 * 10 ^ (9 + n)) (low_x g * 10 ^ n) (within_bound _ low_passes) low_passes

  pub chosen-largest : (m : ℕ) → passes m ≡ true → m ≤ chosen n g.rate a t g.years
  unfolding chosen
  chosen-largest m e = largest_above passes (2 * 10 ^ (9 + n)) m (within_bound m e) e

  pub yearly_encloses : Encloses (pos (low_x g)) (pos (high_x g)) (multiple n (chosen n g.rate a t g.years))
  yearly_encloses =
      nat_encloses (≈-≤ℚ-trans (≈-sym (multiple_whole n (low_x g))) (multiple_mono n (chosen-largest (low_x g * 10 ^ n) low_passes)))
      (at_most_high (chosen n g.rate a t g.years) chosen_passes)
