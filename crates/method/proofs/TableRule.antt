-- The rule of the table K, at every order: K(h) is the whole part of U × k(h). One computed test goes over all entries; the
-- test and the lemma that slots it into the rule hold for any list and any ends of q.
use mathlib.Core.Path.{◌≡◌, refl}
use mathlib.Core.Bool.{Bool, true, ◌&&◌, and-eq-true_iff}
use mathlib.Core.List.{List, [], ◌∷◌}
use Prim.Native.Nat.{ℕ, zero, suc, ◌+◌, ◌*◌, ◌-◌, ◌^◌, ◌≤◌, ◌<◌}
use native.Mathlib.Nat.{pow-suc, one-le-pow, add-zero, le_of_suc-le-suc, not-suc-le-zero, le_trans}
use native.Mathlib.Decide.{dec_le}
use native.Mathlib.Omega.{arith}
use lib.Dec.{leb, ltb, lit<, lit≤}
use lib.ListN.{length, get_or, get_or-eq_default}
use borrow.Author.Tests.{leb-true, ltb-true}
use Rattle.fraction.specs.Fraction.{ℚ, ◌≈◌, ◌≤ℚ◌, ◌<ℚ◌, NonNegative, Positive, nat_ℚ, ◌+ℚ◌, ◌-ℚ◌, ◌*ℚ◌, ◌÷◌, recip, pow_ℚ, sum_ℚ}
use Rattle.fraction.specs.Rounding.{U}
use Rattle.fraction.proofs.Order.{≤ℚ-trans, ≤ℚ-≈-trans, ≈-≤ℚ-trans, ≈→≤, ≈→≥, ≈-sym, ≈-trans, <ℚ-≤ℚ-trans}
use Rattle.fraction.proofs.Order.{≤ℚ-<ℚ-trans, non_negative_up, positive→non_negative, positive_up}
use Rattle.fraction.proofs.Sum.{+ℚ-mono-right, neg_ℚ_anti}
use Rattle.fraction.proofs.Product.{*ℚ-cong-left, *ℚ-cong-right, *ℚ-mono, *ℚ-mono-right, *ℚ-cancel-≤-left, *ℚ-cancel-<-left}
use Rattle.fraction.proofs.Quotient.{recip_anti, ÷-non_negative}
use Rattle.fraction.proofs.Power.{pow_ℚ_mono, powℚ-*ℚ, natℚ-^}
use Rattle.fraction.proofs.Integer.{nat_ℚ_non_negative, nat_ℚ_positive, nat_ℚ_mono, nat_ℚ_strict, nat_ℚ_reflects, natℚ-*, natℚ-∸}
use Rattle.fraction.proofs.Decide.{computes, le_ℚ→≤}
use Rattle.fraction.proofs.Ring.{var, con, ⊖, ◌⊕◌, ◌⊗◌}
use Rattle.fraction.proofs.RingFraction.{ring_ℚ}
use Rattle.method.specs.Table.{table}
use Rattle.method.specs.True.{billion, factorial, decay, convergence}
use Rattle.method.proofs.Growth.{exp_term, exp_sum-≥, exp_sum-≤, exp_sum_positive}

-- ---- q lies from a / D to b / D: so do its powers, and 1 - q from (D - b) / D to (D - a) / D

pub record Ends (D a b : ℕ) (q : ℚ) : Type 0 where
  pub positive : 0 < D
  pub at_most_1 : b ≤ D
  pub below : nat_ℚ a ≤ℚ nat_ℚ D *ℚ q
  pub above : nat_ℚ D *ℚ q ≤ℚ nat_ℚ b

power_of_scaled : (D : ℕ) (q : ℚ) (h : ℕ) → pow_ℚ (nat_ℚ D *ℚ q) h ≈ nat_ℚ (D ^ h) *ℚ pow_ℚ q h
power_of_scaled D q h = ≈-trans (powℚ-*ℚ (nat_ℚ D) q h) (*ℚ-cong-left (pow_ℚ q h) (≈-sym (natℚ-^ D h)))

-- q^h - q^(h+1)
abbrev pub decrement : ℚ → ℕ → ℚ
decrement q h = pow_ℚ q h *ℚ (nat_ℚ 1 -ℚ q)

module _ {D a b : ℕ} {q : ℚ} (e : Ends D a b q) where
  scaled_non_negative : NonNegative (nat_ℚ D *ℚ q)
  scaled_non_negative = non_negative_up (nat_ℚ_non_negative a) e.below

  pub power_low : (h : ℕ) → nat_ℚ (a ^ h) ≤ℚ nat_ℚ (D ^ h) *ℚ pow_ℚ q h
  power_low h =
      ≈-≤ℚ-trans (natℚ-^ a h) (≤ℚ-≈-trans (pow_ℚ_mono (nat_ℚ_non_negative a) e.below h) (power_of_scaled D q h))

  pub power_high : (h : ℕ) → nat_ℚ (D ^ h) *ℚ pow_ℚ q h ≤ℚ nat_ℚ (b ^ h)
  power_high h =
      ≈-≤ℚ-trans (≈-sym (power_of_scaled D q h)) (≤ℚ-≈-trans (pow_ℚ_mono scaled_non_negative e.above h) (≈-sym (natℚ-^ b h)))

  rest_is : nat_ℚ D *ℚ (nat_ℚ 1 -ℚ q) ≈ nat_ℚ D -ℚ nat_ℚ D *ℚ q
  rest_is = ring_ℚ (nat_ℚ D ∷ q ∷ []) (var 0 ⊗ (con 1 ⊕ ⊖ (var 1))) (var 0 ⊕ ⊖ (var 0 ⊗ var 1)) tt

  pub rest_low : nat_ℚ (D - b) ≤ℚ nat_ℚ D *ℚ (nat_ℚ 1 -ℚ q)
  rest_low =
      ≈-≤ℚ-trans (natℚ-∸ e.at_most_1) (≤ℚ-≈-trans (+ℚ-mono-right (nat_ℚ D) (neg_ℚ_anti e.above)) (≈-sym rest_is))

  pub rest_high : nat_ℚ D *ℚ (nat_ℚ 1 -ℚ q) ≤ℚ nat_ℚ (D - a)
  rest_high =
      let l : a ≤ b = nat_ℚ_reflects a b (≤ℚ-trans e.below e.above) in
      ≈-≤ℚ-trans rest_is (≤ℚ-≈-trans (+ℚ-mono-right (nat_ℚ D) (neg_ℚ_anti e.below)) (≈-sym (natℚ-∸ (le_trans l e.at_most_1))))

  regroup : (h : ℕ) → (nat_ℚ (D ^ h) *ℚ pow_ℚ q h) *ℚ (nat_ℚ D *ℚ (nat_ℚ 1 -ℚ q)) ≈ nat_ℚ (D ^ suc h) *ℚ decrement q h
  regroup h =
      ≈-trans
      (ring_ℚ (nat_ℚ (D ^ h) ∷ pow_ℚ q h ∷ nat_ℚ D ∷ (nat_ℚ 1 -ℚ q) ∷ []) ((var 0 ⊗ var 1) ⊗ (var 2 ⊗ var 3)) ((var 0 ⊗ var 2) ⊗ (var 1 ⊗ var 3)) tt)
      (*ℚ-cong-left (decrement q h) (rw (pow-suc D h) (≈-sym (natℚ-* (D ^ h) D))))

  pub decrement_low : (h : ℕ) → nat_ℚ (a ^ h * (D - b)) ≤ℚ nat_ℚ (D ^ suc h) *ℚ decrement q h
  decrement_low h =
      ≈-≤ℚ-trans (natℚ-* (a ^ h) (D - b))
      (≤ℚ-≈-trans
      (*ℚ-mono (non_negative_up (nat_ℚ_non_negative (a ^ h)) (power_low h)) (nat_ℚ_non_negative (D - b)) (power_low h) rest_low)
      (regroup h))

  pub decrement_high : (h : ℕ) → nat_ℚ (D ^ suc h) *ℚ decrement q h ≤ℚ nat_ℚ (b ^ h * (D - a))
  decrement_high h =
      ≈-≤ℚ-trans (≈-sym (regroup h))
      (≤ℚ-≈-trans
      (*ℚ-mono (nat_ℚ_non_negative (b ^ h)) (non_negative_up (nat_ℚ_non_negative (D - b)) rest_low) (power_high h) rest_high)
      (≈-sym (natℚ-* (b ^ h) (D - a))))

  -- whole numbers on either side of c (q^h - q^(h+1))

  power_positive : (h : ℕ) → Positive (nat_ℚ (D ^ suc h))
  power_positive h = nat_ℚ_positive (one-le-pow (suc h) D e.positive)

  times_power : (c h : ℕ) → nat_ℚ c *ℚ (nat_ℚ (D ^ suc h) *ℚ decrement q h) ≈ (nat_ℚ c *ℚ decrement q h) *ℚ nat_ℚ (D ^ suc h)
  times_power c h =
      ring_ℚ (nat_ℚ c ∷ nat_ℚ (D ^ suc h) ∷ decrement q h ∷ []) (var 0 ⊗ (var 1 ⊗ var 2)) ((var 0 ⊗ var 2) ⊗ var 1) tt

  pub whole_below : (c K h : ℕ) → K * D ^ suc h ≤ c * (a ^ h * (D - b)) → nat_ℚ K ≤ℚ nat_ℚ c *ℚ decrement q h
  whole_below c K h l =
      *ℚ-cancel-≤-left (power_positive h)
      (≈-≤ℚ-trans (≈-sym (natℚ-* K (D ^ suc h)))
      (≤ℚ-trans (nat_ℚ_mono l)
      (≈-≤ℚ-trans (natℚ-* c (a ^ h * (D - b)))
      (≤ℚ-≈-trans (*ℚ-mono-right (nat_ℚ_non_negative c) (decrement_low h)) (times_power c h)))))

  pub whole_above : (c K h : ℕ) → c * (b ^ h * (D - a)) < K * D ^ suc h → nat_ℚ c *ℚ decrement q h <ℚ nat_ℚ K
  whole_above c K h l =
      *ℚ-cancel-<-left (positive→non_negative (power_positive h))
      (≤ℚ-<ℚ-trans
      (≈-≤ℚ-trans (≈-sym (times_power c h))
      (≤ℚ-≈-trans (*ℚ-mono-right (nat_ℚ_non_negative c) (decrement_high h)) (≈-sym (natℚ-* c (b ^ h * (D - a))))))
      (<ℚ-≤ℚ-trans (nat_ℚ_strict l) (≈→≤ (natℚ-* K (D ^ suc h)))))

-- ---- the test at an entry, and over a list

-- K is the whole part of U × 10 (q^h - q^(h+1)), for every q from a / D to b / D
abbrev pub whole_part : (D a b h K : ℕ) → Bool
whole_part D a b h K =
    leb (K * D ^ suc h) (10 * U * (a ^ h * (D - b))) && ltb (10 * U * (b ^ h * (D - a))) ((K + 1) * D ^ suc h)

pub record WholePart (q : ℚ) (h K : ℕ) : Type 0 where
  pub below : nat_ℚ K ≤ℚ billion *ℚ (nat_ℚ 10 *ℚ pow_ℚ q h *ℚ (nat_ℚ 1 -ℚ q))
  pub above : billion *ℚ (nat_ℚ 10 *ℚ pow_ℚ q h *ℚ (nat_ℚ 1 -ℚ q)) <ℚ nat_ℚ (K + 1)

scaled_decrement : (q : ℚ) (h : ℕ) → nat_ℚ (10 * U) *ℚ decrement q h ≈ billion *ℚ (nat_ℚ 10 *ℚ pow_ℚ q h *ℚ (nat_ℚ 1 -ℚ q))
scaled_decrement q h =
    ≈-trans (*ℚ-cong-left (decrement q h) (natℚ-* 10 U))
    (ring_ℚ (billion ∷ pow_ℚ q h ∷ (nat_ℚ 1 -ℚ q) ∷ []) ((con 10 ⊗ var 0) ⊗ (var 1 ⊗ var 2)) (var 0 ⊗ (con 10 ⊗ var 1 ⊗ var 2)) tt)

pub whole_part_is : {D a b : ℕ} {q : ℚ} → Ends D a b q → (h K : ℕ) → whole_part D a b h K ≡ true → WholePart q h K
whole_part_is {q = q} e h K t =
    let passed = (and-eq-true_iff _ _).0 t in
    record {
      below = ≤ℚ-≈-trans (whole_below e (10 * U) K h (leb-true _ _ passed.0)) (scaled_decrement q h);
      above = ≤ℚ-<ℚ-trans (≈→≥ (scaled_decrement q h)) (whole_above e (10 * U) (K + 1) h (ltb-true _ _ passed.1));
    }

-- the test passes at each entry, places counted on from i
unfoldable pub every : (ℕ → ℕ → Bool) → ℕ → List ℕ → Bool
every f i [] = true
every f i (x ∷ xs) = f i x && every f (suc i) xs

every_from : (f : ℕ → ℕ → Bool) (xs : List ℕ) (i : ℕ) → every f i xs ≡ true → (h : ℕ) → h < length xs → f (i + h) (get_or xs h 0) ≡ true
unfolding every
every_from f [] i t h l = absurd (not-suc-le-zero l)
every_from f (x ∷ xs) i t zero l = rw (add-zero i) ((and-eq-true_iff (f i x) (every f (suc i) xs)).0 t).0
every_from f (x ∷ xs) i t (suc h) l =
    let same : i + suc h ≡ suc i + h = omega arith in
    rw same (every_from f xs (suc i) ((and-eq-true_iff (f i x) (every f (suc i) xs)).0 t).1 h (le_of_suc-le-suc l))

pub every_at : (f : ℕ → ℕ → Bool) (xs : List ℕ) → every f 0 xs ≡ true → (h : ℕ) → h < length xs → f h (get_or xs h 0) ≡ true
every_at f xs t h l = let same : 0 + h ≡ h = omega arith in rw same at (every_from f xs 0 t h l)

pub rule_at : (D a b : ℕ) (ks : List ℕ) → every (whole_part D a b) 0 ks ≡ true → {q : ℚ} → Ends D a b q → (h : ℕ) → h < length ks →
    WholePart q h (get_or ks h 0)
rule_at D a b ks t e h l = whole_part_is e h (get_or ks h 0) (every_at (whole_part D a b) ks t h l)

-- ---- the ends of q = e^-(1/10), at every order: from the sum to term 12, and from that with its tail

abbrev pub tenth : ℚ
tenth = nat_ℚ 1 ÷ nat_ℚ 10

abbrev pub decay_scale : ℕ
decay_scale = 10 ^ 30

abbrev pub decay_low : ℕ
decay_low = 904_837_418_035_959_573_164_236_005_957

abbrev pub decay_high : ℕ
decay_high = 904_837_418_035_959_573_164_262_302_025

tenth_halves : nat_ℚ 2 *ℚ tenth ≤ℚ nat_ℚ 14
unfolding computes
tenth_halves = le_ℚ→≤ tt

decay_low-≤ : nat_ℚ decay_low ≤ℚ nat_ℚ decay_scale *ℚ recip (sum_ℚ (exp_term tenth) 13 +ℚ nat_ℚ 2 *ℚ exp_term tenth 13)
unfolding computes factorial
decay_low-≤ = le_ℚ→≤ tt

≤-decay_high : nat_ℚ decay_scale *ℚ recip (sum_ℚ (exp_term tenth) 13) ≤ℚ nat_ℚ decay_high
unfolding computes factorial
≤-decay_high = le_ℚ→≤ tt

sum_positive : nat_ℚ 1 ≤ℚ sum_ℚ (exp_term tenth) 13
unfolding computes factorial
sum_positive = le_ℚ→≤ tt

pub decay-ends : (n : ℕ) → Ends decay_scale decay_low decay_high (decay n tenth)
unfolding decay
decay-ends n =
    let p : NonNegative tenth = ÷-non_negative (nat_ℚ 10) (nat_ℚ_non_negative 1) in
    record {
      positive = lit< tt;
      at_most_1 = lit≤ tt;
      below =
          ≤ℚ-trans decay_low-≤
          (*ℚ-mono-right (nat_ℚ_non_negative decay_scale) (recip_anti (exp_sum_positive n p) (exp_sum-≤ n p 13 (omega arith) tenth_halves)));
      above =
          ≤ℚ-trans
          (*ℚ-mono-right (nat_ℚ_non_negative decay_scale) (recip_anti (positive_up (nat_ℚ_positive (lit< tt)) sum_positive) (exp_sum-≥ n p 13 (omega arith))))
          ≤-decay_high;
    }

-- ---- the table

pub table-length : length table ≡ 140
unfolding table
table-length = refl

table_test : every (whole_part decay_scale decay_low decay_high) 0 table ≡ true
unfolding every table
table_test = refl

recip_tenth : recip tenth ≈ nat_ℚ 10
unfolding computes
recip_tenth = omega arith

convergence_at : (n h : ℕ) → nat_ℚ 10 *ℚ pow_ℚ (decay n tenth) h *ℚ (nat_ℚ 1 -ℚ decay n tenth) ≈ convergence n tenth (suc h)
unfolding convergence
convergence_at n h =
    let same : suc h - 1 ≡ h = omega arith in
    rw same (*ℚ-cong-left (nat_ℚ 1 -ℚ decay n tenth) (*ℚ-cong-left (pow_ℚ (decay n tenth) h) (≈-sym recip_tenth)))

pub table_rule : (n h : ℕ) → h < 140 →
    (nat_ℚ (get_or table h 0) ≤ℚ billion *ℚ convergence n tenth (suc h)) × (billion *ℚ convergence n tenth (suc h) <ℚ nat_ℚ (get_or table h 0 + 1))
table_rule n h l =
    let w = rule_at decay_scale decay_low decay_high table table_test (decay-ends n) h (rw table-length l) in
    let e = *ℚ-cong-right billion (convergence_at n h) in
    (≤ℚ-≈-trans w.below e, ≤ℚ-<ℚ-trans (≈→≥ e) w.above)

-- no entry reaches U, and past the end is 0
table_small : every (λ h K. ltb K U) 0 table ≡ true
unfolding every table
table_small = refl

pub table_below : (h : ℕ) → get_or table h 0 + 1 ≤ U
table_below h = go (dec_le (length table) h)
  where
    go : Dec (length table ≤ h) → get_or table h 0 + 1 ≤ U
    go (yes past) = rw (get_or-eq_default table 0 past) (lit≤ tt)
    go (no inside) = omega (arith, ltb-true (get_or table h 0) U (every_at (λ h K. ltb K U) table table_small h (omega arith)))
