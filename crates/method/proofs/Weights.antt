-- THE WEIGHTS: κ's pairs hold U × k(h) of every order, for every factor a from 10,000,000 to 20,000,000. Each pair is worked outward
-- from pairs that hold what it is worked from: q from E, M from q, P from P and q, k from P and M.
use mathlib.Core.Path.{◌≡◌, refl, ap, ◌∙◌}
use mathlib.Core.Bool.{Bool, true, false, cond}
use mathlib.Core.List.{List, [], ◌∷◌}
use Prim.Native.Nat.{ℕ, zero, suc, ◌+◌, ◌*◌, ◌-◌, ◌≤◌, ◌<◌}
use native.Mathlib.Nat.{le_of_suc-le-suc, not-suc-le-zero, mul-le-mul_left, le_refl, lt_of_lt_of_le}
use native.Mathlib.Omega.{arith}
use borrow.Author.Tests.{eqb-true, ne_eqb, leb-true}
use lib.Dec.{eqb, leb, lit<}
use lib.IntN.{pos}
use lib.ListN.{length, get_or, take, length-map, length-take}
use lib.Seq.{length-take-le, get_or-take, take_all, take-take}
use Rattle.fraction.specs.Fraction.{ℚ, ◌≈◌, ◌≤ℚ◌, Positive, nat_ℚ, ◌-ℚ◌, ◌*ℚ◌, ◌÷◌, recip, pow_ℚ}
use Rattle.fraction.specs.Rounding.{U, Encloses}
use Rattle.fraction.proofs.Order.{≤ℚ-≈-trans, ≈-sym, ≈-trans, <ℚ→≤ℚ, positive→non_negative}
use Rattle.fraction.proofs.Product.{*ℚ-cong, *ℚ-cong-left, *ℚ-cong-right, *ℚ-one, one-*ℚ, *ℚ-mono-right}
use Rattle.fraction.proofs.Quotient.{*ℚ-recip, ÷-unique, ÷-positive}
use Rattle.fraction.proofs.Integer.{nat_ℚ_non_negative, nat_ℚ_positive}
use Rattle.fraction.proofs.Ring.{var, ◌⊗◌}
use Rattle.fraction.proofs.RingFraction.{ring_ℚ}
use Rattle.fraction.proofs.Rounding.{U-positive}
use Rattle.fraction.proofs.Enclosure.{encloses-≈, encloses-÷-nat, encloses_product, encloses_scaled, encloses_ratio, nat_encloses, nat_below, nat_above}
use Rattle.method.specs.Units.{Pair, pair}
use Rattle.method.specs.Series.{growth_low, growth_high}
use Rattle.method.specs.Table.{table}
use Rattle.method.specs.Extrapolation.{κ_pairs, scaled, decay_pair, scale_pair, cut_to_unit, weights_from, weights}
use Rattle.method.specs.True.{billion, exp_sum, decay, convergence}
use Rattle.method.proofs.Outcome.{split}
use Rattle.method.proofs.Quotients.{nat_exact, ratio-≤, same_ratio, ceil_div-≤}
use Rattle.method.proofs.Growth.{exp_sum_cong, exp_sum_positive, growth_encloses, growth_low-≥, growth_low-≤-growth_high}
use Rattle.method.proofs.Forward.{Weighs, κ_pairs_weigh}
use Rattle.method.proofs.Step.{ratio_is}
use Rattle.method.proofs.TableRule.{Ends, rest_low, rest_high, tenth, table-length, table_rule, table_below}
use Rattle.method.proofs.Convergence.{convergence_cong, convergence_most}

-- a factor, as the fraction that it stands for
abbrev pub hundred_millionths : ℕ → ℚ
hundred_millionths a = nat_ℚ a ÷ nat_ℚ 100_000_000

abbrev Holds : Pair → ℚ → Type 0
Holds p x = Encloses (pos p.low) (pos p.high) (billion *ℚ x)

pub weighs_cong : {κ : Pair} {x y : ℚ} → x ≈ y → Weighs κ x → Weighs κ y
weighs_cong e w = record { at_most_U = w.at_most_U; weight = encloses-≈ (*ℚ-cong-right billion e) w.weight }

-- ---- one step: a product in billionths, and the cut to U of what is at most 1

scaled_holds : {p m : Pair} (x y : ℚ) → Holds p x → Holds m y → Holds (scaled p m) (x *ℚ y)
scaled_holds x y h k =
    encloses-≈
    (≈-sym (÷-unique (nat_ℚ_positive U-positive) (ring_ℚ (billion ∷ x ∷ y ∷ []) ((var 0 ⊗ (var 1 ⊗ var 2)) ⊗ var 0) ((var 0 ⊗ var 1) ⊗ (var 0 ⊗ var 2)) tt)))
    (encloses_scaled U-positive h k)

cut_weighs : {k : Pair} {x : ℚ} → x ≤ℚ nat_ℚ 1 → Holds k x → Weighs (cut_to_unit k) x
cut_weighs {k} {x} most h = go (leb k.high U) (leb-true k.high U)
  where
    go : (below : Bool) → (below ≡ true → k.high ≤ U) → Weighs (pair k.low (cond below k.high U)) x
    go true small = record { at_most_U = small refl; weight = h }
    go false small =
        let unit = ≤ℚ-≈-trans (*ℚ-mono-right (nat_ℚ_non_negative U) most) (*ℚ-one billion) in
        record { at_most_U = omega arith; weight = nat_encloses (nat_below h) unit }

-- ---- the pairs worked from a

module _ (n a : ℕ) (least : 10_000_000 ≤ a) (most : a ≤ 20_000_000) where
  abbrev α : ℚ
  α = hundred_millionths a

  abbrev q : ℚ
  q = decay n α

  α_positive : Positive α
  α_positive = ÷-positive (nat_ℚ_positive (omega arith)) (nat_ℚ_positive (lit< tt))

  α_most : α ≤ℚ nat_ℚ 1 ÷ nat_ℚ 5
  α_most = ratio-≤ a 1 (lit< tt) (lit< tt) (omega arith)

  growth_holds : Encloses (pos (growth_low (10 * a))) (pos (growth_high (10 * a))) (billion *ℚ exp_sum n α)
  growth_holds =
      let exponent = same_ratio (10 * a) a {b = U} {d = 100_000_000} (lit< tt) (lit< tt) (omega arith) in
      encloses-≈ (*ℚ-cong-right billion (exp_sum_cong n exponent)) (growth_encloses n (10 * a) (omega arith))

  decay_holds : Holds (decay_pair a) q
  unfolding decay_pair decay
  decay_holds =
      let low = lt_of_lt_of_le U-positive (growth_low-≥ (10 * a)) in
      let high = lt_of_lt_of_le low (growth_low-≤-growth_high (10 * a)) in
      encloses-≈ (ratio_is billion (exp_sum_positive n (positive→non_negative α_positive)))
      (encloses_ratio low high (encloses_product (nat_exact U) (nat_exact U)) growth_holds)

  decay-ends : Ends U (decay_pair a).low (decay_pair a).high q
  unfolding decay_pair
  decay-ends =
      record {
        positive = U-positive;
        at_most_1 = ceil_div-≤ {d = growth_low (10 * a)} (omega (arith, growth_low-≥ (10 * a))) (mul-le-mul_left U (growth_low-≥ (10 * a)));
        below = nat_below decay_holds;
        above = nat_above decay_holds;
      }

  -- 1/α is 100,000,000 / a
  recip_α : nat_ℚ 100_000_000 ÷ nat_ℚ a ≈ recip α
  recip_α =
      let c : ℚ = nat_ℚ 100_000_000 in
      ≈-trans
      (÷-unique α_positive
      (≈-trans (ring_ℚ (c ∷ recip c ∷ nat_ℚ a ∷ recip (nat_ℚ a) ∷ []) ((var 0 ⊗ var 3) ⊗ (var 2 ⊗ var 1)) ((var 0 ⊗ var 1) ⊗ (var 2 ⊗ var 3)) tt)
      (≈-trans (*ℚ-cong (*ℚ-recip (nat_ℚ_positive (lit< tt))) (*ℚ-recip (nat_ℚ_positive (omega arith)))) (*ℚ-one (nat_ℚ 1)))))
      (one-*ℚ (recip α))

  scale_holds : Holds (scale_pair a (decay_pair a)) (recip α *ℚ (nat_ℚ 1 -ℚ q))
  unfolding scale_pair
  scale_holds =
      let rest = nat_encloses (rest_low decay-ends) (rest_high decay-ends) in
      let c : ℚ = nat_ℚ 100_000_000 in
      encloses-≈
      (≈-trans
      (ring_ℚ (billion ∷ (nat_ℚ 1 -ℚ q) ∷ c ∷ recip (nat_ℚ a) ∷ []) (((var 0 ⊗ var 1) ⊗ var 2) ⊗ var 3) (var 0 ⊗ ((var 2 ⊗ var 3) ⊗ var 1)) tt)
      (*ℚ-cong-right billion (*ℚ-cong-left (nat_ℚ 1 -ℚ q) recip_α)))
      (encloses-÷-nat (omega arith) (encloses_product rest (nat_exact 100_000_000)))

  next_is : (i : ℕ) → pow_ℚ q i *ℚ (recip α *ℚ (nat_ℚ 1 -ℚ q)) ≈ convergence n α (suc i)
  unfolding convergence
  next_is i =
      let same : suc i - 1 ≡ i = omega arith in
      rw same (ring_ℚ (recip α ∷ pow_ℚ q i ∷ (nat_ℚ 1 -ℚ q) ∷ []) (var 1 ⊗ (var 0 ⊗ var 2)) (var 0 ⊗ var 1 ⊗ var 2) tt)

  -- P(i) holds U × q^i: so the h-th weight from there on holds U × k(i + h + 1)
  from_weighs : (count i : ℕ) (p : Pair) → Holds p (pow_ℚ q i) → (h : ℕ) → h < count →
      Weighs (get_or (weights_from (decay_pair a) (scale_pair a (decay_pair a)) p count) h (pair 0 0)) (convergence n α (suc (i + h)))
  unfolding weights_from pow_ℚ
  from_weighs zero i p holds h l = absurd (not-suc-le-zero l)
  from_weighs (suc count) i p holds zero l =
      let here : suc (i + 0) ≡ suc i = omega arith in
      rw here
      (cut_weighs (convergence_most n α_positive α_most (suc i))
      (encloses-≈ (*ℚ-cong-right billion (next_is i)) (scaled_holds (pow_ℚ q i) (recip α *ℚ (nat_ℚ 1 -ℚ q)) holds scale_holds)))
  from_weighs (suc count) i p holds (suc h) l =
      let there : suc (i + suc h) ≡ suc (suc i + h) = omega arith in
      rw there
      (from_weighs count (suc i) (scaled p (decay_pair a)) (scaled_holds (pow_ℚ q i) q holds decay_holds) h (le_of_suc-le-suc l))

  -- P(0) is U
  pub worked_weighs : (count h : ℕ) → h < count →
      Weighs (get_or (weights_from (decay_pair a) (scale_pair a (decay_pair a)) (pair U U) count) h (pair 0 0)) (convergence n α (suc h))
  unfolding pow_ℚ
  worked_weighs count h l =
      let start : Holds (pair U U) (pow_ℚ q 0) = encloses-≈ (≈-sym (*ℚ-one billion)) (nat_exact U) in
      let same : 0 + h ≡ h = omega arith in
      rw same at (from_weighs count 0 (pair U U) start h l)

from_length : (q m p : Pair) (count : ℕ) → length (weights_from q m p count) ≡ count
unfolding weights_from
from_length q m p zero = refl
from_length q m p (suc count) = ap suc (from_length q m (scaled p q) count)

-- ---- the table, at exactly 10%

κ_length : length (κ_pairs table) ≡ 140
unfolding κ_pairs
κ_length = length-map table (λ k. pair k (k + 1)) ∙ table-length

table_weighs : (n i : ℕ) → i < length table → Weighs (pair (get_or table i 0) (get_or table i 0 + 1)) (convergence n tenth (suc i))
table_weighs n i h =
    let rule = table_rule n i (rw table-length at h) in
    record { at_most_U = table_below i; weight = nat_encloses rule.0 (<ℚ→≤ℚ rule.1) }

tenth_is : tenth ≈ hundred_millionths 10_000_000
tenth_is = same_ratio 1 10_000_000 (lit< tt) (lit< tt) (omega arith)

tabled_weighs : (n count h : ℕ) → count ≤ 140 → h < count →
    Weighs (get_or (take count (κ_pairs table)) h (pair 0 0)) (convergence n (hundred_millionths 10_000_000) (suc h))
tabled_weighs n count h most l =
    rw (get_or-take count (κ_pairs table) h (pair 0 0) l)
    (weighs_cong (convergence_cong n (÷-positive (nat_ℚ_positive (lit< tt)) (nat_ℚ_positive (lit< tt))) tenth_is (suc h))
    (κ_pairs_weigh (λ i. convergence n tenth (suc i)) table (table_weighs n) h (rw κ_length (omega arith))))

abbrev weights_by : Bool → ℕ → ℕ → List Pair
weights_by exact a count = cond exact (take count (κ_pairs table)) (weights_from (decay_pair a) (scale_pair a (decay_pair a)) (pair U U) count)

pub weights_tabled : (count : ℕ) → weights 10_000_000 count ≡ take count (κ_pairs table)
unfolding weights
weights_tabled count = refl

pub weights_whole : weights 10_000_000 140 ≡ κ_pairs table
weights_whole = weights_tabled 140 ∙ take_all 140 (κ_pairs table) (rw κ_length (omega arith))

pub weights_worked : (a count : ℕ) → (a ≡ 10_000_000 → ⊥) →
    weights a count ≡ weights_from (decay_pair a) (scale_pair a (decay_pair a)) (pair U U) count
unfolding weights
weights_worked a count n = ap (λ (exact : Bool). weights_by exact a count) (ne_eqb a 10_000_000 n)

-- ---- every order, every factor, every year

pub weights_weigh : (n a count : ℕ) → 10_000_000 ≤ a → a ≤ 20_000_000 → count ≤ 140 → (h : ℕ) → h < count →
    Weighs (get_or (weights a count) h (pair 0 0)) (convergence n (hundred_millionths a) (suc h))
unfolding weights
weights_weigh n a count least most years h l =
    split (eqb a 10_000_000)
    (λ e. let exact : a ≡ 10_000_000 = eqb-true a 10_000_000 e in rw (e, exact) (tabled_weighs n count h years l))
    (λ e. rw e (worked_weighs n a least most count h l))

pub weights-length : (a count : ℕ) → count ≤ 140 → length (weights a count) ≡ count
unfolding weights
weights-length a count years = go (eqb a 10_000_000)
  where
    go : (exact : Bool) → length (weights_by exact a count) ≡ count
    go true = length-take-le count (κ_pairs table) (rw κ_length years)
    go false = from_length (decay_pair a) (scale_pair a (decay_pair a)) (pair U U) count

-- the first of them, however many are worked
from_first : (q m p : Pair) (k n : ℕ) → k ≤ n → take k (weights_from q m p n) ≡ weights_from q m p k
unfolding weights_from
from_first q m p zero n h = refl
from_first q m p (suc k) zero h = absurd (not-suc-le-zero h)
from_first q m p (suc k) (suc n) h = ap (λ (κs : List Pair). cut_to_unit (scaled p m) ∷ κs) (from_first q m (scaled p q) k n (le_of_suc-le-suc h))

pub weights-first : (a k n : ℕ) → k ≤ n → take k (weights a n) ≡ weights a k
unfolding weights
weights-first a k n h = go (eqb a 10_000_000)
  where
    go : (exact : Bool) → take k (weights_by exact a n) ≡ weights_by exact a k
    go true = take-take k n (κ_pairs table) h
    go false = from_first (decay_pair a) (scale_pair a (decay_pair a)) (pair U U) k n h

-- and never more
pub weights_most : (a count : ℕ) → length (weights a count) ≤ count
unfolding weights
weights_most a count = go (eqb a 10_000_000)
  where
    go : (exact : Bool) → length (weights_by exact a count) ≤ count
    go true = rw length-take (omega arith)
    go false = rw (from_length (decay_pair a) (scale_pair a (decay_pair a)) (pair U U) count) (le_refl count)
