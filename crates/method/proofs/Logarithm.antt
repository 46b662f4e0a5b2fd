-- -ln x: the sums of order n, and what the computed logarithm encloses.
use mathlib.Core.Path.{◌≡◌}
use mathlib.Core.Bool.{Bool, true, false, not, cond}
use mathlib.Core.List.{[], ◌∷◌}
use mathlib.Core.Logic.{◌⊎◌, inl, inr}
use Prim.Native.Nat.{ℕ, zero, suc, ◌+◌, ◌*◌, ◌-◌, ◌/◌, ◌≤◌, ◌<◌}
use native.Mathlib.Nat.{add-zero}
use native.Mathlib.Omega.{arith}
use lib.Dec.{T, leb, leb→le, nleb→lt, lit<}
use lib.IntN.{pos, neg_ℤ}
use Rattle.fraction.specs.Fraction.{ℚ, ◌≈◌, ◌≤ℚ◌, NonNegative, NonPositive, Positive, nat_ℚ, neg_ℚ, ◌+ℚ◌, ◌-ℚ◌, ◌*ℚ◌, ◌÷◌, recip, pow_ℚ, sum_ℚ}
use Rattle.fraction.specs.Rounding.{U, ceil_div, Encloses}
use Rattle.fraction.proofs.Order.{≤ℚ-trans, ≤ℚ-antisym, ≤ℚ-≈-trans, ≈-≤ℚ-trans, ≈→≤, ≈→≥, ≈-refl, ≈-sym, ≈-trans, sign}
use Rattle.fraction.proofs.Order.{non_negative→≤, non_positive→≤, non_negative_up, neg_non_positive, positive_up, positive→non_negative}
use Rattle.fraction.proofs.Sum.{neg_ℚ_reflects, +ℚ-cong, +ℚ-mono-left, +ℚ-mono-right, neg_ℚ_cong, neg_ℚ_anti, +ℚ-positive}
use Rattle.fraction.proofs.Product.{*ℚ-assoc, *ℚ-one, one-*ℚ, *ℚ-cong-left, *ℚ-cong-right, *ℚ-cong, *ℚ-mono}
use Rattle.fraction.proofs.Product.{*ℚ-mono-right, *ℚ-non_negative, *ℚ-negℚ, negℚ-*ℚ, square_non_negative}
use Rattle.fraction.proofs.Quotient.{*ℚ-recip, *ℚ-÷, ÷-unique, ÷-mono-left, ÷-cong-left, ÷-anti-right, ÷-non_negative, recip_cong}
use Rattle.fraction.proofs.Power.{sum_ℚ-first, sum_ℚ_neg, pow_ℚ_non_negative, sum_ℚ_mono, sum_ℚ_cong, sum_ℚ_scale}
use Rattle.fraction.proofs.Integer.{nat_ℚ_non_negative, nat_ℚ_positive, nat_ℚ_mono, nat_ℚ_reflects, natℚ-+, natℚ-*}
use Rattle.fraction.proofs.Decide.{computes, le_ℚ→≤}
use Rattle.fraction.proofs.Enclosure.{encloses-≈, encloses-+, encloses_neg, encloses_times, encloses-÷-nat, encloses_scaled}
use Rattle.fraction.proofs.Ring.{var, con, ⊖, ◌⊕◌, ◌⊗◌}
use Rattle.fraction.proofs.RingFraction.{ring_ℚ}
use Rattle.method.specs.Units.{Pair, SignedPair, signed_pair}
use Rattle.method.specs.Quotes.{lower_end, upper_end}
use Rattle.method.specs.Series.{added, logarithm_sum, logarithm, GWith, G, gap_forward_with, gap_forward, ultimate_forward_with, ultimate_forward}
use Rattle.method.specs.True.{billion, artanh_sum, minus_log}
use Rattle.method.proofs.Quotients.{nat_exact, ratio-≤}
use Rattle.method.proofs.Tail.{tail_covered}
use Rattle.method.proofs.Slack.{added_cases}

-- ---- odd powers: odd, and monotone over all signs

unfoldable odd_power : ℚ → ℕ → ℚ
odd_power z zero = z
odd_power z (suc i) = odd_power z i *ℚ (z *ℚ z)

odd_power_is : (z : ℚ) (i : ℕ) → pow_ℚ z (2 * i + 1) ≈ odd_power z i
unfolding odd_power pow_ℚ
odd_power_is z zero = one-*ℚ z
odd_power_is z (suc i) =
    let next : 2 * suc i + 1 ≡ suc (suc (2 * i + 1)) = omega arith in
    rw next (≈-trans (*ℚ-assoc (pow_ℚ z (2 * i + 1)) z z) (*ℚ-cong-left (z *ℚ z) (odd_power_is z i)))

odd_power_neg : (z : ℚ) (i : ℕ) → odd_power (neg_ℚ z) i ≈ neg_ℚ (odd_power z i)
unfolding odd_power
odd_power_neg z zero = ≈-refl (neg_ℚ z)
odd_power_neg z (suc i) =
    ≈-trans (*ℚ-cong-left (neg_ℚ z *ℚ neg_ℚ z) (odd_power_neg z i))
    (ring_ℚ (odd_power z i ∷ z ∷ []) (⊖ (var 0) ⊗ (⊖ (var 1) ⊗ ⊖ (var 1))) (⊖ (var 0 ⊗ (var 1 ⊗ var 1))) tt)

odd_power_non_negative : {z : ℚ} → NonNegative z → (i : ℕ) → NonNegative (odd_power z i)
unfolding odd_power
odd_power_non_negative n zero = n
odd_power_non_negative {z} n (suc i) = *ℚ-non_negative (odd_power_non_negative n i) (square_non_negative z)

odd_power_mono_above : {x y : ℚ} → NonNegative x → x ≤ℚ y → (i : ℕ) → odd_power x i ≤ℚ odd_power y i
unfolding odd_power
odd_power_mono_above n h zero = h
odd_power_mono_above {x} {y} n h (suc i) =
    let ny = non_negative_up n h in
    *ℚ-mono (odd_power_non_negative ny i) (square_non_negative x) (odd_power_mono_above n h i) (*ℚ-mono ny n h h)

-- an order, and a sign, by those of the negated
neg_non_positive_reflects : {x : ℚ} → NonNegative (neg_ℚ x) → NonPositive x
unfolding neg_ℚ
neg_non_positive_reflects n = omega arith

odd_power_non_positive : {z : ℚ} → NonPositive z → (i : ℕ) → NonPositive (odd_power z i)
odd_power_non_positive {z} p i =
    neg_non_positive_reflects (non_negative_up (odd_power_non_negative (neg_non_positive p) i) (≈→≤ (odd_power_neg z i)))

odd_power_mono : {x y : ℚ} → x ≤ℚ y → (i : ℕ) → odd_power x i ≤ℚ odd_power y i
odd_power_mono {x} {y} h i = go (sign x) (sign y)
  where
    go : NonNegative x ⊎ NonPositive x → NonNegative y ⊎ NonPositive y → odd_power x i ≤ℚ odd_power y i
    go (inl n) _ = odd_power_mono_above n h i
    go (inr p) (inl n) = ≤ℚ-trans (non_positive→≤ (odd_power_non_positive p i)) (non_negative→≤ (odd_power_non_negative n i))
    go (inr p) (inr q) =
        neg_ℚ_reflects
        (≈-≤ℚ-trans (≈-sym (odd_power_neg y i))
        (≤ℚ-≈-trans (odd_power_mono_above (neg_non_positive q) (neg_ℚ_anti h) i) (odd_power_neg x i)))

-- ---- the terms z^(2i+1) / (2i+1)

abbrev artanh_term : ℚ → ℕ → ℚ
artanh_term z i = pow_ℚ z (2 * i + 1) ÷ nat_ℚ (2 * i + 1)

artanh_term_is : (z : ℚ) (i : ℕ) → artanh_term z i ≈ odd_power z i ÷ nat_ℚ (2 * i + 1)
artanh_term_is z i = ÷-cong-left (nat_ℚ (2 * i + 1)) (odd_power_is z i)

artanh_term_mono : {x y : ℚ} → x ≤ℚ y → (i : ℕ) → artanh_term x i ≤ℚ artanh_term y i
artanh_term_mono {x} {y} h i =
    ≈-≤ℚ-trans (artanh_term_is x i) (≤ℚ-≈-trans (÷-mono-left (nat_ℚ (2 * i + 1)) (odd_power_mono h i)) (≈-sym (artanh_term_is y i)))

artanh_term_neg : (z : ℚ) (i : ℕ) → artanh_term (neg_ℚ z) i ≈ neg_ℚ (artanh_term z i)
artanh_term_neg z i =
    ≈-trans (artanh_term_is (neg_ℚ z) i)
    (≈-trans (÷-cong-left (nat_ℚ (2 * i + 1)) (odd_power_neg z i))
    (≈-trans (negℚ-*ℚ (odd_power z i) (recip (nat_ℚ (2 * i + 1)))) (neg_ℚ_cong (≈-sym (artanh_term_is z i)))))

artanh_term_non_negative : {z : ℚ} → NonNegative z → (i : ℕ) → NonNegative (artanh_term z i)
artanh_term_non_negative n i = ÷-non_negative (nat_ℚ (2 * i + 1)) (pow_ℚ_non_negative n (2 * i + 1))

-- each term is at most half the one before where 2 z^2 is at most 1
artanh_term_halves : {z : ℚ} → NonNegative z → nat_ℚ 2 *ℚ (z *ℚ z) ≤ℚ nat_ℚ 1 → (i : ℕ) → nat_ℚ 2 *ℚ artanh_term z (suc i) ≤ℚ artanh_term z i
unfolding odd_power
artanh_term_halves {z} n h i =
    let p : ℚ = odd_power z i in
    let np : NonNegative p = odd_power_non_negative n i in
    let odd : 2 * i + 1 ≤ 2 * suc i + 1 = omega arith in
    ≤ℚ-trans
    (*ℚ-mono-right (nat_ℚ_non_negative 2)
    (≈-≤ℚ-trans (artanh_term_is z (suc i))
    (÷-anti-right (*ℚ-non_negative np (square_non_negative z)) (nat_ℚ_positive (omega arith)) (nat_ℚ_mono odd))))
    (≈-≤ℚ-trans
    (ring_ℚ (p ∷ z ∷ recip (nat_ℚ (2 * i + 1)) ∷ []) (con 2 ⊗ ((var 0 ⊗ (var 1 ⊗ var 1)) ⊗ var 2)) ((var 0 ⊗ (con 2 ⊗ (var 1 ⊗ var 1))) ⊗ var 2) tt)
    (≤ℚ-≈-trans (÷-mono-left (nat_ℚ (2 * i + 1)) (*ℚ-mono-right np h))
    (≈-trans (÷-cong-left (nat_ℚ (2 * i + 1)) (*ℚ-one p)) (≈-sym (artanh_term_is z i)))))

-- ---- the sums of order n

pub artanh_sum_mono : (n : ℕ) {x y : ℚ} → x ≤ℚ y → artanh_sum n x ≤ℚ artanh_sum n y
unfolding artanh_sum
artanh_sum_mono n {x} {y} h =
    *ℚ-mono-right (nat_ℚ_non_negative 2) (sum_ℚ_mono (artanh_term x) (artanh_term y) (5 + n) (λ i l. artanh_term_mono h i))

pub artanh_sum_cong : (n : ℕ) {x y : ℚ} → x ≈ y → artanh_sum n x ≈ artanh_sum n y
artanh_sum_cong n e = ≤ℚ-antisym (artanh_sum_mono n (≈→≤ e)) (artanh_sum_mono n (≈→≥ e))

pub artanh_sum_neg : (n : ℕ) (z : ℚ) → artanh_sum n (neg_ℚ z) ≈ neg_ℚ (artanh_sum n z)
unfolding artanh_sum
artanh_sum_neg n z =
    ≈-trans
    (*ℚ-cong-right (nat_ℚ 2)
    (≈-trans (sum_ℚ_cong (artanh_term (neg_ℚ z)) (λ i. neg_ℚ (artanh_term z i)) (5 + n) (λ i l. artanh_term_neg z i)) (sum_ℚ_neg (artanh_term z) (5 + n))))
    (*ℚ-negℚ (nat_ℚ 2) (sum_ℚ (artanh_term z) (5 + n)))

-- ---- -ln x falls with x

-- (b - x) / (b + x) = 2 b / (b + x) - 1
ratio_is : (b x : ℚ) → Positive (b +ℚ x) → (b -ℚ x) ÷ (b +ℚ x) ≈ (nat_ℚ 2 *ℚ b) ÷ (b +ℚ x) -ℚ nat_ℚ 1
ratio_is b x p =
    let r : ℚ = recip (b +ℚ x) in
    ≈-trans
    (ring_ℚ (b ∷ x ∷ r ∷ []) ((var 0 ⊕ ⊖ (var 1)) ⊗ var 2) ((con 2 ⊗ var 0) ⊗ var 2 ⊕ ⊖ ((var 0 ⊕ var 1) ⊗ var 2)) tt)
    (+ℚ-cong (≈-refl ((nat_ℚ 2 *ℚ b) *ℚ r)) (neg_ℚ_cong (*ℚ-recip p)))

ratio_anti : {b x y : ℚ} → Positive b → NonNegative x → x ≤ℚ y → (b -ℚ y) ÷ (b +ℚ y) ≤ℚ (b -ℚ x) ÷ (b +ℚ x)
ratio_anti {b} {x} {y} p n h =
    let px : Positive (b +ℚ x) = +ℚ-positive p n in
    let l : b +ℚ x ≤ℚ b +ℚ y = +ℚ-mono-right b h in
    ≈-≤ℚ-trans (ratio_is b y (positive_up px l))
    (≤ℚ-≈-trans
    (+ℚ-mono-left (neg_ℚ (nat_ℚ 1)) (÷-anti-right (*ℚ-non_negative (nat_ℚ_non_negative 2) (positive→non_negative p)) px l))
    (≈-sym (ratio_is b x px)))

pub minus_log_anti : (n : ℕ) {x y : ℚ} → NonNegative x → x ≤ℚ y → minus_log n y ≤ℚ minus_log n x
unfolding minus_log
minus_log_anti n p h = *ℚ-mono-right (nat_ℚ_non_negative U) (artanh_sum_mono n (ratio_anti (nat_ℚ_positive (lit< tt)) p h))

pub minus_log_cong : (n : ℕ) {x y : ℚ} → NonNegative x → x ≈ y → minus_log n x ≈ minus_log n y
minus_log_cong n p e = ≤ℚ-antisym (minus_log_anti n (non_negative_up p (≈→≤ e)) (≈→≥ e)) (minus_log_anti n p (≈→≤ e))

-- ---- the computed terms: from a pair that encloses p 0, pairs that enclose p j / (odd + 2 j); p (j + 1) is p j × s / U

logarithm_sum_encloses : (k : ℕ) (p t : ℕ → ℚ) (odd : ℕ) → 0 < odd → {s : ℚ} →
    ((j : ℕ) → p (suc j) ≈ (p j *ℚ s) ÷ nat_ℚ U) → ((j : ℕ) → t j ≈ p j ÷ nat_ℚ (odd + 2 * j)) →
    {sl sh : ℕ} → Encloses (pos sl) (pos sh) s → {low high : ℕ} → Encloses (pos low) (pos high) (p 0) →
    Encloses (pos (logarithm_sum ◌/◌ sl odd low k)) (pos (logarithm_sum ceil_div sh odd high k)) (sum_ℚ t k)
unfolding logarithm_sum sum_ℚ
logarithm_sum_encloses zero p t odd o steps terms es e = nat_exact 0
logarithm_sum_encloses (suc k) p t odd o {s} steps terms {sl} {sh} es {low} {high} e =
    encloses-≈ (≈-sym (sum_ℚ-first t k))
    (encloses-+ head
    (logarithm_sum_encloses k (λ j. p (suc j)) (λ j. t (suc j)) (odd + 2) (omega arith) (λ j. steps (suc j)) later es
    (encloses-≈ (≈-sym (steps 0)) (encloses_scaled (lit< tt) e es))))
  where
    head : Encloses (pos (low / odd)) (pos (ceil_div high odd)) (t 0)
    head = encloses-≈ (≈-sym (rw (add-zero odd) at (terms 0))) (encloses-÷-nat o e)

    later : (j : ℕ) → t (suc j) ≈ p (suc j) ÷ nat_ℚ (odd + 2 + 2 * j)
    later j = let same : odd + 2 + 2 * j ≡ odd + 2 * suc j = omega arith in rw same (terms (suc j))

-- ---- the logarithm encloses U × the sum of every order

ninth_halves : nat_ℚ 2 *ℚ ((nat_ℚ 1 ÷ nat_ℚ 9) *ℚ (nat_ℚ 1 ÷ nat_ℚ 9)) ≤ℚ nat_ℚ 1
unfolding computes
ninth_halves = le_ℚ→≤ tt

-- the tail past 5 terms is below one billionth up to 1/9
ninth_tail : (billion *ℚ nat_ℚ 2) *ℚ (nat_ℚ 2 *ℚ artanh_term (nat_ℚ 1 ÷ nat_ℚ 9) 5) ≤ℚ nat_ℚ 1
unfolding computes
ninth_tail = le_ℚ→≤ tt

-- and there is none at U
zero_tail : (billion *ℚ nat_ℚ 2) *ℚ (nat_ℚ 2 *ℚ artanh_term (nat_ℚ 0 ÷ nat_ℚ (U + U)) 5) ≤ℚ nat_ℚ 0
unfolding computes
zero_tail = le_ℚ→≤ tt

twice_non_negative : NonNegative (billion *ℚ nat_ℚ 2)
twice_non_negative = *ℚ-non_negative (nat_ℚ_non_negative U) (nat_ℚ_non_negative 2)

-- a × b / U in units of U
scaled_is : (x y : ℚ) → ((billion *ℚ x) *ℚ (billion *ℚ y)) ÷ billion ≈ billion *ℚ (x *ℚ y)
scaled_is x y =
    ≈-trans
    (÷-cong-left billion
    (ring_ℚ (billion ∷ x ∷ y ∷ []) ((var 0 ⊗ var 1) ⊗ (var 0 ⊗ var 2)) ((var 0 ⊗ (var 1 ⊗ var 2)) ⊗ var 0) tt))
    (*ℚ-÷ (billion *ℚ (x *ℚ y)) (nat_ℚ_positive (lit< tt)))

module _ (d x : ℕ) where
  abbrev ratio : ℚ
  ratio = nat_ℚ d ÷ nat_ℚ (U + x)

  ratio_non_negative : NonNegative ratio
  ratio_non_negative = ÷-non_negative (nat_ℚ (U + x)) (nat_ℚ_non_negative d)

  z_encloses : Encloses (pos (d * U / (U + x))) (pos (ceil_div (d * U) (U + x))) (billion *ℚ ratio)
  z_encloses =
      encloses-≈
      (≈-trans (÷-cong-left (nat_ℚ (U + x)) (natℚ-* d U))
      (ring_ℚ (nat_ℚ d ∷ billion ∷ recip (nat_ℚ (U + x)) ∷ []) ((var 0 ⊗ var 1) ⊗ var 2) (var 1 ⊗ (var 0 ⊗ var 2)) tt))
      (encloses-÷-nat (omega arith) (nat_exact (d * U)))

  steps : (j : ℕ) → billion *ℚ odd_power ratio (suc j) ≈ ((billion *ℚ odd_power ratio j) *ℚ (billion *ℚ (ratio *ℚ ratio))) ÷ nat_ℚ U
  unfolding odd_power
  steps j = ≈-sym (scaled_is (odd_power ratio j) (ratio *ℚ ratio))

  terms : (j : ℕ) → billion *ℚ artanh_term ratio j ≈ (billion *ℚ odd_power ratio j) ÷ nat_ℚ (1 + 2 * j)
  terms j =
      let same : 1 + 2 * j ≡ 2 * j + 1 = omega arith in
      rw same
      (≈-trans (*ℚ-cong-right billion (artanh_term_is ratio j))
      (≈-sym (*ℚ-assoc billion (odd_power ratio j) (recip (nat_ℚ (2 * j + 1))))))

  five_encloses : Encloses (pos (logarithm ◌/◌ d x)) (pos (logarithm ceil_div d x)) ((billion *ℚ nat_ℚ 2) *ℚ sum_ℚ (artanh_term ratio) 5)
  unfolding logarithm odd_power
  five_encloses =
      encloses-≈
      (≈-trans (*ℚ-cong-right (nat_ℚ 2) (≈-sym (sum_ℚ_scale billion (artanh_term ratio) 5)))
      (ring_ℚ (billion ∷ sum_ℚ (artanh_term ratio) 5 ∷ []) (con 2 ⊗ (var 0 ⊗ var 1)) ((var 0 ⊗ con 2) ⊗ var 1) tt))
      (encloses_times 2
      (logarithm_sum_encloses 5 (λ j. billion *ℚ odd_power ratio j) (λ j. billion *ℚ artanh_term ratio j) 1 (lit< tt) steps terms
      (encloses-≈ (scaled_is ratio ratio) (encloses_scaled (lit< tt) z_encloses z_encloses))
      z_encloses))

  module _ (h : 9 * d ≤ U + x) where
    within : ratio ≤ℚ nat_ℚ 1 ÷ nat_ℚ 9
    within = ratio-≤ d 1 (omega arith) (lit< tt) (omega arith)

    halves : nat_ℚ 2 *ℚ (ratio *ℚ ratio) ≤ℚ nat_ℚ 1
    halves =
        ≤ℚ-trans
        (*ℚ-mono-right (nat_ℚ_non_negative 2) (*ℚ-mono (non_negative_up ratio_non_negative within) ratio_non_negative within within))
        ninth_halves

    small : (billion *ℚ nat_ℚ 2) *ℚ (nat_ℚ 2 *ℚ artanh_term ratio 5) ≤ℚ nat_ℚ 1
    small =
        ≤ℚ-trans
        (*ℚ-mono-right twice_non_negative (*ℚ-mono-right (nat_ℚ_non_negative 2) (artanh_term_mono within 5)))
        ninth_tail

    -- with what covers the tail added to the high
    logarithm_encloses : (n m : ℕ) → (billion *ℚ nat_ℚ 2) *ℚ (nat_ℚ 2 *ℚ artanh_term ratio 5) ≤ℚ nat_ℚ m →
        Encloses (pos (logarithm ◌/◌ d x)) (pos (logarithm ceil_div d x + m)) (billion *ℚ artanh_sum n ratio)
    unfolding artanh_sum
    logarithm_encloses n m covers =
        encloses-≈ (*ℚ-assoc billion (nat_ℚ 2) (sum_ℚ (artanh_term ratio) (5 + n)))
        (tail_covered (artanh_term ratio) (artanh_term_non_negative ratio_non_negative) 5
        (λ i l. artanh_term_halves ratio_non_negative halves i)
        twice_non_negative
        m
        covers
        five_encloses
        (5 + n)
        (omega arith))

-- ---- G, by the side of U on which x lies

abbrev pub distance : ℕ → ℕ
distance x = (U - x) + (x - U)

abbrev pub logarithm_low : ℕ → ℕ
logarithm_low x = logarithm ◌/◌ (distance x) x

abbrev pub logarithm_high : ℕ → ℕ
logarithm_high x = logarithm ceil_div (distance x) x + added 0 U x

pub G-cases : (x : ℕ) (P : SignedPair → Type 0) → (x ≤ U → P (signed_pair (pos (logarithm_low x)) (pos (logarithm_high x)))) →
    (U < x → P (signed_pair (neg_ℤ (pos (logarithm_high x))) (neg_ℤ (pos (logarithm_low x))))) → P (G x)
unfolding GWith
G-cases x P below above = go (leb x U) (λ t. below (leb→le x U t)) (λ t. above (nleb→lt x U t))
  where
    go : (b : Bool) {p q : SignedPair} → (T b → P p) → (T (not b) → P q) → P (cond b p q)
    go true f g = f tt
    go false f g = g tt

distance_below : (x : ℕ) → x ≤ U → billion -ℚ nat_ℚ x ≈ nat_ℚ (distance x)
unfolding nat_ℚ neg_ℚ ◌+ℚ◌
distance_below x h = omega arith

distance_above : (x : ℕ) → U < x → billion -ℚ nat_ℚ x ≈ neg_ℚ (nat_ℚ (distance x))
unfolding nat_ℚ neg_ℚ ◌+ℚ◌
distance_above x h = omega arith

-- (U - x) / (U + x) from U - x
ratio_of : (x : ℕ) {a : ℚ} → billion -ℚ nat_ℚ x ≈ a → (billion -ℚ nat_ℚ x) ÷ (billion +ℚ nat_ℚ x) ≈ a ÷ nat_ℚ (U + x)
ratio_of x e = *ℚ-cong e (recip_cong (+ℚ-positive (nat_ℚ_positive (lit< tt)) (nat_ℚ_non_negative x)) (≈-sym (natℚ-+ U x)))

module _ (n x : ℕ) where
  abbrev exact : ℚ
  exact = billion *ℚ artanh_sum n (ratio (distance x) x)

  minus_log_below : x ≤ U → exact ≈ minus_log n (nat_ℚ x)
  unfolding minus_log
  minus_log_below h = *ℚ-cong-right billion (artanh_sum_cong n (≈-sym (ratio_of x (distance_below x h))))

  minus_log_above : U < x → neg_ℚ exact ≈ minus_log n (nat_ℚ x)
  unfolding minus_log
  minus_log_above h =
      let r : ℚ = ratio (distance x) x in
      ≈-trans (≈-sym (*ℚ-negℚ billion (artanh_sum n r)))
      (*ℚ-cong-right billion
      (≈-trans (≈-sym (artanh_sum_neg n r))
      (artanh_sum_cong n (≈-sym (≈-trans (ratio_of x (distance_above x h)) (negℚ-*ℚ (nat_ℚ (distance x)) (recip (nat_ℚ (U + x)))))))))

  -- what is added covers the tail: at U there is none
  covered : 9 * distance x ≤ U + x → (billion *ℚ nat_ℚ 2) *ℚ (nat_ℚ 2 *ℚ artanh_term (ratio (distance x) x) 5) ≤ℚ nat_ℚ (added 0 U x)
  covered h =
      added_cases 0 U x (λ m. (billion *ℚ nat_ℚ 2) *ℚ (nat_ℚ 2 *ℚ artanh_term (ratio (distance x) x) 5) ≤ℚ nat_ℚ m)
      (λ e. rw e zero_tail)
      (small (distance x) x h)

  pub G-encloses : lower_end ≤ x → x ≤ upper_end → Encloses (G x).low (G x).high (minus_log n (nat_ℚ x))
  G-encloses l h =
      let ninth : 9 * distance x ≤ U + x = omega arith in
      let encloses = logarithm_encloses (distance x) x ninth n (added 0 U x) (covered ninth) in
      G-cases x (λ g. Encloses g.low g.high (minus_log n (nat_ℚ x)))
      (λ below. encloses-≈ (minus_log_below below) encloses)
      (λ above. encloses-≈ (minus_log_above above) (encloses_neg encloses))

-- ---- the two forwards that come from G

pub gap_forward_encloses : (n : ℕ) (x : Pair) {t : ℚ} → lower_end ≤ x.low → x.high ≤ upper_end → nat_ℚ x.low ≤ℚ t → t ≤ℚ nat_ℚ x.high →
    Encloses (gap_forward x).low (gap_forward x).high (minus_log n t)
unfolding gap_forward_with
gap_forward_encloses n x l h below above =
    let ordered : x.low ≤ x.high = nat_ℚ_reflects x.low x.high (≤ℚ-trans below above) in
    record {
      below =
          ≤ℚ-trans (G-encloses n x.high (omega arith) h).below
          (minus_log_anti n (non_negative_up (nat_ℚ_non_negative x.low) below) above);
      above = ≤ℚ-trans (minus_log_anti n (nat_ℚ_non_negative x.low) below) (G-encloses n x.low l (omega arith)).above;
    }

-- U + 10,000 × UFR is U × (1 + UFR)
ultimate_is : (u : ℕ) → nat_ℚ (U + 10_000 * u) ≈ billion *ℚ (nat_ℚ 1 +ℚ nat_ℚ u ÷ nat_ℚ 100_000)
ultimate_is u =
    let r : ℚ = recip (nat_ℚ 100_000) in
    let unit : nat_ℚ 10_000 ≈ billion *ℚ r = ÷-unique (nat_ℚ_positive (lit< tt)) (≈-sym (natℚ-* 10_000 100_000)) in
    ≈-trans (natℚ-+ U (10_000 * u))
    (≈-trans (+ℚ-cong (≈-refl billion) (≈-trans (natℚ-* 10_000 u) (*ℚ-cong-left (nat_ℚ u) unit)))
    (ring_ℚ (billion ∷ nat_ℚ u ∷ r ∷ []) (var 0 ⊕ (var 0 ⊗ var 2) ⊗ var 1) (var 0 ⊗ (con 1 ⊕ var 1 ⊗ var 2)) tt))

pub ultimate_forward_encloses : (n u : ℕ) → u ≤ 10_000 →
    Encloses (ultimate_forward u).low (ultimate_forward u).high (neg_ℚ (minus_log n (billion *ℚ (nat_ℚ 1 +ℚ nat_ℚ u ÷ nat_ℚ 100_000))))
unfolding ultimate_forward_with
ultimate_forward_encloses n u h =
    encloses_neg
    (encloses-≈ (minus_log_cong n (nat_ℚ_non_negative (U + 10_000 * u)) (ultimate_is u))
    (G-encloses n (U + 10_000 * u) (omega arith) (omega arith)))
