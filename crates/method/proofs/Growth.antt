-- e^y: the sums of order n, and what the computed growth encloses.
use mathlib.Core.Path.{◌≡◌}
use mathlib.Core.List.{[], ◌∷◌}
use Prim.Native.Nat.{ℕ, zero, suc, ◌+◌, ◌*◌, ◌/◌, ◌≤◌, ◌<◌}
use native.Mathlib.Nat.{add-zero, mul-pos, zero-lt-suc, le_refl, mul-le-mul, add-le-add}
use native.Mathlib.Omega.{arith}
use lib.Dec.{lit<}
use lib.IntN.{pos}
use Rattle.fraction.specs.Fraction.{ℚ, ◌≈◌, ◌≤ℚ◌, NonNegative, Positive, nat_ℚ, ◌+ℚ◌, ◌*ℚ◌, ◌÷◌, recip, pow_ℚ, sum_ℚ}
use Rattle.fraction.specs.Rounding.{U, ceil_div, Encloses}
use Rattle.fraction.proofs.Order.{≤ℚ-trans, ≈-≤ℚ-trans, ≈-sym, ≈-trans, positive_up}
use Rattle.fraction.proofs.Sum.{zero-+ℚ}
use Rattle.fraction.proofs.Product.{*ℚ-one, *ℚ-cong-right, *ℚ-mono-right}
use Rattle.fraction.proofs.Quotient.{÷-unique, ÷-mono-left, ÷-cong-left, ÷-non_negative, ÷-≤}
use Rattle.fraction.proofs.Power.{sum_ℚ-first, pow_ℚ_non_negative, pow_ℚ_mono, pow_ℚ_cong, sum_ℚ_mono, sum_ℚ_cong, sum_ℚ_scale, sum_ℚ_more}
use Rattle.fraction.proofs.Integer.{nat_ℚ_non_negative, nat_ℚ_positive, nat_ℚ_mono}
use Rattle.fraction.proofs.Decide.{computes, le_ℚ→≤}
use Rattle.fraction.proofs.Enclosure.{encloses-≈, encloses-+, encloses_scaled}
use Rattle.fraction.proofs.Ring.{var, con, ◌⊗◌}
use Rattle.fraction.proofs.RingFraction.{ring_ℚ}
use Rattle.method.specs.Series.{added, growth_sum, growth, growth_low, growth_high}
use Rattle.method.specs.True.{billion, factorial, exp_sum}
use Rattle.method.proofs.Quotients.{nat_exact, ÷-product, Below, up_below_up, down_below_up}
use Rattle.method.proofs.Tail.{tail-≤, tail_covered}
use Rattle.method.proofs.Slack.{added_cases, added_most}
use Rattle.method.specs.Ranges.{growth_range}

-- ---- the terms y^i / i!

abbrev pub exp_term : ℚ → ℕ → ℚ
exp_term y i = pow_ℚ y i ÷ nat_ℚ (factorial i)

factorial_positive : (i : ℕ) → 0 < factorial i
unfolding factorial
factorial_positive zero = zero-lt-suc 0
factorial_positive (suc i) = mul-pos (factorial_positive i) (zero-lt-suc i)

pub exp_term_suc : (y : ℚ) (i : ℕ) → exp_term y (suc i) ≈ (exp_term y i *ℚ y) ÷ nat_ℚ (suc i)
unfolding pow_ℚ factorial
exp_term_suc y i =
    ≈-trans (÷-product (pow_ℚ y i *ℚ y) (factorial_positive i) (zero-lt-suc i))
    (÷-cong-left (nat_ℚ (suc i)) (ring_ℚ (pow_ℚ y i ∷ y ∷ recip (nat_ℚ (factorial i)) ∷ []) ((var 0 ⊗ var 1) ⊗ var 2) ((var 0 ⊗ var 2) ⊗ var 1) tt))

-- the first term
exp_term_zero : (y : ℚ) → exp_term y 0 ≈ nat_ℚ 1
unfolding pow_ℚ factorial
exp_term_zero y = ≈-sym (÷-unique (nat_ℚ_positive (zero-lt-suc 0)) (*ℚ-one (nat_ℚ 1)))

pub exp_term_non_negative : {y : ℚ} → NonNegative y → (i : ℕ) → NonNegative (exp_term y i)
exp_term_non_negative n i = ÷-non_negative (nat_ℚ (factorial i)) (pow_ℚ_non_negative n i)

pub exp_term_mono : {y z : ℚ} → NonNegative y → y ≤ℚ z → (i : ℕ) → exp_term y i ≤ℚ exp_term z i
exp_term_mono n h i = ÷-mono-left (nat_ℚ (factorial i)) (pow_ℚ_mono n h i)

-- from the k-th on each term is at least twice the next, for y up to (k + 1) / 2
pub exp_term_halves : {y : ℚ} → NonNegative y → (k : ℕ) → nat_ℚ 2 *ℚ y ≤ℚ nat_ℚ (suc k) → (i : ℕ) → k ≤ i → nat_ℚ 2 *ℚ exp_term y (suc i) ≤ℚ exp_term y i
exp_term_halves {y} n k h i l =
    let small : nat_ℚ 2 *ℚ y ≤ℚ nat_ℚ (suc i) = ≤ℚ-trans h (nat_ℚ_mono (omega arith)) in
    ≈-≤ℚ-trans
    (≈-trans (*ℚ-cong-right (nat_ℚ 2) (exp_term_suc y i))
    (ring_ℚ (exp_term y i ∷ y ∷ recip (nat_ℚ (suc i)) ∷ []) (con 2 ⊗ ((var 0 ⊗ var 1) ⊗ var 2)) ((var 0 ⊗ (con 2 ⊗ var 1)) ⊗ var 2) tt))
    (÷-≤ (nat_ℚ_positive (zero-lt-suc i)) (*ℚ-mono-right (exp_term_non_negative n i) small))

-- ---- the sums of order n

pub exp_sum_mono : (n : ℕ) {y z : ℚ} → NonNegative y → y ≤ℚ z → exp_sum n y ≤ℚ exp_sum n z
unfolding exp_sum
exp_sum_mono n {y} {z} p h = sum_ℚ_mono (exp_term y) (exp_term z) (13 + n) (λ i l. exp_term_mono p h i)

pub exp_sum_cong : (n : ℕ) {y z : ℚ} → y ≈ z → exp_sum n y ≈ exp_sum n z
unfolding exp_sum
exp_sum_cong n {y} {z} e = sum_ℚ_cong (exp_term y) (exp_term z) (13 + n) (λ i l. ÷-cong-left (nat_ℚ (factorial i)) (pow_ℚ_cong e i))

-- at least its first k terms
pub exp_sum-≥ : (n : ℕ) {y : ℚ} → NonNegative y → (k : ℕ) → k ≤ 13 + n → sum_ℚ (exp_term y) k ≤ℚ exp_sum n y
unfolding exp_sum
exp_sum-≥ n {y} p k l = sum_ℚ_more (exp_term y) (exp_term_non_negative p) k (13 + n) l

-- at most those and twice the next, for y up to (k + 1) / 2
pub exp_sum-≤ : (n : ℕ) {y : ℚ} → NonNegative y → (k : ℕ) → k ≤ 13 + n → nat_ℚ 2 *ℚ y ≤ℚ nat_ℚ (suc k) →
    exp_sum n y ≤ℚ sum_ℚ (exp_term y) k +ℚ nat_ℚ 2 *ℚ exp_term y k
unfolding exp_sum
exp_sum-≤ n {y} p k l h = tail-≤ (exp_term y) (exp_term_non_negative p) k (exp_term_halves p k h) (13 + n) l

pub exp_sum-≥-1 : (n : ℕ) {y : ℚ} → NonNegative y → nat_ℚ 1 ≤ℚ exp_sum n y
unfolding sum_ℚ
exp_sum-≥-1 n {y} p =
    ≈-≤ℚ-trans (≈-sym (≈-trans (zero-+ℚ (exp_term y 0)) (exp_term_zero y))) (exp_sum-≥ n p 1 (omega arith))

pub exp_sum_positive : (n : ℕ) {y : ℚ} → NonNegative y → Positive (exp_sum n y)
exp_sum_positive n p = positive_up (nat_ℚ_positive (zero-lt-suc 0)) (exp_sum-≥-1 n p)

-- ---- the computed terms: from a pair that encloses f 0, pairs that enclose f 1, f 2, ..; f (j + 1) is f j × y / (i + j) U

growth_sum_encloses : (y : ℕ) (k : ℕ) (f : ℕ → ℚ) (i : ℕ) → 0 < i →
    ((j : ℕ) → f (suc j) ≈ (f j *ℚ nat_ℚ y) ÷ nat_ℚ ((i + j) * U)) → {low high : ℕ} → Encloses (pos low) (pos high) (f 0) →
    Encloses (pos (growth_sum ◌/◌ y i low k)) (pos (growth_sum ceil_div y i high k)) (sum_ℚ (λ j. f (suc j)) k)
unfolding growth_sum sum_ℚ
growth_sum_encloses y zero f i p steps e = nat_exact 0
growth_sum_encloses y (suc k) f i p steps {low} {high} e =
    encloses-≈ (≈-sym (sum_ℚ-first (λ j. f (suc j)) k))
    (encloses-+ head (growth_sum_encloses y k (λ j. f (suc j)) (suc i) (zero-lt-suc i) later head))
  where
    head : Encloses (pos (low * y / (i * U))) (pos (ceil_div (high * y) (i * U))) (f 1)
    head =
        encloses-≈ (≈-sym (rw (add-zero i) at (steps 0)))
        (encloses_scaled (mul-pos p (lit< tt)) e (nat_exact y))

    later : (j : ℕ) → f (suc (suc j)) ≈ (f (suc j) *ℚ nat_ℚ y) ÷ nat_ℚ ((suc i + j) * U)
    later j = let same : suc i + j ≡ i + suc j = omega arith in rw same (steps (suc j))

-- ---- the growth encloses U × the sum of every order

range_halves : nat_ℚ 2 *ℚ (nat_ℚ growth_range ÷ billion) ≤ℚ nat_ℚ 9
unfolding computes
range_halves = le_ℚ→≤ tt

range_tail : billion *ℚ (nat_ℚ 2 *ℚ exp_term (nat_ℚ growth_range ÷ billion) 8) ≤ℚ nat_ℚ 1
unfolding computes factorial
range_tail = le_ℚ→≤ tt

-- at 0 there is none
zero_tail : billion *ℚ (nat_ℚ 2 *ℚ exp_term (nat_ℚ 0 ÷ billion) 8) ≤ℚ nat_ℚ 0
unfolding computes factorial
zero_tail = le_ℚ→≤ tt

module _ (y : ℕ) where
  abbrev part : ℚ
  part = nat_ℚ y ÷ billion

  steps : (j : ℕ) → billion *ℚ exp_term part (suc j) ≈ ((billion *ℚ exp_term part j) *ℚ nat_ℚ y) ÷ nat_ℚ ((1 + j) * U)
  steps j =
      let same : 1 + j ≡ suc j = omega arith in
      let t : ℚ = exp_term part j in
      rw same
      (≈-trans (*ℚ-cong-right billion (exp_term_suc part j))
      (≈-trans
      (ring_ℚ (billion ∷ t ∷ nat_ℚ y ∷ recip billion ∷ recip (nat_ℚ (suc j)) ∷ [])
      (var 0 ⊗ ((var 1 ⊗ (var 2 ⊗ var 3)) ⊗ var 4))
      ((((var 0 ⊗ var 1) ⊗ var 2) ⊗ var 4) ⊗ var 3)
      tt)
      (≈-sym (÷-product ((billion *ℚ t) *ℚ nat_ℚ y) (zero-lt-suc j) (lit< tt)))))

  first_encloses : Encloses (pos U) (pos U) (billion *ℚ exp_term part 0)
  first_encloses = encloses-≈ (≈-trans (≈-sym (*ℚ-one billion)) (*ℚ-cong-right billion (≈-sym (exp_term_zero part)))) (nat_exact U)

  eight_encloses : Encloses (pos (growth ◌/◌ y)) (pos (growth ceil_div y)) (billion *ℚ sum_ℚ (exp_term part) 8)
  unfolding growth
  eight_encloses =
      let f : ℕ → ℚ = λ i. billion *ℚ exp_term part i in
      encloses-≈ (≈-trans (≈-sym (sum_ℚ-first f 7)) (≈-sym (sum_ℚ_scale billion (exp_term part) 8)))
      (encloses-+ first_encloses (growth_sum_encloses y 7 f 1 (lit< tt) steps first_encloses))

  part_non_negative : NonNegative part
  part_non_negative = ÷-non_negative billion (nat_ℚ_non_negative y)

  module _ (h : y ≤ growth_range) where
    within : part ≤ℚ nat_ℚ growth_range ÷ billion
    within = ÷-mono-left billion (nat_ℚ_mono h)

    halves : nat_ℚ 2 *ℚ part ≤ℚ nat_ℚ 9
    halves = ≤ℚ-trans (*ℚ-mono-right (nat_ℚ_non_negative 2) within) range_halves

    small : billion *ℚ (nat_ℚ 2 *ℚ exp_term part 8) ≤ℚ nat_ℚ 1
    small =
        ≤ℚ-trans
        (*ℚ-mono-right (nat_ℚ_non_negative U) (*ℚ-mono-right (nat_ℚ_non_negative 2) (exp_term_mono part_non_negative within 8)))
        range_tail

    -- what is added covers the tail
    covered : billion *ℚ (nat_ℚ 2 *ℚ exp_term part 8) ≤ℚ nat_ℚ (added 0 0 y)
    covered = added_cases 0 0 y (λ m. billion *ℚ (nat_ℚ 2 *ℚ exp_term part 8) ≤ℚ nat_ℚ m) (λ e. rw e zero_tail) small

pub growth_encloses : (n y : ℕ) → y ≤ growth_range → Encloses (pos (growth_low y)) (pos (growth_high y)) (billion *ℚ exp_sum n (nat_ℚ y ÷ billion))
unfolding exp_sum
growth_encloses n y h =
    let p = part_non_negative y in
    tail_covered (exp_term (part y)) (exp_term_non_negative p) 8 (exp_term_halves p 8 (halves y h)) (nat_ℚ_non_negative U) (added 0 0 y) (covered y h)
    (eight_encloses y)
    (13 + n)
    (omega arith)

-- ---- bounds

growth_sum_mono : {round round' : ℕ → ℕ → ℕ} → Below round round' → {y y' : ℕ} → y ≤ y' → (k i : ℕ) {t t' : ℕ} → t ≤ t' →
    growth_sum round y i t k ≤ growth_sum round' y' i t' k
unfolding growth_sum
growth_sum_mono b h zero i l = omega arith
growth_sum_mono b h (suc k) i l =
    let next = b.below (i * U) (mul-le-mul l h) in
    add-le-add next (growth_sum_mono b h k (suc i) next)

pub growth_mono : {round round' : ℕ → ℕ → ℕ} → Below round round' → {y y' : ℕ} → y ≤ y' → growth round y ≤ growth round' y'
unfolding growth
growth_mono b h = add-le-add (le_refl U) (growth_sum_mono b h 7 1 (le_refl U))

pub growth_low-≥ : (y : ℕ) → U ≤ growth_low y
unfolding growth
growth_low-≥ y = omega arith

pub growth_low-≤-growth_high : (y : ℕ) → growth_low y ≤ growth_high y
growth_low-≤-growth_high y = omega (arith, growth_mono down_below_up (le_refl y))

growth_range-≤ : growth ceil_div growth_range < 1_300_000_000
unfolding growth growth_sum
growth_range-≤ = lit< tt

pub growth_high-≤ : {y : ℕ} → y ≤ growth_range → growth_high y ≤ 1_300_000_000
growth_high-≤ {y} h = omega (arith, growth_mono up_below_up h, growth_range-≤, added_most 0 y)
