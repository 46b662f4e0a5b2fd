-- Powers and finite sums of fractions.
use mathlib.Core.Path.{◌≡◌, refl, subst, sym}
use mathlib.Core.Logic.{◌⊎◌, inl, inr}
use Prim.Native.Nat.{ℕ, zero, suc, ◌+◌, ◌^◌, ◌≤◌, ◌<◌}
use native.Mathlib.Nat.{add-zero, add-suc, le-suc_iff, pow-zero, pow-suc}
use native.Mathlib.Omega.{arith}
use Rattle.fraction.specs.Fraction.{ℚ, ◌≈◌, ◌≤ℚ◌, ◌<ℚ◌, NonNegative, Positive, nat_ℚ, neg_ℚ, ◌+ℚ◌, ◌*ℚ◌, pow_ℚ, sum_ℚ}
use Rattle.fraction.proofs.Order.{≤ℚ-refl, ≤ℚ-trans, ≈→≤, ≈-refl, ≈-sym, ≈-trans, ≤ℚ-≈-trans, ≈-≤ℚ-trans}
use Rattle.fraction.proofs.Order.{≤ℚ-<ℚ-trans, <ℚ-≤ℚ-trans, <ℚ→≤ℚ, positive→non_negative, non_negative_up, ≡→≈}
use Rattle.fraction.proofs.Integer.{nat_ℚ_non_negative, nat_ℚ_positive, natℚ-*}
use Rattle.fraction.proofs.Sum.{+ℚ-comm, +ℚ-assoc, +ℚ-mono, +ℚ-cong, +ℚ-non_negative, ≤-+ℚ-right, negℚ-+ℚ}
use Rattle.fraction.proofs.Product.{*ℚ-comm, *ℚ-assoc, *ℚ-one, *ℚ-zero, *ℚ-+ℚ, *ℚ-cong, *ℚ-cong-left, *ℚ-cong-right}
use Rattle.fraction.proofs.Product.{*ℚ-mono, *ℚ-mono-right, *ℚ-strict-left, *ℚ-non_negative, *ℚ-positive}

-- ---- powers

pub pow_ℚ_non_negative : {x : ℚ} → NonNegative x → (n : ℕ) → NonNegative (pow_ℚ x n)
unfolding pow_ℚ
pow_ℚ_non_negative h zero = nat_ℚ_non_negative 1
pow_ℚ_non_negative h (suc n) = *ℚ-non_negative (pow_ℚ_non_negative h n) h

pub pow_ℚ_positive : {x : ℚ} → Positive x → (n : ℕ) → Positive (pow_ℚ x n)
unfolding pow_ℚ
pow_ℚ_positive h zero = nat_ℚ_positive (omega arith)
pow_ℚ_positive h (suc n) = *ℚ-positive (pow_ℚ_positive h n) h

pub pow_ℚ_mono : {x y : ℚ} → NonNegative x → x ≤ℚ y → (n : ℕ) → pow_ℚ x n ≤ℚ pow_ℚ y n
unfolding pow_ℚ
pow_ℚ_mono h k zero = ≤ℚ-refl (nat_ℚ 1)
pow_ℚ_mono h k (suc n) = *ℚ-mono (pow_ℚ_non_negative (non_negative_up h k) n) h (pow_ℚ_mono h k n) k

pub pow_ℚ_strict : {x y : ℚ} → Positive x → x <ℚ y → (n : ℕ) → pow_ℚ x (suc n) <ℚ pow_ℚ y (suc n)
unfolding pow_ℚ
pow_ℚ_strict {x} {y} h k n =
    let ny : NonNegative y = non_negative_up (positive→non_negative h) (<ℚ→≤ℚ k) in
    <ℚ-≤ℚ-trans
    (≤ℚ-<ℚ-trans (≈→≤ (*ℚ-comm (pow_ℚ x n) x)) (*ℚ-strict-left (pow_ℚ_positive h n) k))
    (≤ℚ-trans (*ℚ-mono-right ny (pow_ℚ_mono (positive→non_negative h) (<ℚ→≤ℚ k) n)) (≈→≤ (*ℚ-comm y (pow_ℚ y n))))

pub pow_ℚ_cong : {x y : ℚ} → x ≈ y → (n : ℕ) → pow_ℚ x n ≈ pow_ℚ y n
unfolding pow_ℚ
pow_ℚ_cong e zero = ≈-refl (nat_ℚ 1)
pow_ℚ_cong e (suc n) = *ℚ-cong (pow_ℚ_cong e n) e

pub powℚ-+ : (x : ℚ) (m n : ℕ) → pow_ℚ x (m + n) ≈ pow_ℚ x m *ℚ pow_ℚ x n
unfolding pow_ℚ
powℚ-+ x m zero = rw (add-zero m) (≈-sym (*ℚ-one (pow_ℚ x m)))
powℚ-+ x m (suc n) = rw (add-suc m n) (≈-trans (*ℚ-cong-left x (powℚ-+ x m n)) (*ℚ-assoc (pow_ℚ x m) (pow_ℚ x n) x))

swap : (a b x y : ℚ) → (a *ℚ b) *ℚ (x *ℚ y) ≈ (a *ℚ x) *ℚ (b *ℚ y)
swap a b x y =
    ≈-trans (*ℚ-assoc a b (x *ℚ y))
    (≈-trans (*ℚ-cong-right a (≈-trans (≈-sym (*ℚ-assoc b x y)) (≈-trans (*ℚ-cong-left y (*ℚ-comm b x)) (*ℚ-assoc x b y))))
    (≈-sym (*ℚ-assoc a x (b *ℚ y))))

pub powℚ-*ℚ : (x y : ℚ) (n : ℕ) → pow_ℚ (x *ℚ y) n ≈ pow_ℚ x n *ℚ pow_ℚ y n
unfolding pow_ℚ
powℚ-*ℚ x y zero = ≈-sym (*ℚ-one (nat_ℚ 1))
powℚ-*ℚ x y (suc n) = ≈-trans (*ℚ-cong-left (x *ℚ y) (powℚ-*ℚ x y n)) (swap (pow_ℚ x n) (pow_ℚ y n) x y)

-- a base of at least 1: powers grow with the exponent
pub pow_ℚ_grows : {x : ℚ} → nat_ℚ 1 ≤ℚ x → (n : ℕ) → pow_ℚ x n ≤ℚ pow_ℚ x (suc n)
unfolding pow_ℚ
pow_ℚ_grows {x} h n =
    let nx = non_negative_up (nat_ℚ_non_negative 1) h in
    ≈-≤ℚ-trans (≈-sym (*ℚ-one (pow_ℚ x n))) (*ℚ-mono-right (pow_ℚ_non_negative nx n) h)

-- a base from 0 to 1: they fall
pub pow_ℚ-falls : {x : ℚ} → NonNegative x → x ≤ℚ nat_ℚ 1 → (n : ℕ) → pow_ℚ x (suc n) ≤ℚ pow_ℚ x n
unfolding pow_ℚ
pow_ℚ-falls {x} h k n = ≤ℚ-≈-trans (*ℚ-mono-right (pow_ℚ_non_negative h n) k) (*ℚ-one (pow_ℚ x n))

-- a power of a natural
pub natℚ-^ : (a h : ℕ) → nat_ℚ (a ^ h) ≈ pow_ℚ (nat_ℚ a) h
unfolding pow_ℚ
natℚ-^ a zero = rw (pow-zero a) (≈-refl (nat_ℚ 1))
natℚ-^ a (suc h) = rw (pow-suc a h) (≈-trans (natℚ-* (a ^ h) a) (*ℚ-cong-left (nat_ℚ a) (natℚ-^ a h)))

-- ---- finite sums

pub sum_ℚ_mono : (f g : ℕ → ℚ) (n : ℕ) → ((k : ℕ) → k < n → f k ≤ℚ g k) → sum_ℚ f n ≤ℚ sum_ℚ g n
unfolding sum_ℚ
sum_ℚ_mono f g zero h = ≤ℚ-refl (nat_ℚ 0)
sum_ℚ_mono f g (suc n) h = +ℚ-mono (sum_ℚ_mono f g n (λ k l. h k (omega arith))) (h n (omega arith))

pub sum_ℚ_cong : (f g : ℕ → ℚ) (n : ℕ) → ((k : ℕ) → k < n → f k ≈ g k) → sum_ℚ f n ≈ sum_ℚ g n
unfolding sum_ℚ
sum_ℚ_cong f g zero h = ≈-refl (nat_ℚ 0)
sum_ℚ_cong f g (suc n) h = +ℚ-cong (sum_ℚ_cong f g n (λ k l. h k (omega arith))) (h n (omega arith))

pub sum_ℚ_non_negative : (f : ℕ → ℚ) (n : ℕ) → ((k : ℕ) → k < n → NonNegative (f k)) → NonNegative (sum_ℚ f n)
unfolding sum_ℚ
sum_ℚ_non_negative f zero h = nat_ℚ_non_negative 0
sum_ℚ_non_negative f (suc n) h = +ℚ-non_negative (sum_ℚ_non_negative f n (λ k l. h k (omega arith))) (h n (omega arith))

pub sum_ℚ_scale : (x : ℚ) (f : ℕ → ℚ) (n : ℕ) → x *ℚ sum_ℚ f n ≈ sum_ℚ (λ k. x *ℚ f k) n
unfolding sum_ℚ
sum_ℚ_scale x f zero = *ℚ-zero x
sum_ℚ_scale x f (suc n) = ≈-trans (*ℚ-+ℚ x (sum_ℚ f n) (f n)) (+ℚ-cong (sum_ℚ_scale x f n) (≈-refl (x *ℚ f n)))

-- more terms that are not negative
pub sum_ℚ_more : (f : ℕ → ℚ) → ((k : ℕ) → NonNegative (f k)) → (m n : ℕ) → m ≤ n → sum_ℚ f m ≤ℚ sum_ℚ f n
unfolding sum_ℚ
sum_ℚ_more f h m zero l = ≈→≤ (≡→≈ (subst (λ (k : ℕ). sum_ℚ f k ≡ sum_ℚ f 0) is refl))
  where
    is : 0 ≡ m
    is = omega arith
sum_ℚ_more f h m (suc n) l = go (λ (u : m ≤ n). sum_ℚ_more f h m n u) (le-suc_iff.0 l)
  where
    go : (m ≤ n → sum_ℚ f m ≤ℚ sum_ℚ f n) → (m ≤ n) ⊎ (m ≡ suc n) → sum_ℚ f m ≤ℚ sum_ℚ f (suc n)
    go r (inl u) = ≤ℚ-trans (r u) (≤-+ℚ-right (sum_ℚ f n) (h n))
    go r (inr e) = subst (λ (k : ℕ). sum_ℚ f k ≤ℚ sum_ℚ f (suc n)) (sym e) (≤ℚ-refl (sum_ℚ f (suc n)))

-- ---- from the first term, and of negated terms

pub sum_ℚ-first : (f : ℕ → ℚ) (n : ℕ) → sum_ℚ f (suc n) ≈ f 0 +ℚ sum_ℚ (λ i. f (suc i)) n
unfolding sum_ℚ
sum_ℚ-first f zero = +ℚ-comm (nat_ℚ 0) (f 0)
sum_ℚ-first f (suc n) =
    ≈-trans (+ℚ-cong (sum_ℚ-first f n) (≈-refl (f (suc n)))) (+ℚ-assoc (f 0) (sum_ℚ (λ i. f (suc i)) n) (f (suc n)))

neg_zero : neg_ℚ (nat_ℚ 0) ≈ nat_ℚ 0
unfolding neg_ℚ nat_ℚ
neg_zero = omega arith

pub sum_ℚ_neg : (f : ℕ → ℚ) (n : ℕ) → sum_ℚ (λ i. neg_ℚ (f i)) n ≈ neg_ℚ (sum_ℚ f n)
unfolding sum_ℚ
sum_ℚ_neg f zero = ≈-sym neg_zero
sum_ℚ_neg f (suc n) = ≈-trans (+ℚ-cong (sum_ℚ_neg f n) (≈-refl (neg_ℚ (f n)))) (≈-sym (negℚ-+ℚ (sum_ℚ f n) (f n)))
