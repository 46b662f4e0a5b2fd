-- Naturals and integers as fractions: order, sum, product and negation carry over.
use mathlib.Core.Path.{◌≡◌, refl, ap}
use mathlib.Core.Bool.{Bool, true, false, not, cond}
use Prim.Native.Nat.{ℕ, zero, suc, ◌+◌, ◌*◌, ◌-◌, ◌≤◌, ◌<◌}
use native.Mathlib.Omega.{arith}
use lib.Dec.{T, ltb, ltb→lt, nltb→le, leb→le, le→leb, lt→ltb}
use lib.IntN.{ℤ, pos, negsuc, neg_ℤ, sub_ℕ, ◌+ℤ◌, ◌*ℤ◌, ◌-ℤ◌}
use lib.Signed.{le_z, lt_z, ◌≤ℤ◌, ◌<ℤ◌}
use Rattle.fraction.specs.Fraction.{◌≈◌, ◌≤ℚ◌, ◌<ℚ◌, NonNegative, Positive, nat_ℚ, pos_part, neg_part, int_ℚ, neg_ℚ, ◌+ℚ◌, ◌-ℚ◌, ◌*ℚ◌}
use Rattle.fraction.proofs.Order.{≤ℚ-trans, ≈-refl, ≈-trans}
use Rattle.fraction.proofs.Sum.{+ℚ-cong}

-- ---- naturals

pub nat_ℚ_non_negative : (n : ℕ) → NonNegative (nat_ℚ n)
unfolding nat_ℚ
nat_ℚ_non_negative n = omega arith

pub nat_ℚ_positive : {n : ℕ} → 0 < n → Positive (nat_ℚ n)
unfolding nat_ℚ
nat_ℚ_positive h = omega arith

pub nat_ℚ_mono : {a b : ℕ} → a ≤ b → nat_ℚ a ≤ℚ nat_ℚ b
unfolding nat_ℚ
nat_ℚ_mono h = omega arith

pub nat_ℚ_strict : {a b : ℕ} → a < b → nat_ℚ a <ℚ nat_ℚ b
unfolding nat_ℚ
nat_ℚ_strict h = omega arith

pub nat_ℚ_reflects : (a b : ℕ) → nat_ℚ a ≤ℚ nat_ℚ b → a ≤ b
unfolding nat_ℚ
nat_ℚ_reflects a b h = omega arith

pub natℚ-reflects-< : (a b : ℕ) → nat_ℚ a <ℚ nat_ℚ b → a < b
unfolding nat_ℚ
natℚ-reflects-< a b h = omega arith

pub natℚ-+ : (a b : ℕ) → nat_ℚ (a + b) ≈ nat_ℚ a +ℚ nat_ℚ b
unfolding nat_ℚ ◌+ℚ◌
natℚ-+ a b = omega arith

pub natℚ-* : (a b : ℕ) → nat_ℚ (a * b) ≈ nat_ℚ a *ℚ nat_ℚ b
unfolding nat_ℚ ◌*ℚ◌
natℚ-* a b = omega arith

-- a difference of naturals
pub natℚ-∸ : {a b : ℕ} → a ≤ b → nat_ℚ (b - a) ≈ nat_ℚ b -ℚ nat_ℚ a
unfolding nat_ℚ ◌+ℚ◌ neg_ℚ
natℚ-∸ h = omega arith

pub int_ℚ-pos : (n : ℕ) → int_ℚ (pos n) ≈ nat_ℚ n
unfolding nat_ℚ int_ℚ
int_ℚ-pos n = omega arith

-- ---- integers

pub int_ℚ_mono : {a b : ℤ} → a ≤ℤ b → int_ℚ a ≤ℚ int_ℚ b
unfolding int_ℚ
int_ℚ_mono {a} {b} h = go a b h.le
  where
    go : (a b : ℤ) → T (le_z a b) → int_ℚ a ≤ℚ int_ℚ b
    go (pos a) (pos b) t = omega (arith, leb→le)
    go (pos a) (negsuc b) t = absurd t
    go (negsuc a) (pos b) t = omega arith
    go (negsuc a) (negsuc b) t = omega (arith, leb→le)

pub int_ℚ_strict : {a b : ℤ} → a <ℤ b → int_ℚ a <ℚ int_ℚ b
unfolding int_ℚ
int_ℚ_strict {a} {b} h = go a b h.lt
  where
    go : (a b : ℤ) → T (lt_z a b) → int_ℚ a <ℚ int_ℚ b
    go (pos a) (pos b) t = omega (arith, ltb→lt)
    go (pos a) (negsuc b) t = absurd t
    go (negsuc a) (pos b) t = omega arith
    go (negsuc a) (negsuc b) t = omega (arith, ltb→lt)

pub int_ℚ_reflects : (a b : ℤ) → int_ℚ a ≤ℚ int_ℚ b → a ≤ℤ b
unfolding int_ℚ
int_ℚ_reflects a b h = record { le = go a b h }
  where
    go : (a b : ℤ) → int_ℚ a ≤ℚ int_ℚ b → T (le_z a b)
    go (pos a) (pos b) t = omega (arith, le→leb)
    go (pos a) (negsuc b) t = absurd (omega arith)
    go (negsuc a) (pos b) t = tt
    go (negsuc a) (negsuc b) t = omega (arith, le→leb)

pub ≤ℤ-trans : {a b c : ℤ} → a ≤ℤ b → b ≤ℤ c → a ≤ℤ c
≤ℤ-trans {a} {b} {c} h k = int_ℚ_reflects a c (≤ℚ-trans (int_ℚ_mono h) (int_ℚ_mono k))

pub ≤ℤ-antisym : (a b : ℤ) → a ≤ℤ b → b ≤ℤ a → a ≡ b
≤ℤ-antisym (pos a) (pos b) h k = ap pos (omega (arith, leb→le a b h.le, leb→le b a k.le))
≤ℤ-antisym (pos a) (negsuc b) h k = absurd h.le
≤ℤ-antisym (negsuc a) (pos b) h k = absurd k.le
≤ℤ-antisym (negsuc a) (negsuc b) h k = ap negsuc (omega (arith, leb→le b a h.le, leb→le a b k.le))

pub intℚ-reflects-< : (a b : ℤ) → int_ℚ a <ℚ int_ℚ b → a <ℤ b
unfolding int_ℚ
intℚ-reflects-< a b h = record { lt = go a b h }
  where
    go : (a b : ℤ) → int_ℚ a <ℚ int_ℚ b → T (lt_z a b)
    go (pos a) (pos b) t = omega (arith, lt→ltb)
    go (pos a) (negsuc b) t = absurd (omega arith)
    go (negsuc a) (pos b) t = tt
    go (negsuc a) (negsuc b) t = omega (arith, lt→ltb)

cond_ind : (c : Bool) (x y : ℤ) (P : ℤ → Type 0) → (T c → P x) → (T (not c) → P y) → P (cond c x y)
cond_ind true x y P f g = f tt
cond_ind false x y P f g = g tt

-- the parts of a difference of naturals
sub_ℕ_parts : (a b : ℕ) → pos_part (sub_ℕ a b) + b ≡ a + neg_part (sub_ℕ a b)
sub_ℕ_parts a b =
    cond_ind (ltb a b) (negsuc (b - suc a)) (pos (a - b)) (λ z. pos_part z + b ≡ a + neg_part z)
    (λ t. omega (arith, ltb→lt a b t))
    (λ t. omega (arith, nltb→le a b t))

neg_parts : (n : ℕ) → pos_part (neg_ℤ (pos n)) + n ≡ neg_part (neg_ℤ (pos n))
neg_parts zero = refl
neg_parts (suc n) = omega arith

pub int_ℚ_neg : (a : ℤ) → int_ℚ (neg_ℤ a) ≈ neg_ℚ (int_ℚ a)
unfolding int_ℚ neg_ℚ
int_ℚ_neg (pos zero) = omega arith
int_ℚ_neg (pos (suc n)) = omega arith
int_ℚ_neg (negsuc n) = omega arith

pub intℚ-+ : (a b : ℤ) → int_ℚ (a +ℤ b) ≈ int_ℚ a +ℚ int_ℚ b
unfolding int_ℚ ◌+ℚ◌
intℚ-+ (pos a) (pos b) = omega arith
intℚ-+ (pos a) (negsuc b) = omega (arith, sub_ℕ_parts a (suc b))
intℚ-+ (negsuc a) (pos b) = omega (arith, sub_ℕ_parts b (suc a))
intℚ-+ (negsuc a) (negsuc b) = omega arith

pub int_ℚ-minus : (a b : ℤ) → int_ℚ (a -ℤ b) ≈ int_ℚ a -ℚ int_ℚ b
int_ℚ-minus a b = ≈-trans (intℚ-+ a (neg_ℤ b)) (+ℚ-cong (≈-refl (int_ℚ a)) (int_ℚ_neg b))

pub intℚ-* : (a b : ℤ) → int_ℚ (a *ℤ b) ≈ int_ℚ a *ℚ int_ℚ b
unfolding int_ℚ ◌*ℚ◌
intℚ-* (pos a) (pos b) = omega arith
intℚ-* (pos a) (negsuc b) = omega (arith, neg_parts (a * suc b))
intℚ-* (negsuc a) (pos b) = omega (arith, neg_parts (suc a * b))
intℚ-* (negsuc a) (negsuc b) = omega arith
