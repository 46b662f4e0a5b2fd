-- Exact fractions (p - m) / d of natural parts, 0 < d. Nothing is reduced: equality is by cross products.
use Rattle.std.specs.Prelude.{ℕ, zero, suc, ◌+◌, ◌*◌, ◌-◌, ◌≤◌, ◌<◌, Bool, ◌≡◌, leb, ℤ, pos, negsuc}
use Rattle.std.proofs.Common.{mul-pos, zero-lt-suc}

pub record ℚ : Type 0 where
  pub p : ℕ
  pub m : ℕ
  pub d : ℕ
  pub d_pos : 0 < d

-- ---- equality and order, by cross products

infix 50 ◌≈◌ ◌≤ℚ◌ ◌<ℚ◌
pub record ◌≈◌ (x y : ℚ) : Type 0 where
  pub eq : x.p * y.d + y.m * x.d ≡ y.p * x.d + x.m * y.d

pub record ◌≤ℚ◌ (x y : ℚ) : Type 0 where
  pub le : x.p * y.d + y.m * x.d ≤ y.p * x.d + x.m * y.d

pub record ◌<ℚ◌ (x y : ℚ) : Type 0 where
  pub lt : x.p * y.d + y.m * x.d < y.p * x.d + x.m * y.d

pub record NonNegative (x : ℚ) : Type 0 where
  pub at_least : x.m ≤ x.p

pub record NonPositive (x : ℚ) : Type 0 where
  pub at_most : x.p ≤ x.m

pub record Positive (x : ℚ) : Type 0 where
  pub above : x.m < x.p

-- the order as a test that computes
abbrev pub le_ℚ : ℚ → ℚ → Bool
le_ℚ x y = leb (x.p * y.d + y.m * x.d) (y.p * x.d + x.m * y.d)

-- ---- whole numbers

unfoldable pub nat_ℚ : ℕ → ℚ
nat_ℚ n = record { p = n; m = 0; d = 1; d_pos = zero-lt-suc 0 }

-- the positive and the negative part of an integer
abbrev pub pos_part : ℤ → ℕ
pos_part (pos n) = n
pos_part (negsuc n) = 0

abbrev pub neg_part : ℤ → ℕ
neg_part (pos n) = 0
neg_part (negsuc n) = suc n

unfoldable pub int_ℚ : ℤ → ℚ
int_ℚ z = record { p = pos_part z; m = neg_part z; d = 1; d_pos = zero-lt-suc 0 }

-- ---- the operations of a field

infixl 60 ◌+ℚ◌ ◌-ℚ◌
infixl 70 ◌*ℚ◌ ◌÷◌
unfoldable pub ◌+ℚ◌ : ℚ → ℚ → ℚ
x +ℚ y =
    record {
      p = x.p * y.d + y.p * x.d;
      m = x.m * y.d + y.m * x.d;
      d = x.d * y.d;
      d_pos = mul-pos x.d_pos y.d_pos;
    }

unfoldable pub neg_ℚ : ℚ → ℚ
neg_ℚ x = record { p = x.m; m = x.p; d = x.d; d_pos = x.d_pos }

abbrev pub ◌-ℚ◌ : ℚ → ℚ → ℚ
x -ℚ y = x +ℚ neg_ℚ y

unfoldable pub ◌*ℚ◌ : ℚ → ℚ → ℚ
x *ℚ y =
    record {
      p = x.p * y.p + x.m * y.m;
      m = x.p * y.m + x.m * y.p;
      d = x.d * y.d;
      d_pos = mul-pos x.d_pos y.d_pos;
    }

-- d / n for a positive n, and 0 for 0
unfoldable pub over : ℕ → ℕ → ℚ
over d zero = nat_ℚ 0
over d (suc n) = record { p = d; m = 0; d = suc n; d_pos = zero-lt-suc n }

-- 1 / x for a positive x, and 0 for any other
unfoldable pub recip : ℚ → ℚ
recip x = over x.d (x.p - x.m)

-- x / y for a positive y
abbrev pub ◌÷◌ : ℚ → ℚ → ℚ
x ÷ y = x *ℚ recip y

-- ---- powers and finite sums

unfoldable pub pow_ℚ : ℚ → ℕ → ℚ
pow_ℚ x zero = nat_ℚ 1
pow_ℚ x (suc n) = pow_ℚ x n *ℚ x

-- f 0 + .. + f (n - 1)
unfoldable pub sum_ℚ : (ℕ → ℚ) → ℕ → ℚ
sum_ℚ f zero = nat_ℚ 0
sum_ℚ f (suc n) = sum_ℚ f n +ℚ f n
