-- Laws of the trial at a yearly factor x: a year more, the order of two trials, and how two trials compare by powers of their x.
use mathlib.Core.Path.{◌≡◌, refl}
use Prim.Native.Nat.{ℕ, zero, suc, ◌+◌, ◌*◌, ◌-◌, ◌/◌, ◌^◌, ◌≤◌, ◌<◌}
use native.Mathlib.Nat.{div-mul-le_self, le_of_mul-le-mul_right, lt_of_mul-lt-mul_right, mul-le-mul, mul-le-mul_left}
use native.Mathlib.Nat.{mul-le-mul_right, mul-lt-mul_of_pos_left, pow-suc, pow-zero, le_refl, le_trans, lt_of_le_of_lt, add-zero, add-suc}
use native.Mathlib.Omega.{arith}
use lib.Dec.{lit<}
use Rattle.fraction.specs.Rounding.{U, ceil_div}
use Rattle.fraction.proofs.Rounding.{U-positive}
use Rattle.method.specs.Sheet.{total}
use Rattle.method.specs.Quotes.{trial, last_of, highest_factor, upper_end}
use Rattle.method.proofs.Quotients.{ceil_div_covers}

-- ---- a year more: the last Tk, times x, is rounded and joins the sum

pub last_none : (round : ℕ → ℕ → ℕ) (t x : ℕ) → last_of t (trial round t x 0) ≡ t
unfolding trial last_of
last_none round t x = refl

pub last_more : (round : ℕ → ℕ → ℕ) (t x k : ℕ) →
    last_of t (trial round t x (suc k)) ≡ round (last_of t (trial round t x k) * x) U
unfolding trial last_of
last_more round t x zero = refl
last_more round t x (suc k) = last_more round (round (t * x) U) x k

pub total_none : (round : ℕ → ℕ → ℕ) (t x : ℕ) → total (trial round t x 0) ≡ 0
unfolding trial total
total_none round t x = refl

pub total_more : (round : ℕ → ℕ → ℕ) (t x k : ℕ) →
    total (trial round t x (suc k)) ≡ total (trial round t x k) + last_of t (trial round t x (suc k))
unfolding trial last_of total
total_more round t x zero = omega arith
total_more round t x (suc k) = omega (arith, total_more round (round (t * x) U) x k)

-- ---- quotients down and up, against what was divided

pub down-≤ : (n : ℕ) → n / U * U ≤ n
down-≤ n = div-mul-le_self n U

pub up-≥ : (n : ℕ) → n ≤ ceil_div n U * U
up-≥ n = ceil_div_covers n U U-positive

-- ---- order: a smaller start, a smaller x, a lower rounding

pub record Ordered (f g : ℕ → ℕ → ℕ) : Type 0 where
  pub holds : (a b : ℕ) → a ≤ b → f a U ≤ g b U

pub down_up : Ordered ◌/◌ ceil_div
down_up = record { holds = λ a b h. le_of_mul-le-mul_right {k = U} (omega (arith, down-≤ a, up-≥ b)) U-positive }

pub up_up : Ordered ceil_div ceil_div
up_up =
    record {
      holds = λ a b h. le_of_mul-le-mul_right {k = U} (omega (arith, div-mul-le_self (a + (U - 1)) U, up-≥ b)) U-positive;
    }

module _ {f g : ℕ → ℕ → ℕ} (o : Ordered f g) {s t x y : ℕ} (st : s ≤ t) (xy : x ≤ y) where
  pub last_ordered : (k : ℕ) → last_of s (trial f s x k) ≤ last_of t (trial g t y k)
  last_ordered zero = rw (last_none f s x, last_none g t y) st
  last_ordered (suc k) = rw (last_more f s x k, last_more g t y k) (o.holds _ _ (mul-le-mul (last_ordered k) xy))

  pub total_ordered : (k : ℕ) → total (trial f s x k) ≤ total (trial g t y k)
  total_ordered zero = rw (total_none f s x, total_none g t y) (le_refl 0)
  total_ordered (suc k) = omega (arith, total_more f s x k, total_more g t y k, total_ordered k, last_ordered (suc k))

-- a larger x, rounded up, ends strictly higher after one year and more
module _ {s t x y : ℕ} (st : s ≤ t) (positive : 0 < t) (xy : x < y) where
  last_positive : (k : ℕ) → 0 < last_of t (trial ceil_div t y k)
  last_positive zero = rw (last_none ceil_div t y) positive
  last_positive (suc k) =
      let high = last_of t (trial ceil_div t y k) in
      omega (arith, last_more ceil_div t y k, up-≥ (high * y), mul-lt-mul_of_pos_left xy (last_positive k))

  pub last_strict : (k : ℕ) → last_of s (trial ◌/◌ s x (suc k)) < last_of t (trial ceil_div t y (suc k))
  last_strict k =
      let low = last_of s (trial ◌/◌ s x k) in
      let high = last_of t (trial ceil_div t y k) in
      let ordered : low * x ≤ high * x = mul-le-mul_right x (last_ordered down_up st (omega arith) k) in
      let higher : high * x < high * y = mul-lt-mul_of_pos_left xy (last_positive k) in
      rw (last_more ◌/◌ s x k, last_more ceil_div t y k)
      (lt_of_mul-lt-mul_right U (omega (arith, down-≤ (low * x), up-≥ (high * y))))

-- ---- two trials by powers of their x: over k years Tk goes with the power k, and S at most so where the x falls

last_step : (x y p q low high l h : ℕ) → q * low ≤ p * high → l * U ≤ low * x → high * y ≤ h * U → q * y * l ≤ p * x * h
last_step x y p q low high l h i a b =
    le_of_mul-le-mul_right {k = U}
    (omega (arith, mul-le-mul_left (q * y) a, mul-le-mul_left (x * y) i, mul-le-mul_left (p * x) b))
    U-positive

total-step : (x y p q low high l h : ℕ) → y ≤ x → q * low ≤ p * high → q * y * l ≤ p * x * h → q * y * (low + l) ≤ p * x * (high + h)
total-step x y p q low high l h yx i j = omega (arith, mul-le-mul_left y i, mul-le-mul_right (p * high) yx)

module _ {s t : ℕ} (st : s ≤ t) (x y : ℕ) where
  pub last_scaled : (k : ℕ) → y ^ k * last_of s (trial ◌/◌ s x k) ≤ x ^ k * last_of t (trial ceil_div t y k)
  last_scaled zero = rw (last_none ◌/◌ s x, last_none ceil_div t y, pow-zero x, pow-zero y) (omega arith)
  last_scaled (suc k) =
      rw (last_more ◌/◌ s x k, last_more ceil_div t y k, pow-suc x k, pow-suc y k)
      (last_step x y _ _ _ _ _ _ (last_scaled k) (down-≤ _) (up-≥ _))

  pub total-scaled : y ≤ x → (k : ℕ) → y ^ k * total (trial ◌/◌ s x k) ≤ x ^ k * total (trial ceil_div t y k)
  total-scaled yx zero = rw (total_none ◌/◌ s x, total_none ceil_div t y) (omega arith)
  total-scaled yx (suc k) =
      let last = rw (pow-suc x k, pow-suc y k) at (last_scaled (suc k)) in
      rw (total_more ◌/◌ s x k, total_more ceil_div t y k, pow-suc x k, pow-suc y k)
      (total-step x y _ _ _ _ _ _ yx (total-scaled yx k) last)

-- ---- a trial of few years stays small

last_grows : (t y k j : ℕ) → U ≤ y → last_of t (trial ceil_div t y k) ≤ last_of t (trial ceil_div t y (k + j))
last_grows t y k zero h = rw (add-zero k) (le_refl _)
last_grows t y k (suc j) h =
    let last = last_of t (trial ceil_div t y (k + j)) in
    let step : last ≤ ceil_div (last * y) U = le_of_mul-le-mul_right {k = U} (omega (arith, up-≥ (last * y), mul-le-mul_left last h)) U-positive in
    rw (add-suc k j, last_more ceil_div t y (k + j)) (le_trans (last_grows t y k j h) step)

-- by the highest start and the upper end; the bounds are what they come to over twenty and over thirty years
module _ {f : ℕ → ℕ → ℕ} (o : Ordered f ceil_div) {t x : ℕ} (start : t ≤ highest_factor) (factor : x ≤ upper_end) where
  last_most : (k n : ℕ) → k ≤ n → last_of t (trial f t x k) ≤ last_of highest_factor (trial ceil_div highest_factor upper_end n)
  last_most k n h =
      let e : k + (n - k) ≡ n = omega arith in
      le_trans (last_ordered o start factor k) (rw e at (last_grows highest_factor upper_end k (n - k) (omega arith)))

  pub last_short : (k : ℕ) → k ≤ 20 → last_of t (trial f t x k) ≤ 13_454_999_909
  unfolding trial last_of
  last_short k h = last_most k 20 h

  pub last_bounded : (k : ℕ) → k ≤ 30 → last_of t (trial f t x k) ≤ 34_898_804_569
  unfolding trial last_of
  last_bounded k h = last_most k 30 h

  pub total_bounded : (k : ℕ) → k ≤ 30 → total (trial f t x k) ≤ k * 34_898_804_569
  total_bounded zero h = omega (arith, total_none f t x)
  total_bounded (suc k) h = omega (arith, total_more f t x k, total_bounded k (omega arith), last_bounded (suc k) h)

-- and its products fit 64 bits
pub product_fits : (n x : ℕ) → n ≤ 6_000_000_000 → x ≤ upper_end → n * x < 2 ^ 63
product_fits n x h k = lt_of_le_of_lt (mul-le-mul h k) (lit< tt)
