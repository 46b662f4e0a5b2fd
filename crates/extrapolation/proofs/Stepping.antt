-- A year's step by the sign of its forward, on either side.
use mathlib.Core.Path.{◌≡◌, refl, sym}
use mathlib.Core.Bool.{Bool, true, false, not, false≢true}
use Prim.Native.Nat.{ℕ, ◌*◌}
use lib.Dec.{T}
use lib.IntN.{ℤ, pos, negsuc, nat_abs, neg_ℤ}
use lib.Signed.{non_neg}
use Rattle.fraction.specs.Rounding.{U, round_ℕ}
use Rattle.series.specs.Sides.{growth_by}
use Rattle.extrapolation.specs.Extrapolated.{step_by, growth_at}

-- below 0: E of the step's own side, and times it
pub own_side : (up : Bool) (f : ℤ) → non_neg f ≡ false → growth_by up (nat_abs (neg_ℤ f)) ≡ growth_at up f
own_side up (negsuc n) t = refl
own_side up (pos n) t = absurd (false≢true (sym t))

pub multiplied : (up : Bool) (f : ℤ) (a : ℕ) → non_neg f ≡ false → round_ℕ up (a * growth_at up f) U ≡ step_by up f a
multiplied true (negsuc n) a t = refl
multiplied false (negsuc n) a t = refl
multiplied up (pos n) a t = absurd (false≢true (sym t))

-- from 0 up: E of its other side, and over it
pub other_side : (up : Bool) (f : ℤ) → non_neg f ≡ true → growth_by (not up) (nat_abs f) ≡ growth_at up f
other_side up (pos n) t = refl
other_side up (negsuc n) t = absurd (false≢true t)

pub divided : (up : Bool) (f : ℤ) (a : ℕ) → non_neg f ≡ true → round_ℕ up (a * U) (growth_at up f) ≡ step_by up f a
divided true (pos n) a t = refl
divided false (pos n) a t = refl
divided up (negsuc n) a t = absurd (false≢true t)

pub minus-non_neg : (f : ℤ) → non_neg f ≡ false → T (non_neg (neg_ℤ f))
minus-non_neg (negsuc n) t = tt
minus-non_neg (pos n) t = absurd (false≢true (sym t))
