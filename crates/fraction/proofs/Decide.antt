-- The order of closed fractions by one Boolean test that the checker computes.
use mathlib.Core.Bool.{Bool}
use Prim.Native.Nat.{◌+◌, ◌*◌}
use lib.Dec.{T, ltb, eqb, leb→le, le→leb, ltb→lt, eqb→eq}
use Rattle.fraction.specs.Fraction.{ℚ, ◌≈◌, ◌≤ℚ◌, ◌<ℚ◌, le_ℚ, nat_ℚ, int_ℚ, over, recip, ◌+ℚ◌, neg_ℚ, ◌*ℚ◌, pow_ℚ, sum_ℚ}

abbrev pub lt_ℚ : ℚ → ℚ → Bool
lt_ℚ x y = ltb (x.p * y.d + y.m * x.d) (y.p * x.d + x.m * y.d)

abbrev pub eq_ℚ : ℚ → ℚ → Bool
eq_ℚ x y = eqb (x.p * y.d + y.m * x.d) (y.p * x.d + x.m * y.d)

pub le_ℚ→≤ : {x y : ℚ} → T (le_ℚ x y) → x ≤ℚ y
le_ℚ→≤ t = record { le = leb→le _ _ t }

pub ≤→le_ℚ : {x y : ℚ} → x ≤ℚ y → T (le_ℚ x y)
≤→le_ℚ h = le→leb _ _ h.le

pub lt_ℚ→< : {x y : ℚ} → T (lt_ℚ x y) → x <ℚ y
lt_ℚ→< t = record { lt = ltb→lt _ _ t }

pub eq_ℚ→≈ : {x y : ℚ} → T (eq_ℚ x y) → x ≈ y
eq_ℚ→≈ t = record { eq = eqb→eq _ _ t }

-- Named on an `unfolding` line, this opens every operation, so that a closed fraction computes.
unfoldable pub computes : ℚ
unfolding nat_ℚ int_ℚ over recip ◌+ℚ◌ neg_ℚ ◌*ℚ◌ pow_ℚ sum_ℚ
computes = nat_ℚ 0

two_thirds_below : nat_ℚ 2 *ℚ recip (nat_ℚ 3) ≤ℚ nat_ℚ 7 *ℚ recip (nat_ℚ 10)
unfolding computes
two_thirds_below = le_ℚ→≤ tt
