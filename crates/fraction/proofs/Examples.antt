-- Worked examples by computation: a wrong definition shows here in numbers.
use mathlib.Core.Path.{◌≡◌, refl}
use lib.IntN.{pos, negsuc}
use Rattle.fraction.specs.Fraction.{◌≈◌, ◌≤ℚ◌, ◌<ℚ◌, nat_ℚ, int_ℚ, ◌÷◌, pow_ℚ, sum_ℚ}
use Rattle.fraction.specs.Rounding.{floor, ceiling, ceil_div}
use Rattle.fraction.proofs.Decide.{computes, le_ℚ→≤, lt_ℚ→<, eq_ℚ→≈}

-- -7 / 2 down is -4, up is -3
seven_halves_below_zero_down : floor (negsuc 6) 2 ≡ negsuc 3
seven_halves_below_zero_down = refl

seven_halves_below_zero_up : ceiling (negsuc 6) 2 ≡ negsuc 2
seven_halves_below_zero_up = refl

seven_halves_down : floor (pos 7) 2 ≡ pos 3
seven_halves_down = refl

seven_halves_up : ceiling (pos 7) 2 ≡ pos 4
seven_halves_up = refl

-- nothing left over: nothing is added
six_halves_up : ceil_div 6 2 ≡ 3
six_halves_up = refl

half_below_two_thirds : nat_ℚ 1 ÷ nat_ℚ 2 <ℚ nat_ℚ 2 ÷ nat_ℚ 3
unfolding computes
half_below_two_thirds = lt_ℚ→< tt

minus_half_below_third : int_ℚ (negsuc 0) ÷ nat_ℚ 2 ≤ℚ nat_ℚ 1 ÷ nat_ℚ 3
unfolding computes
minus_half_below_third = le_ℚ→≤ tt

-- 1 + 1/2 + 1/4 + 1/8 = 15/8
geometric : sum_ℚ (pow_ℚ (nat_ℚ 1 ÷ nat_ℚ 2)) 4 ≈ nat_ℚ 15 ÷ nat_ℚ 8
unfolding computes
geometric = eq_ℚ→≈ tt
