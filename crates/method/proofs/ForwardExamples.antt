-- Worked examples of LLFR, forwards and steps: what the laws of `Forward` and `Step` say, in numbers.
use mathlib.Core.Path.{◌≡◌, refl}
use mathlib.Core.List.{List, [], ◌∷◌}
use lib.IntN.{ℤ, pos, negsuc}
use Rattle.fraction.specs.Rounding.{U}
use Rattle.method.specs.Units.{pair, SignedPair, signed_pair}
use Rattle.method.specs.Extrapolation.{llfr, forward, step}
use Rattle.method.proofs.Computes.{computes}

exactly : ℤ → SignedPair
exactly z = signed_pair z z

-- g1 to g5 at 1, 2, 4, 8 and 16 percent
gaps : List SignedPair
unfolding exactly
gaps = exactly (pos 10_000_000) ∷ exactly (pos 20_000_000) ∷ exactly (pos 40_000_000) ∷ exactly (pos 80_000_000) ∷ exactly (pos 160_000_000) ∷ []

-- all volume at 30: the mean of g2 and g3
all_at_30 : llfr (0 ∷ 0 ∷ 1 ∷ 0 ∷ 0 ∷ []) gaps ≡ signed_pair (pos 30_000_000) (pos 30_000_000)
unfolding computes gaps exactly
all_at_30 = refl

-- at 40: 5 years of g2 and of g3, 10 of g4
all_at_40 : llfr (0 ∷ 0 ∷ 0 ∷ 7 ∷ 0 ∷ []) gaps ≡ signed_pair (pos 55_000_000) (pos 55_000_000)
unfolding computes gaps exactly
all_at_40 = refl

-- at 50: those and 10 of g5
all_at_50 : llfr (0 ∷ 0 ∷ 0 ∷ 0 ∷ 3 ∷ []) gaps ≡ signed_pair (pos 90_000_000) (pos 90_000_000)
unfolding computes gaps exactly
all_at_50 = refl

-- equal volumes: the mean of 10, 20, 30, 55 and 90
equal_volumes : llfr (1 ∷ 1 ∷ 1 ∷ 1 ∷ 1 ∷ []) gaps ≡ signed_pair (pos 41_000_000) (pos 41_000_000)
unfolding computes gaps exactly
equal_volumes = refl

-- -1/2 is rounded down to -1 and up to 0
negative_forward : forward (exactly (negsuc 0)) (exactly (pos 0)) (pair 500_000_000 500_000_000) ≡ signed_pair (negsuc 0) (pos 0)
unfolding computes exactly
negative_forward = refl

-- both ends of κ: a rise has its high, a fall its low at K + 1
rising_forward : forward (exactly (pos 0)) (exactly (pos U)) (pair 5 6) ≡ signed_pair (pos 5) (pos 6)
unfolding computes exactly
rising_forward = refl

falling_forward : forward (exactly (pos 0)) (exactly (negsuc 999_999_999)) (pair 5 6) ≡ signed_pair (negsuc 5) (negsuc 4)
unfolding computes exactly
falling_forward = refl

-- e^-0.02 is 0.980198673.., e^-0.01 is 0.990049833..: the low at the forward's high
discounted : step (signed_pair (pos 10_000_000) (pos 20_000_000)) (pair U U) ≡ pair 980_198_668 990_049_835
unfolding computes
discounted = refl

-- e^0.01 is 1.010050167..
accrued : step (exactly (negsuc 9_999_999)) (pair U U) ≡ pair 1_010_050_166 1_010_050_172
unfolding computes exactly
accrued = refl
