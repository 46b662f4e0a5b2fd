-- Worked examples at the ends of the ranges, worked out apart from these definitions: a wrong definition shows here in numbers.
use mathlib.Core.Path.{◌≡◌, refl}
use lib.IntN.{pos, negsuc}
use Rattle.method.specs.Units.{pair, signed_pair}
use Rattle.method.specs.Series.{G, growth_low, growth_high}
use Rattle.method.proofs.Computes.{computes}

-- -ln 0.8 = 0.22314355131..
logarithm_at_lower_end : G 800_000_000 ≡ signed_pair (pos 223_143_548) (pos 223_143_559)
unfolding computes
logarithm_at_lower_end = refl

-- -ln 1.1 = -0.09531017980..
logarithm_at_upper_end : G 1_100_000_000 ≡ signed_pair (negsuc 95_310_186) (negsuc 95_310_175)
unfolding computes
logarithm_at_upper_end = refl

-- e^0.25 = 1.28402541668..
growth_at_a_quarter : pair (growth_low 250_000_000) (growth_high 250_000_000) ≡ pair 1_284_025_415 1_284_025_421
unfolding computes
growth_at_a_quarter = refl
