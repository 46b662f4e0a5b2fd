-- Worked rates, by computation, in one list: a wrong definition shows here in numbers.
use mathlib.Core.Path.{◌≡◌, refl}
use mathlib.Core.List.{List, [], ◌∷◌}
use lib.IntN.{pos, negsuc}
use Rattle.method.specs.Units.{pair, SignedPair, signed_pair}
use Rattle.method.specs.Grounds.{no_high_rate, Outcome, refused, done}
use Rattle.zero_rates.specs.Rates.{zero_rates}
use Rattle.zero_rates.proofs.Computes.{rates_compute}

worked : List (Outcome SignedPair)
worked =
    -- year 1 at 3% and at -0.5%: neither end of the band hits the rate
    zero_rates 1 (pair 970_873_786 970_873_787)
    ∷ zero_rates 1 (pair 1_005_025_125 1_005_025_126)
    -- a factor of one, and a band about it in year 21
    ∷ zero_rates 1 (pair 1_000_000_000 1_000_000_000)
    ∷ zero_rates 21 (pair 999_999_992 1_000_000_008)
    -- the ends of the range, and one step past the upper
    ∷ zero_rates 1 (pair 2_000_000_000 2_000_000_000)
    ∷ zero_rates 1 (pair 500_000_000 500_000_000)
    ∷ zero_rates 1 (pair 499_999_999 500_000_000)
    -- far off: a factor of a billionth has a rate, one of 0 has none
    ∷ zero_rates 150 (pair 1 10)
    ∷ zero_rates 150 (pair 0 10)
    ∷ []

seen : worked ≡
    done (signed_pair (pos 2_999) (pos 3_001))
    ∷ done (signed_pair (negsuc 500) (negsuc 498))
    ∷ done (signed_pair (pos 0) (pos 0))
    ∷ done (signed_pair (negsuc 0) (pos 1))
    ∷ done (signed_pair (negsuc 49_999) (negsuc 49_999))
    ∷ done (signed_pair (pos 100_000) (pos 100_000))
    ∷ refused no_high_rate
    ∷ done (signed_pair (pos 13_066) (pos 14_816))
    ∷ refused no_high_rate
    ∷ []
unfolding worked rates_compute
seen = refl
