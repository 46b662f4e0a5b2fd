-- The first of the forwards, raised in place.
use mathlib.Core.Path.{◌≡◌, refl}
use mathlib.Core.List.{[], ◌∷◌}
use Prim.Native.Nat.{ℕ, ◌<◌}
use native.Mathlib.Omega.{arith}
use lib.IntN.{ℤ, ◌+ℤ◌}
use lib.ListN.{length, get_or, set}
use Rattle.method.specs.Ranges.{logarithm_bound, forward_bound}
use Rattle.method.specs.Extrapolation.{billionths, first_raised}
use Rattle.method.proofs.Zips.{all_set}
use Rattle.rounding.specs.Pairs.{SignedPair, SizeAtMost}
use Rattle.extrapolation.specs.Extrapolated.{Forwards}
use Rattle.extrapolation.specs.Extrapolated.{as_forwards, no_forward, ForwardSizes}

raised_set : (a : ℤ) (g : Forwards) (f : SignedPair) → 0 < length g →
    f.low ≡ (get_or g 0 no_forward).low +ℤ billionths a → f.high ≡ (get_or g 0 no_forward).high +ℤ billionths a →
    as_forwards (set g 0 f) ≡ first_raised a (as_forwards g)
unfolding first_raised
raised_set a [] f h low high = absurd (omega arith)
raised_set a (x ∷ xs) f h low high = rw (low, high) refl

-- one end after the other
pub raised_once : (g : Forwards) (low : ℤ) (high : ℤ → ℤ) → length g ≡ 5 →
    let once = set g 0 (record { low = low; high = (get_or g 0 no_forward).high }) in
    set once 0 (record { low = (get_or once 0 no_forward).low; high = high (get_or once 0 no_forward).high })
    ≡ set g 0 (record { low = low; high = high (get_or g 0 no_forward).high })
raised_once [] low high h = refl
raised_once (x ∷ xs) low high h = refl

-- a bound that the raised one keeps
pub raised_is : (a : ℤ) (g : Forwards) (f : SignedPair) → length g ≡ 5 → ForwardSizes logarithm_bound g →
    f.low ≡ (get_or g 0 no_forward).low +ℤ billionths a → f.high ≡ (get_or g 0 no_forward).high +ℤ billionths a →
    SizeAtMost forward_bound f →
    (as_forwards (set g 0 f) ≡ first_raised a (as_forwards g)) × ForwardSizes forward_bound (set g 0 f)
raised_is a g f long sizes low high small = (
  raised_set a g f (omega (arith, long)) low high,
  record { sizes = all_set (SizeAtMost forward_bound) no_forward g 0 wider small },
)
  where
    wider : (i : ℕ) → SizeAtMost forward_bound (get_or g i no_forward)
    wider i = record { low_size = omega (arith, (sizes.sizes i).low_size); high_size = omega (arith, (sizes.sizes i).high_size) }
