-- A rate of the range and its multiplier: one for one, and in the same order. A rate is its multiplier less 100,000.
use mathlib.Core.Path.{◌≡◌}
use Prim.Native.Nat.{ℕ, ◌≤◌}
use native.Mathlib.Omega.{arith}
use lib.IntN.{ℤ, pos, ◌+ℤ◌}
use lib.Signed.{◌≤ℤ◌}
use Rattle.method.proofs.Offset.{offset_is, offset_mono, place_of}
use Rattle.zero_rates.specs.Rates.{least_multiplier, greatest_multiplier, rate_of}
use Rattle.zero_rates.specs.Meaning.{InRange}

-- ---- the rate of a multiplier

pub multiplier_is : (m : ℕ) → pos 100_000 +ℤ rate_of m ≡ pos m
multiplier_is m = offset_is 99_999 m

pub rate_mono : (m k : ℕ) → m ≤ k → rate_of m ≤ℤ rate_of k
rate_mono m k h = offset_mono 99_999 m k h

pub rate_in_range : (m : ℕ) → least_multiplier ≤ m → m ≤ greatest_multiplier → InRange (rate_of m)
rate_in_range m l u = record { from = rate_mono 50_000 m (omega (arith, l)); to = rate_mono m 200_000 (omega (arith, u)) }

-- ---- the multiplier of a rate

pub record Multiplier (z : ℤ) : Type 0 where
  pub m : ℕ
  pub greatest : m ≤ greatest_multiplier
  pub least : least_multiplier ≤ m
  pub is_rate : z ≡ rate_of m

pub multiplier_of : (z : ℤ) → InRange z → Multiplier z
multiplier_of z r =
    let place = place_of 99_999 49_999 100_000 (omega arith) z r.from r.to in
    record {
      m = place.m;
      greatest = omega (arith, place.greatest);
      least = omega (arith, place.least);
      is_rate = place.is_offset;
    }
