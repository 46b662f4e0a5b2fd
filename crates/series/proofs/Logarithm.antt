-- The logarithm's sum term by term, on either side, and G from its two sides. The bounds are the method's.
use mathlib.Core.Path.{◌≡◌}
use mathlib.Core.Bool.{Bool, true, false}
use Prim.Native.Nat.{ℕ, suc, ◌+◌, ◌*◌, ◌-◌, ◌≤◌, ◌<◌}
use native.Mathlib.Nat.{le_trans}
use native.Mathlib.Omega.{arith}
use borrow.Author.Tests.{le-leb, lt-leb}
use lib.IntN.{pos}
use mir.Syntax.{w64}
use mir.Val.{to_z}
use Rattle.fraction.specs.Rounding.{U, ceil_div, round_ℕ}
use Rattle.method.specs.Units.{signed_pair}
use Rattle.method.specs.Quotes.{lower_end, upper_end}
use Rattle.method.specs.Ranges.{logarithm_bound}
use Rattle.method.specs.Series.{added, logarithm_sum, logarithm, GWith, G}
use Rattle.method.proofs.Logarithm.{distance}
use Rattle.method.proofs.Quotients.{Below, down_below_up, up_below_up}
use Rattle.method.proofs.SeriesBounds.{z_bound, s_bound, z-≤, s-≤, p-≤, logarithm-≤}
use Rattle.rounding.specs.Pairs.{as_signed_pair, SizeAtMost}
use Rattle.rounding.proofs.Machine.{natural_is}
use Rattle.series.specs.Sides.{negated}

pub side_below : (up : Bool) → Below (round_ℕ up) ceil_div
side_below true = up_below_up
side_below false = down_below_up

abbrev size : Bool → ℕ → ℕ
size up x = logarithm (round_ℕ up) (distance x) x

-- ---- the loop: the terms before i and those that are left make the whole

pub record Summed (up : Bool) (x s p sum i : ℕ) : Type 0 where
  pub square : s ≤ s_bound
  pub power : p ≤ z_bound
  pub small : size up x < logarithm_bound
  pub whole : 2 * (sum + logarithm_sum (round_ℕ up) s (2 * i + 1) p (5 - i)) ≡ size up x

module _ (up : Bool) {x : ℕ} (l : lower_end ≤ x) (h : x ≤ upper_end) where
  ninth : 9 * distance x ≤ U + x
  ninth = omega arith

  pub z_bound_lem : {z : ℕ} → z ≡ round_ℕ up (distance x * U) (U + x) → z ≤ z_bound
  z_bound_lem e = rw e (z-≤ (side_below up) (distance x) x ninth)

  pub at_start : {z s : ℕ} → z ≡ round_ℕ up (distance x * U) (U + x) → s ≡ round_ℕ up (z * z) U → Summed up x s z 0 0
  unfolding logarithm
  at_start {z} {s} ez es =
      record {
        square = rw es (s-≤ (side_below up) (z_bound_lem ez));
        power = z_bound_lem ez;
        small = logarithm-≤ (side_below up) (distance x) x ninth;
        whole = rw (es, ez) (omega arith);
      }

module _ {up : Bool} {x s p sum i : ℕ} (d : Summed up x s p sum i) where
  more : i < 5 → logarithm_sum (round_ℕ up) s (2 * i + 1) p (5 - i)
      ≡ round_ℕ up p (2 * i + 1) + logarithm_sum (round_ℕ up) s (2 * (i + 1) + 1) (round_ℕ up (p * s) U) (5 - (i + 1))
  unfolding logarithm_sum
  more h =
      let k : 5 - i ≡ suc (5 - (i + 1)) = omega arith in
      let odd : 2 * (i + 1) + 1 ≡ 2 * i + 1 + 2 = omega arith in
      rw (k, odd)

  pub after_term : i < 5 → Summed up x s (round_ℕ up (p * s) U) (sum + round_ℕ up p (2 * i + 1)) (i + 1)
  after_term h =
      record {
        square = d.square;
        power = le_trans (p-≤ (side_below up) p d.square) d.power;
        small = d.small;
        whole = omega (arith, d.whole, more h);
      }

  pub summed : 5 ≤ i → 2 * sum ≡ size up x
  unfolding logarithm_sum
  summed h =
      let k : 5 - i ≡ 0 = omega arith in
      let whole : 2 * (sum + 0) ≡ size up x = rw k at d.whole in
      omega arith

-- ---- G, from its two sides

module _ {x low high gain : ℕ} (l : low ≡ size false x) (h : high ≡ size true x) (a : gain ≡ added 0 U x) where
  pub G-to-U : x ≤ U → signed_pair (pos low) (pos (high + gain)) ≡ G x
  unfolding GWith
  G-to-U e = rw (le-leb x U e, l, h, a)

  pub G-above-U : U < x → negated (signed_pair (pos low) (pos (high + gain))) ≡ G x
  unfolding GWith
  G-above-U e = rw (lt-leb x U e, l, h, a)

-- ---- the machine's pair of two unsigned sizes, at most 1 added to the high

module _ {low high gain : ℕ} (l : low < logarithm_bound) (h : high < logarithm_bound) (a : gain ≤ 1) where
  low_is : to_z w64 low ≡ pos low
  low_is = natural_is low {M = logarithm_bound} (omega arith) tt

  high_is : to_z w64 (high + gain) ≡ pos (high + gain)
  high_is = natural_is (high + gain) {M = logarithm_bound} (omega arith) tt

  pub cast_is : as_signed_pair (record { low = to_z w64 low; high = to_z w64 (high + gain) }) ≡ signed_pair (pos low) (pos (high + gain))
  cast_is = rw (low_is, high_is)

  pub cast_size : SizeAtMost logarithm_bound (record { low = to_z w64 low; high = to_z w64 (high + gain) })
  cast_size = record { low_size = rw low_is (omega arith); high_size = rw high_is (omega arith) }
