-- The growth's sum term by term, on either side. The bounds are the method's.
use mathlib.Core.Path.{◌≡◌, refl}
use mathlib.Core.Bool.{Bool, true, false}
use Prim.Native.Nat.{ℕ, suc, ◌+◌, ◌*◌, ◌-◌, ◌≤◌, ◌<◌}
use native.Mathlib.Nat.{le_trans}
use native.Mathlib.Omega.{arith}
use Rattle.fraction.specs.Rounding.{U, round_ℕ}
use Rattle.method.specs.Ranges.{growth_range, growth_bound}
use Rattle.method.specs.Series.{added, growth_sum, growth}
use Rattle.method.proofs.Growth.{growth_low-≥, growth_low-≤-growth_high, growth_high-≤}
use Rattle.method.proofs.SeriesBounds.{t-≤}
use Rattle.series.specs.Sides.{growth_by}
use Rattle.series.proofs.Logarithm.{side_below}

pub growth_least : (up : Bool) (y : ℕ) → U ≤ growth_by up y
growth_least true y = le_trans (growth_low-≥ y) (growth_low-≤-growth_high y)
growth_least false y = growth_low-≥ y

growth_most : (up : Bool) {y : ℕ} → y ≤ growth_range → growth_by up y ≤ growth_bound
growth_most true h = growth_high-≤ h
growth_most false {y} h = le_trans (growth_low-≤-growth_high y) (growth_high-≤ h)

pub growth_in_range : (up : Bool) {y r : ℕ} → y ≤ growth_range → r ≡ growth_by up y → (r ≡ growth_by up y) × (U ≤ r) × (r ≤ growth_bound)
growth_in_range up {y} h e = (e, rw e (growth_least up y), rw e (growth_most up h))

-- before anything is added to the high, and with it
pub growth_below : (up : Bool) {y : ℕ} → y ≤ growth_range → growth (round_ℕ up) y ≤ growth_bound
growth_below true h = omega (arith, growth_most true h)
growth_below false h = growth_most false h

-- ---- the loop: the terms before i and those that are left make the whole

pub record Grown (y : ℕ) (up : Bool) (t sum i : ℕ) : Type 0 where
  pub started : 1 ≤ i
  pub term : t ≤ U
  pub whole : sum + growth_sum (round_ℕ up) y i t (8 - i) ≡ growth (round_ℕ up) y

pub at_start : (y : ℕ) (up : Bool) → Grown y up U U 1
unfolding growth
at_start y up = record { started = omega arith; term = omega arith; whole = refl }

module _ {y : ℕ} {up : Bool} {t sum i : ℕ} (d : Grown y up t sum i) where
  more : i < 8 → growth_sum (round_ℕ up) y i t (8 - i)
      ≡ round_ℕ up (t * y) (i * U) + growth_sum (round_ℕ up) y (i + 1) (round_ℕ up (t * y) (i * U)) (8 - (i + 1))
  unfolding growth_sum
  more h =
      let k : 8 - i ≡ suc (8 - (i + 1)) = omega arith in
      let next : i + 1 ≡ suc i = omega arith in
      rw (k, next)

  pub after_term : y ≤ growth_range → i < 8 → Grown y up (round_ℕ up (t * y) (i * U)) (sum + round_ℕ up (t * y) (i * U)) (i + 1)
  after_term hy h =
      record {
        started = omega arith;
        term = t-≤ (side_below up) d.started d.term hy;
        whole = omega (arith, d.whole, more h);
      }

  pub grown : 8 ≤ i → sum ≡ growth (round_ℕ up) y
  unfolding growth_sum
  grown h =
      let k : 8 - i ≡ 0 = omega arith in
      let whole : sum + 0 ≡ growth (round_ℕ up) y = rw k at d.whole in
      omega arith

  pub grown_high : 8 ≤ i → up ≡ true → {gain : ℕ} → gain ≡ added 0 0 y → sum + gain ≡ growth_by up y
  grown_high h t a = rw (t, rw t at (grown h), a)

  pub grown_low : 8 ≤ i → up ≡ false → sum ≡ growth_by up y
  grown_low h t = rw (t, rw t at (grown h))
