-- One end of a year, t times through the step: what is left of the steps, and how far they can take it.
use mathlib.Core.Path.{◌≡◌, refl}
use mathlib.Core.Bool.{Bool, true, false}
use Prim.Native.Nat.{ℕ, zero, suc, ◌+◌, ◌-◌, ◌*◌, ◌/◌, ◌≤◌, ◌<◌}
use native.Mathlib.Nat.{mul-le-mul_left, mul_comm, div-le_of_le-mul}
use native.Mathlib.Omega.{arith}
use lib.Dec.{lit<}
use lib.IntN.{ℤ, pos, negsuc}
use Rattle.fraction.specs.Rounding.{U}
use Rattle.method.specs.Units.{Pair, pair, signed_pair}
use Rattle.method.specs.Quotes.{highest_factor}
use Rattle.method.specs.Series.{growth, growth_low, growth_high}
use Rattle.method.specs.Extrapolation.{step_with, step, steps_with, steps}
use Rattle.method.proofs.Quotients.{ceil_div-≤}
use Rattle.method.proofs.SeriesBounds.{small_growth, small_growths}
use Rattle.extrapolation.specs.Extrapolated.{step_by, step_range}
use Rattle.adjustment.specs.Adjusting.{steps_by, Small}

-- both ends by themselves
pub steps-ends : (f : ℤ) (t : ℕ) (p : Pair) → steps (signed_pair f f) t p ≡ pair (steps_by false f t p.low) (steps_by true f t p.high)
unfolding steps_with step_with steps_by
steps-ends f zero p = refl
steps-ends f (suc t) p = steps-ends f t (step (signed_pair f f) p)

-- ---- what a step adds

-- a product with E, and U against E
grown : (x g : ℕ) → g ≤ small_growth → x ≤ step_range → x * g ≤ (x + 13_000_000) * U
grown x g h k = omega (arith, mul-le-mul_left x h)

shrunk : (x g : ℕ) → U ≤ g → x * U ≤ (x + 13_000_000) * g
shrunk x g h = omega (arith, mul-le-mul_left x h)

over : (a d m : ℕ) → a ≤ m * d → a / d ≤ m
over a d m h = div-le_of_le-mul d (rw (mul_comm d m) h)

pub step_most : (up : Bool) (f : ℤ) (x : ℕ) → Small f → x ≤ step_range → step_by up f x ≤ x + 13_000_000
unfolding growth
step_most true (pos f) x s h = ceil_div-≤ {d = growth_low f} (omega arith) (shrunk x (growth_low f) (omega arith))
step_most false (pos f) x s h = over (x * U) (growth_high f) _ (shrunk x (growth_high f) (omega arith))
step_most true (negsuc f) x s h = ceil_div-≤ {d = U} (lit< tt) (grown x _ (small_growths (suc f) s.size).1 h)
step_most false (negsuc f) x s h = over (x * growth_low (suc f)) U _ (grown x (growth_low (suc f)) (small_growths (suc f) s.size).0 h)

-- ---- after `counter` of t steps

pub record Stepped (up : Bool) (f : ℤ) (factor t x counter : ℕ) : Type 0 where
  pub turns : counter ≤ t
  pub left : steps_by up f (t - counter) x ≡ steps_by up f t factor
  pub most : x ≤ highest_factor + 13_000_000 * counter

module _ {up : Bool} {f : ℤ} {factor t x counter : ℕ} (d : Stepped up f factor t x counter) (short : t ≤ 20) where
  pub steppable : counter < t → x ≤ step_range
  steppable h = omega (arith, d.most)

  pub one_step : Small f → counter < t → Stepped up f factor t (step_by up f x) (counter + 1)
  unfolding steps_by
  one_step s h =
      let more : t - counter ≡ suc (t - (counter + 1)) = omega arith in
      record {
        turns = omega arith;
        left = rw more at d.left;
        most = omega (arith, d.most, step_most up f x s (steppable h));
      }

  pub all_steps : t ≤ counter → (x ≡ steps_by up f t factor) × (x ≤ highest_factor + 260_000_000)
  unfolding steps_by
  all_steps h =
      let none : t - counter ≡ 0 = omega arith in
      (rw none at d.left, omega (arith, d.turns, d.most))
