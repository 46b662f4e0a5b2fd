-- What the contracts cite beside the definitions of the crate method.
use Rattle.std.specs.Prelude.{◌≡◌, Bool, ℕ, zero, suc, ◌≤◌, ◌<◌, ℤ, nat_abs, take, Result, IfOk}
use mathlib.Core.List.{List}
use Rattle.method.specs.Units.{Pair}
use Rattle.method.specs.Extrapolation.{adjusted_years}
use Rattle.grounds.specs.declared.Ground.{Ground}
use Rattle.grounds.specs.Answers.{outcome_of}
use Rattle.extrapolation.specs.Extrapolated.{Years}
use Rattle.extrapolation.specs.Extrapolated.{as_years, factor_at, step_by, InRange}

-- one end, t times through the step
unfoldable pub steps_by : Bool → ℤ → ℕ → ℕ → ℕ
steps_by up f zero x = x
steps_by up f (suc t) x = steps_by up f t (step_by up f x)

-- an adjustment in billionths
pub record Small (f : ℤ) : Type 0 where
  pub size : nat_abs f ≤ 5_000_000

-- what twenty steps can add to a factor of up to 2 U
abbrev pub most_steps : ℕ
most_steps = 260_000_000

-- the years to 20 pass ground 8
abbrev pub FactorsTo : Years → Type 0
FactorsTo y = (i : ℕ) → i < 20 → InRange (factor_at y i)

abbrev pub first_years : Years → List Pair
first_years y = take 20 (as_years y)

-- the definition's years, and each a factor that passes ground 8 again
pub record Adjusts (a : ℤ) (years : Years) (r : Result Years Ground) : Type 0 where
  pub outcome : outcome_of first_years r ≡ adjusted_years a 1 (first_years years)
  pub in_range : IfOk r FactorsTo
