-- What is claimed of a curve of an accepted sheet, the plain one or the adjusted: it is the sheet's, its bands are within the limit,
-- and they hold the true factor of every order.
use Rattle.std.specs.Prelude.{◌≡◌, ℕ, ◌+◌, ◌-◌, ◌≤◌, pos, length, get_or}
use Rattle.fraction.specs.Rounding.{Encloses}
use Rattle.method.specs.Units.{Which}
use Rattle.method.specs.Sheet.{Numbers}
use Rattle.method.specs.Quotes.{highest_factor}
use Rattle.method.specs.Curve.{Curve}
use Rattle.method.specs.True.{true_curve, true_factor}

-- the low and the high of year t, from 1
abbrev pub low_of : Curve → ℕ → ℕ
low_of c t = get_or c.lows (t - 1) 0

abbrev pub high_of : Curve → ℕ → ℕ
high_of c t = get_or c.highs (t - 1) 0

pub record CurveHolds (w : Which) (s : Numbers) (c : Curve) : Type 0 where
  pub month_kept : c.month ≡ s.month
  pub limit_kept : c.limit ≡ s.limit
  pub years_of_lows : length c.lows ≡ 150
  pub years_of_highs : length c.highs ≡ 150
  pub ordered : (t : ℕ) → 1 ≤ t → t ≤ 150 → low_of c t ≤ high_of c t
  pub within_limit : (t : ℕ) → 1 ≤ t → t ≤ 150 → high_of c t ≤ low_of c t + s.limit
  pub at_most : (t : ℕ) → 1 ≤ t → t ≤ 150 → high_of c t ≤ highest_factor
  -- each of the 150 is a factor, none a default
  pub true_years : (n : ℕ) → length (true_curve w n s) ≡ 150
  pub encloses_true : (n t : ℕ) → 1 ≤ t → t ≤ 150 → Encloses (pos (low_of c t)) (pos (high_of c t)) (true_factor w n s t)
