-- The parts of a question that the functions between cite.
use Rattle.std.specs.Prelude.{ℕ}
use Rattle.method.specs.Units.{Which}
use Rattle.method.specs.Grounds.{Outcome, done, ◌>>=◌}
use Rattle.method.specs.Curve.{Curve}
use Rattle.zero_rates.specs.Rates.{zero_rates}
use Rattle.ledger.specs.Answers.{Finding, finding}
use Rattle.ledger.specs.Book.{Book, named, age, open_curve, band_at}

-- the curve that is named, or 14 or 16
abbrev pub opened : Book → Which → Outcome Curve
opened b w = open_curve (named w b.standing) b.told b.age_limit

-- what a curve has for a year, or 17
abbrev pub found_at : Curve → ℕ → ℕ → Outcome Finding
found_at c told y = do
  rates ← zero_rates y (band_at c y)
  done (finding (band_at c y) rates c.month (age told c))
