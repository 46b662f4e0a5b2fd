-- A gap of the code as the method's, what is worked by side, and the numbers that fit 64 bits.
use Rattle.std.specs.Prelude.{◌≡◌, Bool, true, false, not, cond, ℕ, ◌+◌, ◌*◌, ◌-◌, ◌≤◌, ℤ, nat_abs}
use Rattle.std.specs.Int.Signed.{non_neg}
use Rattle.fraction.specs.Rounding.{round_ℕ}
use Rattle.method.specs.Units as method
use Rattle.method.specs.Units.{end_of, rate_unit, par_value}
use Rattle.method.specs.Sheet.{total}
use Rattle.method.specs.Quotes as quotes
use Rattle.method.specs.Quotes.{par_low, par_high, at_most_par, at_least_par, surely_not_above, surely_not_below, last_of}
use Rattle.rounding.specs.Pairs.{as_pair}
use Rattle.gap.specs.declared.quote_gap.Gap.{Gap}
use Rattle.gap.specs.declared.Sums.{Sums}

abbrev pub as_gap : Gap → quotes.Gap
as_gap g = record { rate = g.rate; years = g.years; annuity = as_pair g.annuity; start = as_pair g.start }

-- ---- by side: a high with `true`, a low with `false`

abbrev pub par_by : Bool → ℤ → method.Pair → ℤ
par_by true = par_high
par_by false = par_low

-- highs at most par, lows at least par
abbrev pub par_test : Bool → ℤ → ℕ → ℕ → Bool
par_test true = at_most_par
par_test false = at_least_par

abbrev pub passes_by : Bool → quotes.Gap → ℕ → Bool
passes_by true = surely_not_above
passes_by false = surely_not_below

-- the test by which the halving's lower end rises: for the low x, and for the high x
abbrev pub rises_by : Bool → quotes.Gap → ℕ → Bool
rises_by true g = surely_not_above g
rises_by false g = λ x. not (surely_not_below g x)

-- the end that the halving comes to, at every fuel that the distance of the ends allows
abbrev pub Halved : Bool → quotes.Gap → ℕ → ℕ → ℕ → Type 0
Halved low g lo hi r = (n : ℕ) → hi - lo ≤ n → r ≡ end_of (not low) (quotes.halve (rises_by low g) n lo hi)

-- ---- rate × annuity + 100,000 × last against Par, the part of a rate below 0 on the other side

abbrev pub paid_side : ℤ → ℕ → ℕ → ℕ
paid_side r annuity last = cond (non_neg r) (nat_abs r * annuity + rate_unit * last) (rate_unit * last)

abbrev pub par_side : ℤ → ℕ → ℕ
par_side r annuity = cond (non_neg r) par_value (par_value + nat_abs r * annuity)

-- ---- S and Tk of a trial of k years from t, and what they stay below

-- what T is multiplied up to in a long trial, of at most thirty years, and in a short one, of at most twenty
abbrev pub largest : Bool → ℕ
largest true = 35_000_000_000
largest false = 16_000_000_000

pub record SumsOf (up : Bool) (t x k : ℕ) (s : Sums) : Type 0 where
  pub total : s.total ≡ total (quotes.trial (round_ℕ up) t x k)
  pub last : s.last ≡ last_of t (quotes.trial (round_ℕ up) t x k)
  pub total_small : s.total ≤ 1_050_000_000_000
  pub last_small : s.last ≤ 35_000_000_000

-- a side's S and Tk
abbrev pub sum_by : quotes.Gap → ℕ → Bool → ℕ
sum_by g x up = total (quotes.trial (round_ℕ up) (end_of up g.start) x g.years)

abbrev pub last_by : quotes.Gap → ℕ → Bool → ℕ
last_by g x up = last_of (end_of up g.start) (quotes.trial (round_ℕ up) (end_of up g.start) x g.years)

-- A + S and Tk
pub record SideOf (g : quotes.Gap) (x : ℕ) (up : Bool) (s : Sums) : Type 0 where
  pub total : s.total ≡ end_of up g.annuity + sum_by g x up
  pub last : s.last ≡ last_by g x up
  pub total_small : s.total ≤ 1_200_000_000_000
  pub last_small : s.last ≤ 35_000_000_000
