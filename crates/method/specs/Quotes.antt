-- SPECIFICATION 3: factors from the quotes, with grounds 7, 8 and 9 on their years.
use Rattle.std.specs.Prelude.{Bool, true, cond, not, ◌&&◌, List, [], ◌∷◌, ◌++◌, map, ℕ, zero, suc, ◌+◌, ◌*◌, ◌-◌, ◌/◌, leb, ltb, eqb, ℤ, pos, negsuc, nat_abs, ◌+ℤ◌, ◌-ℤ◌, ◌*ℤ◌, length, drop, replicate}
use Rattle.std.specs.Int.Signed.{le_z, non_neg}
use Rattle.fraction.specs.Rounding.{U, floor, ceiling, ceil_div}
use Rattle.method.specs.Units.{Pair, pair, rate_unit, par_value}
use Rattle.method.specs.Grounds.{low_below_one, high_above_limit, end_fails_test, Outcome, done, ◌>>=◌, demand}
use Rattle.method.specs.Sheet.{total}

-- ---- A, and the factor of a quoted year by par

-- A: the sum of all earlier years' factors, lows and highs apart
unfoldable pub annuity : List Pair → Pair
annuity ps = pair (total (map (λ p. p.low) ps)) (total (map (λ p. p.high) ps))

-- U × 100,000 - rate × A
abbrev pub par_numerator : ℤ → ℕ → ℤ
par_numerator r a = pos par_value -ℤ r *ℤ pos a

-- 100,000 + rate
abbrev pub par_denominator : ℤ → ℕ
par_denominator r = nat_abs (pos rate_unit +ℤ r)

-- with the A that makes it smaller, down
abbrev pub par_low : ℤ → Pair → ℤ
par_low r a = floor (par_numerator r (cond (non_neg r) a.high a.low)) (par_denominator r)

-- with the other, up
abbrev pub par_high : ℤ → Pair → ℤ
par_high r a = ceiling (par_numerator r (cond (non_neg r) a.low a.high)) (par_denominator r)

-- ---- a gap: the trial at a yearly factor x

-- T1 to Tk from T0, each step rounded
unfoldable pub trial : (ℕ → ℕ → ℕ) → ℕ → ℕ → ℕ → List ℕ
trial round t x zero = []
trial round t x (suc k) = let next = round (t * x) U in next ∷ trial round next x k

-- S and Tk
unfoldable pub last_of : ℕ → List ℕ → ℕ
last_of t [] = t
last_of t (u ∷ us) = last_of u us

-- rate × (A + S) + 100,000 × Tk against Par; for a rate below 0 its part stands on the other side
abbrev pub at_most_par : ℤ → ℕ → ℕ → Bool
at_most_par (pos r) annuity last = leb (r * annuity + rate_unit * last) par_value
at_most_par (negsuc r) annuity last = leb (rate_unit * last) (par_value + suc r * annuity)

abbrev pub at_least_par : ℤ → ℕ → ℕ → Bool
at_least_par (pos r) annuity last = leb par_value (r * annuity + rate_unit * last)
at_least_par (negsuc r) annuity last = leb (par_value + suc r * annuity) (rate_unit * last)

-- a gap: the rate at its end, its years, A, and the factor T0 before it
pub record Gap : Type 0 where
  pub rate : ℤ
  pub years : ℕ
  pub annuity : Pair
  pub start : Pair

abbrev pub low_trial : Gap → ℕ → List ℕ
low_trial g x = trial ◌/◌ g.start.low x g.years

abbrev pub high_trial : Gap → ℕ → List ℕ
high_trial g x = trial ceil_div g.start.high x g.years

unfoldable pub surely_not_above : Gap → ℕ → Bool
surely_not_above g x =
    let lows = low_trial g x in
    let highs = high_trial g x in
    let last = last_of g.start.high highs in
    let annuity = cond (non_neg g.rate) (g.annuity.high + total highs) (g.annuity.low + total lows) in
    at_most_par g.rate annuity last

unfoldable pub surely_not_below : Gap → ℕ → Bool
surely_not_below g x =
    let lows = low_trial g x in
    let highs = high_trial g x in
    let last = last_of g.start.low lows in
    let annuity = cond (non_neg g.rate) (g.annuity.low + total lows) (g.annuity.high + total highs) in
    at_least_par g.rate annuity last

-- ---- halving

abbrev pub lower_end : ℕ
lower_end = 800_000_000

abbrev pub upper_end : ℕ
upper_end = 1_100_000_000

-- the two ends once they are 1 apart; where `rises` holds of the middle it becomes the lower end. The fuel bounds the
-- halvings: the distance is enough, as it falls at each.
unfoldable pub halve : (ℕ → Bool) → ℕ → ℕ → ℕ → Pair
halve rises zero lo hi = pair lo hi
halve rises (suc n) lo hi =
    let middle = lo + (hi - lo) / 2 in
    let above = halve rises n middle hi in
    let below = halve rises n lo middle in
    let next = cond (rises middle) above below in
    cond (ltb 1 (hi - lo)) next (pair lo hi)

-- the low x is the lower end, halved by "surely not above par"; the high x the upper, by "surely not below par"
unfoldable pub low_x : Gap → ℕ
low_x g = (halve (surely_not_above g) (upper_end - lower_end) lower_end upper_end).low

unfoldable pub high_x : Gap → ℕ
high_x g = (halve (λ x. not (surely_not_below g x)) (upper_end - lower_end) lower_end upper_end).high

-- ---- the years, in order, with grounds 7, 8 and 9

abbrev pub highest_factor : ℕ
highest_factor = 2_000_000_000

-- the next year: 7 before 8
abbrev pub next_year : List Pair → ℤ → ℤ → Outcome (List Pair)
next_year ps low high = do
  let year = length ps + 1
  _ ← demand (le_z (pos 1) low) (low_below_one year)
  _ ← demand (le_z high (pos highest_factor)) (high_above_limit year)
  done (ps ++ pair (nat_abs low) (nat_abs high) ∷ [])

-- a quoted year, by par
unfoldable pub quoted_year : ℤ → List Pair → Outcome (List Pair)
quoted_year r ps = let a = annuity ps in next_year ps (par_low r a) (par_high r a)

-- the years inside a gap: Tj, lows with the low x, highs with the high x
unfoldable pub inside_years : List ℕ → List ℕ → List Pair → Outcome (List Pair)
inside_years [] highs ps = done ps
inside_years (l ∷ lows) [] ps = done ps
inside_years (l ∷ lows) (h ∷ highs) ps = next_year ps (pos l) (pos h) >>= inside_years lows highs

-- the factors so far, and the low and high x of the gaps so far
pub record Bootstrap : Type 0 where
  pub factors : List Pair
  pub yearly_factors : List Pair

unfoldable pub last_year : List Pair → Pair
last_year [] = pair U U
last_year (p ∷ []) = p
last_year (p ∷ q ∷ ps) = last_year (q ∷ ps)

abbrev pub gap_after : List Pair → ℕ → ℤ → Gap
gap_after ps k r = record { rate = r; years = k; annuity = annuity ps; start = last_year ps }

-- a gap's 9 first, then its years; its last comes by par
unfoldable pub gap_years : ℕ → ℤ → Bootstrap → Outcome Bootstrap
gap_years k r b = do
  let ps = b.factors
  let t = last_year ps
  let g = gap_after ps k r
  _ ← demand (surely_not_above g lower_end && surely_not_below g upper_end) (end_fails_test (length ps + k))
  let x = pair (low_x g) (high_x g)
  inside ← inside_years (trial ◌/◌ t.low x.low (k - 1)) (trial ceil_div t.high x.high (k - 1)) ps
  factors ← quoted_year r inside
  done (record { factors = factors; yearly_factors = b.yearly_factors ++ x ∷ [] })

-- ---- the quotes that are used

-- a mark for each quote: all up to the smoothing year's, which is quote i from 0, are used; a later one where its maturity has volume.
-- The first volume, the smoothing year's own, drops no quote.
unfoldable pub used : ℕ → List ℕ → List Bool
used i volumes = replicate (suc i) true ++ map (ltb 0) (drop 1 volumes)

-- the entries that are marked
unfoldable pub kept : {A : Type 0} → List Bool → List A → List A
kept [] xs = []
kept (u ∷ us) [] = []
kept (u ∷ us) (x ∷ xs) = let rest = kept us xs in cond u (x ∷ rest) rest

-- ---- the quotes in order

-- a quote, and the years to its maturity: the next one by par, or a gap
pub record Quote : Type 0 where
  pub maturity : ℕ
  pub rate : ℤ

unfoldable pub par_year : ℤ → Bootstrap → Outcome Bootstrap
par_year r b = do
  factors ← quoted_year r b.factors
  done (record { factors = factors; yearly_factors = b.yearly_factors })

unfoldable pub years_to : Quote → Bootstrap → Outcome Bootstrap
years_to q b =
    let k = q.maturity - length b.factors in
    let next = par_year q.rate b in
    let gap = gap_years k q.rate b in
    cond (eqb k 1) next gap

unfoldable pub bootstrap_from : List Quote → Bootstrap → Outcome Bootstrap
bootstrap_from [] b = done b
bootstrap_from (q ∷ qs) b = years_to q b >>= bootstrap_from qs

unfoldable pub quotes_of : List ℕ → List ℤ → List Quote
quotes_of [] rs = []
quotes_of (m ∷ ms) [] = []
quotes_of (m ∷ ms) (r ∷ rs) = record { maturity = m; rate = r } ∷ quotes_of ms rs

unfoldable pub bootstrap : List Quote → Outcome Bootstrap
bootstrap qs = bootstrap_from qs (record { factors = []; yearly_factors = [] })
