-- SPECIFICATION 5: the extrapolated years and the volatility adjustment, with grounds 8 and 10.
use Rattle.std.specs.Prelude.{cond, List, [], ◌∷◌, map, ℕ, zero, suc, ◌+◌, ◌*◌, ◌-◌, ◌/◌, leb, eqb, ℤ, pos, negsuc, nat_abs, ◌+ℤ◌, ◌-ℤ◌, ◌*ℤ◌, get_or, take}
use Rattle.std.specs.Int.Signed.{le_z}
use Rattle.fraction.specs.Rounding.{U, floor, ceiling, ceil_div}
use Rattle.method.specs.Units.{Pair, pair, SignedPair, signed_pair}
use Rattle.method.specs.Grounds.{high_above_limit, Outcome, done, ◌>>=◌, demand}
use Rattle.method.specs.Sheet.{total}
use Rattle.method.specs.Quotes.{highest_factor}
use Rattle.method.specs.Series.{growth_low, growth_high, growth_high_with}
use Rattle.method.specs.Table.{table}

-- ---- LLFR, from the volumes at 20, 25, 30, 40, 50 and the lows, or the highs, of g1 to g5

abbrev pub at : List ℤ → ℕ → ℤ
at gs i = get_or gs (i - 1) (pos 0)

abbrev pub volume_at : List ℕ → ℕ → ℤ
volume_at vs i = pos (get_or vs (i - 1) 0)

-- 12 V20 g1 + 12 V25 g2 + 6 V30 (g2+g3) + 3 V40 (g2+g3+2g4) + 2 V50 (g2+g3+2g4+2g5)
unfoldable pub llfr_numerator : List ℕ → List ℤ → ℤ
llfr_numerator vs gs =
    let to30 = at gs 2 +ℤ at gs 3 in
    let to40 = to30 +ℤ pos 2 *ℤ at gs 4 in
    let to50 = to40 +ℤ pos 2 *ℤ at gs 5 in
    pos 12 *ℤ volume_at vs 1 *ℤ at gs 1
    +ℤ pos 12 *ℤ volume_at vs 2 *ℤ at gs 2
    +ℤ pos 6 *ℤ volume_at vs 3 *ℤ to30
    +ℤ pos 3 *ℤ volume_at vs 4 *ℤ to40
    +ℤ pos 2 *ℤ volume_at vs 5 *ℤ to50

-- rounded once
unfoldable pub llfr : List ℕ → List SignedPair → SignedPair
llfr vs gs =
    signed_pair
    (floor (llfr_numerator vs (map (λ g. g.low) gs)) (12 * total vs))
    (ceiling (llfr_numerator vs (map (λ g. g.high) gs)) (12 * total vs))

-- ---- the convergence factor of the phase-in, in hundred-millionths: 10,000,000 is 10%

abbrev pub smaller : ℤ → ℤ → ℤ
smaller a b = cond (le_z a b) a b

abbrev pub larger : ℤ → ℤ → ℤ
larger a b = cond (le_z a b) b a

-- a rate, cut to -500 to 500
abbrev pub cut : ℤ → ℤ
cut r = larger (negsuc 499) (smaller r (pos 500))

-- 10,000,000 + (X - 10,000) × (500 - r)
unfoldable pub convergence_factor : ℕ → ℤ → ℕ
convergence_factor x r = 10_000_000 + (x - 10_000) * nat_abs (pos 500 -ℤ cut r)

-- ---- κ: a low and a high of U × k(h), for h from 1 to `count`

-- K(h) and K(h) + 1
unfoldable pub κ_pairs : List ℕ → List Pair
κ_pairs ks = map (λ k. pair k (k + 1)) ks

-- each step is rounded outward: a × b / U
abbrev pub scaled : Pair → Pair → Pair
scaled a b = pair (a.low * b.low / U) (ceil_div (a.high * b.high) U)

-- q = U × U / E at 10 × a, which is never 0
unfoldable pub decay_pair : ℕ → Pair
decay_pair a = pair (U * U / growth_high (10 * a)) (ceil_div (U * U) (growth_low (10 * a)))

-- M = (U - q) × 100,000,000 / a
unfoldable pub scale_pair : ℕ → Pair → Pair
scale_pair a q = pair ((U - q.high) * 100_000_000 / a) (ceil_div ((U - q.low) * 100_000_000) a)

-- the high is cut to U
abbrev pub cut_to_unit : Pair → Pair
cut_to_unit k = pair k.low (cond (leb k.high U) k.high U)

-- k(h) = P(h - 1) × M / U, from P(h - 1) on; P(h) = P(h - 1) × q / U
unfoldable pub weights_from : Pair → Pair → Pair → ℕ → List Pair
weights_from q m p zero = []
weights_from q m p (suc count) = cut_to_unit (scaled p m) ∷ weights_from q m (scaled p q) count

-- at exactly 10% the table
unfoldable pub weights : ℕ → ℕ → List Pair
weights a count =
    let q = decay_pair a in
    cond (eqb a 10_000_000) (take count (κ_pairs table)) (weights_from q (scale_pair a q) (pair U U) count)

-- ---- the year's forward

-- L × (U - κ) + LLFR × κ
abbrev pub blend : ℤ → ℤ → ℕ → ℤ
blend l f κ = l *ℤ pos (U - κ) +ℤ f *ℤ pos κ

-- the smaller of the results for the two ends of κ on lows, the larger on highs
unfoldable pub forward : SignedPair → SignedPair → Pair → SignedPair
forward l f κ =
    signed_pair
    (smaller (floor (blend l.low f.low κ.low) U) (floor (blend l.low f.low κ.high) U))
    (larger (ceiling (blend l.high f.high κ.low) U) (ceiling (blend l.high f.high κ.high) U))

-- ---- the year's step: times e to minus the forward. `slack` is what a known logarithm or growth gains (Series)

-- with f the forward's high
abbrev pub step_low_with : ℕ → ℤ → ℕ → ℕ
step_low_with slack (pos f) low = low * U / growth_high_with slack f
step_low_with slack (negsuc f) low = low * growth_low (suc f) / U

-- with f the forward's low
abbrev pub step_high_with : ℕ → ℤ → ℕ → ℕ
step_high_with slack (pos f) high = ceil_div (high * U) (growth_low f)
step_high_with slack (negsuc f) high = ceil_div (high * growth_high_with slack (suc f)) U

unfoldable pub step_with : ℕ → SignedPair → Pair → Pair
step_with slack f p = pair (step_low_with slack f.high p.low) (step_high_with slack f.low p.high)

-- ---- the years after the smoothing year, one for each κ pair

unfoldable pub extrapolate_with : ℕ → SignedPair → SignedPair → List Pair → ℕ → Pair → Outcome (List Pair)
extrapolate_with slack l f [] year p = done []
extrapolate_with slack l f (κ ∷ κs) year p = do
  let next = step_with slack (forward l f κ) p
  _ ← demand (leb next.high highest_factor) (high_above_limit year)
  later ← extrapolate_with slack l f κs (year + 1) next
  done (next ∷ later)

-- ---- the volatility adjustment: years to the smoothing year, and LLFR's first forward

-- hundred-thousandths, in billionths
abbrev pub billionths : ℤ → ℤ
billionths a = a *ℤ pos 10_000

-- t times through the year's step
unfoldable pub steps_with : ℕ → SignedPair → ℕ → Pair → Pair
steps_with slack f zero p = p
steps_with slack f (suc t) p = steps_with slack f t (step_with slack f p)

-- year t is taken t times, with the adjustment as the forward's low and high
unfoldable pub adjusted_years_with : ℕ → ℤ → ℕ → List Pair → Outcome (List Pair)
adjusted_years_with slack a year [] = done []
adjusted_years_with slack a year (p ∷ ps) = do
  let next = steps_with slack (signed_pair (billionths a) (billionths a)) year p
  _ ← demand (leb next.high highest_factor) (high_above_limit year)
  later ← adjusted_years_with slack a (year + 1) ps
  done (next ∷ later)

-- g1 gains as much at both ends
unfoldable pub first_raised : ℤ → List SignedPair → List SignedPair
first_raised a [] = []
first_raised a (g ∷ gs) = signed_pair (g.low +ℤ billionths a) (g.high +ℤ billionths a) ∷ gs

-- ---- ground 10: the first year whose band passes the limit, counted on from `year`; 0 where none does
unfoldable pub first_too_wide : ℕ → ℕ → List Pair → ℕ
first_too_wide limit year [] = 0
first_too_wide limit year (p ∷ ps) =
    let rest = first_too_wide limit (year + 1) ps in
    cond (leb (p.high - p.low) limit) rest year

-- ---- at present: no slack

abbrev pub step_low : ℤ → ℕ → ℕ
step_low = step_low_with 0

abbrev pub step_high : ℤ → ℕ → ℕ
step_high = step_high_with 0

abbrev pub step : SignedPair → Pair → Pair
step = step_with 0

abbrev pub extrapolate : SignedPair → SignedPair → List Pair → ℕ → Pair → Outcome (List Pair)
extrapolate = extrapolate_with 0

abbrev pub steps : SignedPair → ℕ → Pair → Pair
steps = steps_with 0

abbrev pub adjusted_years : ℤ → ℕ → List Pair → Outcome (List Pair)
adjusted_years = adjusted_years_with 0
