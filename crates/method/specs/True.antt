-- SPECIFICATION 6: the true curves of order n. No rounding, worked from the sheet's numbers alone, still in billionths. Written
-- from the method paper and the phase-in paper, beside the computed curves and not by them; their names stand in the comments.
use Rattle.std.specs.Prelude.{Bool, cond, ◌||◌, List, [], ◌∷◌, ◌++◌, map, ℕ, zero, suc, ◌+◌, ◌*◌, ◌-◌, ◌^◌, eqb, leb, ltb, ℤ, pos, length, take, drop, get_or}
use Rattle.fraction.specs.Fraction.{ℚ, le_ℚ, nat_ℚ, int_ℚ, neg_ℚ, ◌+ℚ◌, ◌-ℚ◌, ◌*ℚ◌, ◌÷◌, recip, pow_ℚ, sum_ℚ}
use Rattle.method.specs.Units.{Which, plain, adjusted}
use Rattle.method.specs.Sheet.{Profile, euro, from_ten, from_fifteen, Numbers, maturities}

abbrev pub billion : ℚ
billion = nat_ℚ 1_000_000_000

-- ---- e^y

unfoldable pub factorial : ℕ → ℕ
factorial zero = 1
factorial (suc i) = factorial i * suc i

-- 1 + y + y^2/2! + .. through term 12 + n
unfoldable pub exp_sum : ℕ → ℚ → ℚ
exp_sum n y = sum_ℚ (λ i. pow_ℚ y i ÷ nat_ℚ (factorial i)) (13 + n)

-- for y below 0 one over that of -y
unfoldable pub exp : ℕ → ℚ → ℚ
exp n y = cond (le_ℚ (nat_ℚ 0) y) (exp_sum n y) (recip (exp_sum n (neg_ℚ y)))

-- ---- the logarithm: -ln x, through 5 + n terms

-- ln((1 + z)/(1 - z)) = 2 (z + z^3/3 + z^5/5 + ..)
unfoldable pub artanh_sum : ℕ → ℚ → ℚ
artanh_sum n z = nat_ℚ 2 *ℚ sum_ℚ (λ i. pow_ℚ z (2 * i + 1) ÷ nat_ℚ (2 * i + 1)) (5 + n)

unfoldable pub minus_log : ℕ → ℚ → ℚ
minus_log n x = billion *ℚ artanh_sum n ((billion -ℚ x) ÷ (billion +ℚ x))

-- ---- the liquid part: factors 1/(1 + z_t)^t from the par rates r

unfoldable pub sum_of : List ℚ → ℚ
sum_of [] = nat_ℚ 0
sum_of (x ∷ xs) = x +ℚ sum_of xs

-- the factor at which a swap of rate r over the years of annuity a and one more is at par
unfoldable pub par_factor : ℤ → ℚ → ℚ
par_factor r a = (billion *ℚ nat_ℚ 100_000 -ℚ int_ℚ r *ℚ a) ÷ (nat_ℚ 100_000 +ℚ int_ℚ r)

-- the factor j years on from t at the yearly factor x = 1/(1 + f)
unfoldable pub onward : ℚ → ℚ → ℕ → ℚ
onward t x j = t *ℚ pow_ℚ (x ÷ billion) j

-- r (sum of the factors) + the last factor: the left side of the paper's equation for f_{15,20}
unfoldable pub swap_value : ℤ → ℚ → ℚ → ℕ → ℚ → ℚ
swap_value r a t k x = int_ℚ r *ℚ (a +ℚ sum_ℚ (λ j. onward t x (suc j)) k) +ℚ nat_ℚ 100_000 *ℚ onward t x k

-- the m-th multiple of 10^-(9 + n), times U
unfoldable pub multiple : ℕ → ℕ → ℚ
multiple n m = billion *ℚ (nat_ℚ m ÷ nat_ℚ (10 ^ (9 + n)))

unfoldable pub at_most_par : ℕ → ℤ → ℚ → ℚ → ℕ → ℕ → Bool
at_most_par n r a t k m = le_ℚ (swap_value r a t k (multiple n m)) (billion *ℚ nat_ℚ 100_000)

-- the largest number up to a bound that passes a test, or 0
unfoldable pub largest : (ℕ → Bool) → ℕ → ℕ
largest p zero = zero
largest p (suc b) = let less = largest p b in cond (p (suc b)) (suc b) less

-- "the largest multiple, from 0 up, at which the swap's value is at most par". The search stops at twice the unit;
-- that no larger one passes either is proved (`chosen-largest` in `proofs/Gap`).
unfoldable pub chosen : ℕ → ℤ → ℚ → ℚ → ℕ → ℕ
chosen n r a t k = largest (at_most_par n r a t k) (2 * 10 ^ (9 + n))

pub record Liquid : Type 0 where
  pub factors : List ℚ
  pub yearly : List ℚ

unfoldable pub last_factor : List ℚ → ℚ
last_factor [] = billion
last_factor (x ∷ []) = x
last_factor (x ∷ y ∷ xs) = last_factor (y ∷ xs)

-- years 1 to k - 1 of a gap
unfoldable pub between : ℚ → ℚ → ℕ → ℕ → List ℚ
between t x j zero = []
between t x j (suc k) = onward t x j ∷ between t x (suc j) k

-- on to the next quoted maturity m: the forward is the same in each year of the gap; the last year is at par
unfoldable pub to_maturity : ℕ → ℕ → ℤ → Liquid → Liquid
to_maturity n m r l =
    let k = m - length l.factors in
    let t = last_factor l.factors in
    let x = multiple n (chosen n r (sum_of l.factors) t k) in
    let inside = l.factors ++ between t x 1 (k - 1) in
    record {
      factors = inside ++ par_factor r (sum_of inside) ∷ [];
      yearly = cond (eqb k 1) l.yearly (l.yearly ++ x ∷ []);
    }

unfoldable pub liquid_from : ℕ → List ℕ → List ℤ → Liquid → Liquid
liquid_from n [] rs l = l
liquid_from n (m ∷ ms) [] l = l
liquid_from n (m ∷ ms) (r ∷ rs) l = liquid_from n ms rs (to_maturity n m r l)

unfoldable pub liquid : ℕ → List ℕ → List ℤ → Liquid
liquid n ms rs = liquid_from n ms rs (record { factors = []; yearly = [] })

-- ---- the market: the year from which it is smoothed, and the maturities that have a volume

unfoldable pub smoothed_from : Profile → ℕ
smoothed_from euro = 20
smoothed_from from_ten = 10
smoothed_from from_fifteen = 15

unfoldable pub volumes_at : Profile → List ℕ
volumes_at euro = 20 ∷ 25 ∷ 30 ∷ 40 ∷ 50 ∷ []
volumes_at from_ten = 10 ∷ []
volumes_at from_fifteen = 15 ∷ []

-- ---- the maturities that are used: up to that year all, beyond it those with volume

-- the volume at a maturity
unfoldable pub traded_at : ℕ → List ℕ → List ℕ → ℕ
traded_at m [] vs = 0
traded_at m (k ∷ ks) [] = 0
traded_at m (k ∷ ks) (v ∷ vs) = cond (eqb m k) v (traded_at m ks vs)

unfoldable pub is_used : Profile → List ℕ → ℕ → Bool
is_used p vs m = leb m (smoothed_from p) || ltb 0 (traded_at m (volumes_at p) vs)

-- what stands beside the maturities that pass a test
unfoldable pub beside : {A : Type 0} → (ℕ → Bool) → List ℕ → List A → List A
beside p [] xs = []
beside p (m ∷ ms) [] = []
beside p (m ∷ ms) (x ∷ xs) = let rest = beside p ms xs in cond (p m) (x ∷ rest) rest

-- the yearly factor of the years up to m: that of the first gap which ends there or later; 1 where there is none
unfoldable pub yearly_to : ℕ → List ℕ → List ℚ → ℚ
yearly_to m [] xs = billion
yearly_to m (e ∷ es) [] = billion
yearly_to m (e ∷ es) (x ∷ xs) = cond (leb m e) x (yearly_to m es xs)

-- ---- the last liquid forward rate: LLFR = sum of w_x f, w_x = V_x over the sum of all V

-- f_{20,t} is the mean of the gaps' forwards, each year counted once
unfoldable pub years_total : List ℕ → ℕ
years_total [] = 0
years_total (k ∷ ks) = k + years_total ks

unfoldable pub years_sum : List ℕ → List ℚ → ℚ
years_sum [] fs = nat_ℚ 0
years_sum (k ∷ ks) [] = nat_ℚ 0
years_sum (k ∷ ks) (f ∷ fs) = nat_ℚ k *ℚ f +ℚ years_sum ks fs

unfoldable pub mean_forward : List ℕ → List ℚ → ℚ
mean_forward ks fs = years_sum ks fs ÷ nat_ℚ (years_total ks)

-- the years of gaps 20-25, 25-30, 30-40, 40-50
unfoldable pub gap_years_from20 : List ℕ
gap_years_from20 = 5 ∷ 5 ∷ 10 ∷ 10 ∷ []

-- f_{15,20}, f_{20,25}, f_{20,30}, f_{20,40}, f_{20,50} from the gaps' own forwards
unfoldable pub market_forwards : List ℚ → List ℚ
market_forwards fs =
    let from20 = drop 1 fs in
    get_or fs 0 (nat_ℚ 0)
    ∷ map (λ i. mean_forward (take i gap_years_from20) from20) (1 ∷ 2 ∷ 3 ∷ 4 ∷ [])

unfoldable pub weighted : List ℕ → ℚ → List ℚ → ℚ
weighted [] all fs = nat_ℚ 0
weighted (v ∷ vs) all [] = nat_ℚ 0
weighted (v ∷ vs) all (f ∷ fs) = (nat_ℚ v ÷ all) *ℚ f +ℚ weighted vs all fs

unfoldable pub last_liquid_forward : List ℕ → List ℚ → ℚ
last_liquid_forward vs fs = weighted vs (nat_ℚ (years_total vs)) (market_forwards fs)

-- ---- the extrapolated part

-- the convergence factor α by the interest rate r of the year from which it is smoothed: ten percent when it is 0.5% or higher, X when it is -0.5% or lower,
-- linearly interpolated between 10% and X when it is between
unfoldable pub speed : ℚ → ℚ → ℚ
speed x r =
    let ten = nat_ℚ 1 ÷ nat_ℚ 10 in
    let half = nat_ℚ 1 ÷ nat_ℚ 200 in
    let way = (half -ℚ r) ÷ (half +ℚ half) in
    cond (le_ℚ half r) ten (cond (le_ℚ r (neg_ℚ half)) x (ten +ℚ (x -ℚ ten) *ℚ way))

-- k(h) = h B(α,h) - (h-1) B(α,h-1), which is 1/α q^(h-1) (1 - q) with q = e^-α
unfoldable pub decay : ℕ → ℚ → ℚ
decay n α = recip (exp_sum n α)

unfoldable pub convergence : ℕ → ℚ → ℕ → ℚ
convergence n α h = recip α *ℚ pow_ℚ (decay n α) (h - 1) *ℚ (nat_ℚ 1 -ℚ decay n α)

-- ln(1 + UFR) + (LLFR - ln(1 + UFR)) k(h)
unfoldable pub year_forward : ℕ → ℚ → ℚ → ℚ → ℕ → ℚ
year_forward n α l f h = l +ℚ (f -ℚ l) *ℚ convergence n α h

-- year h after the quoted ones is the year before times e to minus its forward
unfoldable pub extrapolated : ℕ → ℚ → ℚ → ℚ → ℕ → ℕ → ℚ → List ℚ
extrapolated n α l f h zero p = []
extrapolated n α l f h (suc c) p =
    let next = p *ℚ exp n (neg_ℚ (year_forward n α l f h ÷ billion)) in
    next ∷ extrapolated n α l f (suc h) c next

-- the quote of the year from which it is smoothed
unfoldable pub smoothing_rate : Numbers → ℤ
smoothing_rate s = get_or (beside (eqb (smoothed_from s.profile)) maturities s.rates) 0 (pos 0)

-- from the quoted years and LLFR, on to year 150
unfoldable pub to_last_year : ℕ → Numbers → ℚ → List ℚ → List ℚ
to_last_year n s f quoted =
    let α = speed (nat_ℚ s.phase_in ÷ nat_ℚ 100_000) (int_ℚ (smoothing_rate s) ÷ nat_ℚ 100_000) in
    let ultimate = neg_ℚ (minus_log n (billion *ℚ (nat_ℚ 1 +ℚ nat_ℚ s.ultimate ÷ nat_ℚ 100_000))) in
    quoted ++ extrapolated n α ultimate f 1 (150 - length quoted) (last_factor quoted)

-- ---- the plain curve

-- the maturities that are used, and the liquid part on their rates
unfoldable pub true_maturities : Numbers → List ℕ
true_maturities s = beside (is_used s.profile s.volumes) maturities maturities

unfoldable pub true_liquid : ℕ → Numbers → Liquid
true_liquid n s = liquid n (true_maturities s) (beside (is_used s.profile s.volumes) maturities s.rates)

-- the yearly factor of the years up to m: to ten years each is quoted, and it is that of year m over year m - 1; past ten years each used
-- maturity ends a gap
unfoldable pub yearly_up_to : List ℕ → Liquid → ℕ → ℚ
yearly_up_to ms l m =
    let ratio = get_or l.factors (m - 1) (nat_ℚ 0) ÷ get_or l.factors (m - 2) (nat_ℚ 0) in
    cond (leb m 10) (billion *ℚ ratio) (yearly_to m (drop 10 ms) l.yearly)

-- of the years up to each maturity of a volume: that factor, and f
unfoldable pub true_xs : ℕ → Numbers → List ℚ
true_xs n s = map (yearly_up_to (true_maturities s) (true_liquid n s)) (volumes_at s.profile)

unfoldable pub true_forwards : ℕ → Numbers → List ℚ
true_forwards n s = map (minus_log n) (true_xs n s)

-- the years that are not smoothed
unfoldable pub true_years : ℕ → Numbers → List ℚ
true_years n s = take (smoothed_from s.profile) (true_liquid n s).factors

unfoldable pub true_plain : ℕ → Numbers → List ℚ
true_plain n s = to_last_year n s (last_liquid_forward s.volumes (true_forwards n s)) (true_years n s)

-- ---- the adjusted curve: VA is added to the forwards up to the year from which it is smoothed and, in LLFR, to the forward just before it
-- alone; not to UFR

-- so year t falls by e^-VA, t times
unfoldable pub lowered_from : ℕ → ℚ → List ℚ → List ℚ
lowered_from t e [] = []
lowered_from t e (x ∷ xs) = x *ℚ pow_ℚ e t ∷ lowered_from (suc t) e xs

unfoldable pub with_VA : ℚ → List ℚ → List ℚ
with_VA v [] = []
with_VA v (f ∷ fs) = (f +ℚ v) ∷ fs

unfoldable pub true_adjusted : ℕ → Numbers → List ℚ
true_adjusted n s =
    let v = int_ℚ s.adjustment ÷ nat_ℚ 100_000 in
    let f = last_liquid_forward s.volumes (with_VA (billion *ℚ v) (true_forwards n s)) in
    to_last_year n s f (lowered_from 1 (exp n (neg_ℚ v)) (true_years n s))

-- ---- the curve that is named

unfoldable pub true_curve : Which → ℕ → Numbers → List ℚ
true_curve plain n s = true_plain n s
true_curve adjusted n s = true_adjusted n s

-- its true factor of order n of a year, from 1
unfoldable pub true_factor : Which → ℕ → Numbers → ℕ → ℚ
true_factor w n s t = get_or (true_curve w n s) (t - 1) (nat_ℚ 0)
