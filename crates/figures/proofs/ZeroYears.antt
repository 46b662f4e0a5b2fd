-- Years of U to U, in every market: the quotes by computation, for the euro one for each pattern of volumes; from there on, where L is 0 to 0,
-- every forward is 0 to 0, and a step of 0 leaves a pair as it is.
use mathlib.Core.Path.{◌≡◌, refl, ap, ap₂, subst, ◌∙◌}
use mathlib.Core.Bool.{Bool, true, false}
use mathlib.Core.List.{List, [], ◌∷◌, ◌++◌, map}
use Prim.Native.Nat.{ℕ, zero, suc, ◌+◌, ◌-◌, ◌≤◌, zero-le}
use native.Mathlib.Nat.{mul-zero, zero-mul, zero-div}
use native.Mathlib.Omega.{arith}
use borrow.Author.Tests.{le-leb}
use lib.IntN.{ℤ, pos}
use lib.ListN.{length, take, drop, replicate, length-replicate, replicate-append-replicate}
use Rattle.fraction.specs.Rounding.{U}
use Rattle.method.specs.Units.{Pair, pair, SignedPair}
use Rattle.method.specs.Grounds.{Outcome, done, ◌>>=◌}
use Rattle.method.specs.Sheet.{Profile, euro, from_ten, from_fifteen, quote_count, smoothing_index, volume_count, quoted_maturities, smoothing_year, Numbers}
use Rattle.method.specs.Quotes.{Bootstrap, bootstrap, kept, used, quotes_of, last_year}
use Rattle.method.specs.Series.{gap_forward, ultimate_forward}
use Rattle.method.specs.Extrapolation.{llfr_numerator, llfr, forward, extrapolate_with, extrapolate, weights, first_too_wide}
use Rattle.method.specs.Curve.{spread, gap_xs, liquid_of, factor_of, within_limit, extended_with, extended}
use Rattle.method.proofs.Computes.{computes}
use Rattle.method.proofs.Entries.{spelled_out}
use Rattle.method.proofs.Weights.{weights-length}
use Rattle.method.proofs.Unadjusted.{unmoved, step_stays}

abbrev pub one : Pair
one = pair U U

-- ---- the quotes

-- the liquid part of what the marks keep of rates
abbrev worked : Profile → List Bool → List ℤ → Outcome Bootstrap
worked p marks rates = do
  b ← bootstrap (kept marks (quotes_of (quoted_maturities p) rates))
  xs ← gap_xs p b
  done (record { factors = take (smoothing_year p) b.factors; yearly_factors = spread one (drop (smoothing_index p) marks) xs })

-- U to U to the smoothing year, and an x of U to U in each stretch
Level : Profile → List Bool → Type 0
Level p marks =
    worked p marks (replicate (quote_count p) (pos 0))
    ≡ done (record { factors = replicate (smoothing_year p) one; yearly_factors = replicate (volume_count p) one })

-- whichever of 25, 30, 40 and 50 are used
euro_level : (at25 at30 at40 at50 : Bool) → Level euro (replicate 13 true ++ at25 ∷ at30 ∷ at40 ∷ at50 ∷ [])
unfolding computes Level
euro_level false false false false = refl
euro_level true false false false = refl
euro_level false true false false = refl
euro_level true true false false = refl
euro_level false false true false = refl
euro_level true false true false = refl
euro_level false true true false = refl
euro_level true true true false = refl
euro_level false false false true = refl
euro_level true false false true = refl
euro_level false true false true = refl
euro_level true true false true = refl
euro_level false false true true = refl
euro_level true false true true = refl
euro_level false true true true = refl
euro_level true true true true = refl

ten_level : Level from_ten (replicate 10 true)
unfolding computes Level
ten_level = refl

fifteen_level : Level from_fifteen (replicate 12 true)
unfolding computes Level
fifteen_level = refl

level : (p : Profile) (vs : List ℕ) → length vs ≡ volume_count p → Level p (used (smoothing_index p) vs)
unfolding used
level euro vs h = subst (λ (v : List ℕ). Level euro (used 12 v)) (spelled_out 0 vs h) (euro_level _ _ _ _)
level from_ten vs h = subst (λ (v : List ℕ). Level from_ten (used 9 v)) (spelled_out 0 vs h) ten_level
level from_fifteen vs h = subst (λ (v : List ℕ). Level from_fifteen (used 11 v)) (spelled_out 0 vs h) fifteen_level

-- ---- the forwards

unit_unmoved : gap_forward one ≡ unmoved
unfolding computes
unit_unmoved = refl

pub gaps_unmoved : (k : ℕ) → map gap_forward (replicate k one) ≡ replicate k unmoved
gaps_unmoved zero = refl
gaps_unmoved (suc k) = ap₂ (λ (g : SignedPair) (gs : List SignedPair). g ∷ gs) unit_unmoved (gaps_unmoved k)

pub ultimate_unmoved : ultimate_forward 0 ≡ unmoved
unfolding computes
ultimate_unmoved = refl

pub llfr_unmoved : (p : Profile) (vs : List ℕ) → llfr vs (replicate (volume_count p) unmoved) ≡ unmoved
unfolding llfr llfr_numerator
llfr_unmoved euro vs = simp (mul-zero, zero-div)
llfr_unmoved from_ten vs = simp (mul-zero, zero-div)
llfr_unmoved from_fifteen vs = simp (mul-zero, zero-div)

forward_unmoved : (κ : Pair) → forward unmoved unmoved κ ≡ unmoved
unfolding forward
forward_unmoved κ = simp zero-mul

-- ---- the years

years_level : (κs : List Pair) (year : ℕ) → extrapolate unmoved unmoved κs year one ≡ done (replicate (length κs) one)
unfolding extrapolate_with
years_level [] year = refl
years_level (κ ∷ κs) year = rw (forward_unmoved κ, step_stays one, years_level κs (year + 1)) refl

narrow : (limit year k : ℕ) → first_too_wide limit year (replicate k one) ≡ 0
unfolding first_too_wide
narrow limit year zero = refl
narrow limit year (suc k) = rw (le-leb 0 limit zero-le, narrow limit (year + 1) k) refl

last_level : (k : ℕ) → last_year (replicate k one) ≡ one
unfolding last_year
last_level zero = refl
last_level (suc zero) = refl
last_level (suc (suc k)) = last_level (suc k)

pub extended_level : (n : Numbers) → ultimate_forward n.ultimate ≡ unmoved → (k : ℕ) → 10 ≤ k → k ≤ 150 →
    extended n unmoved (replicate k one) ≡ done (replicate 150 one)
unfolding extended_with within_limit
extended_level n ultimate k least most =
    let κs = weights (factor_of n) (150 - k) in
    let all : k + (150 - k) ≡ 150 = omega arith in
    let rest : List Pair → Outcome (List Pair) = λ later. within_limit n.limit (replicate k one ++ later) in
    let many = weights-length (factor_of n) (150 - k) (omega arith) in
    rw (length-replicate k one, last_level k)
    (ap (λ (l : SignedPair). extrapolate l unmoved κs (k + 1) one >>= rest) ultimate
    ∙ rw (years_level κs (k + 1), many, replicate-append-replicate k (150 - k) one, all, narrow n.limit 1 150) refl)

pub liquid_level : (n : Numbers) → n.rates ≡ replicate (quote_count n.profile) (pos 0) → length n.volumes ≡ volume_count n.profile →
    liquid_of n ≡ done (record { factors = replicate (smoothing_year n.profile) one; yearly_factors = replicate (volume_count n.profile) one })
unfolding liquid_of Level
liquid_level n rates volumes =
    ap (λ (rs : List ℤ). worked n.profile (used (smoothing_index n.profile) n.volumes) rs) rates ∙ level n.profile n.volumes volumes
