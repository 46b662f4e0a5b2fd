-- SPECIFICATION 4: logarithm and growth.
use Rattle.std.specs.Prelude.{cond, ℕ, zero, suc, ◌+◌, ◌*◌, ◌-◌, ◌/◌, leb, eqb, pos, neg_ℤ}
use Rattle.fraction.specs.Rounding.{U, ceil_div}
use Rattle.method.specs.Units.{Pair, SignedPair, signed_pair}

-- ---- what a high gains: 1, and at the one argument whose result is known `slack`: 0 at present, 1 earlier
unfoldable pub added : ℕ → ℕ → ℕ → ℕ
added slack known x = cond (eqb x known) slack 1

-- ---- G(x) = -ln x; `round` is the quotient down for the low and up for the high

-- p(i)/(2i - 1) + .. over k terms, p(i+1) = p(i) × s / U; the odd number counts on
unfoldable pub logarithm_sum : (ℕ → ℕ → ℕ) → ℕ → ℕ → ℕ → ℕ → ℕ
logarithm_sum round s odd p zero = 0
logarithm_sum round s odd p (suc k) = round p odd + logarithm_sum round s (odd + 2) (round (p * s) U) k

-- 2 × the sum, from d = |U - x|
unfoldable pub logarithm : (ℕ → ℕ → ℕ) → ℕ → ℕ → ℕ
logarithm round d x =
    let z = round (d * U) (U + x) in
    let s = round (z * z) U in
    2 * logarithm_sum round s 1 z 5

-- known at U; for x above U the pair is negated
unfoldable pub GWith : ℕ → ℕ → SignedPair
GWith slack x =
    let d = (U - x) + (x - U) in
    let low = logarithm ◌/◌ d x in
    let high = logarithm ceil_div d x + added slack U x in
    cond (leb x U) (signed_pair (pos low) (pos high)) (signed_pair (neg_ℤ (pos high)) (neg_ℤ (pos low)))

-- a gap's forward, from its low and high x
unfoldable pub gap_forward_with : ℕ → Pair → SignedPair
gap_forward_with slack x = signed_pair (GWith slack x.high).low (GWith slack x.low).high

-- L = ln(1 + UFR) is minus G at U + 10,000 × UFR
unfoldable pub ultimate_forward_with : ℕ → ℕ → SignedPair
ultimate_forward_with slack ufr = let g = GWith slack (U + 10_000 * ufr) in signed_pair (neg_ℤ g.high) (neg_ℤ g.low)

-- ---- E(y), the sum t0 + .. + t7

-- t(i) + .. over k terms, from t(i - 1)
unfoldable pub growth_sum : (ℕ → ℕ → ℕ) → ℕ → ℕ → ℕ → ℕ → ℕ
growth_sum round y i t zero = 0
growth_sum round y i t (suc k) = let next = round (t * y) (i * U) in next + growth_sum round y (suc i) next k

unfoldable pub growth : (ℕ → ℕ → ℕ) → ℕ → ℕ
growth round y = U + growth_sum round y 1 U 7

abbrev pub growth_low : ℕ → ℕ
growth_low y = growth ◌/◌ y

-- known at 0
abbrev pub growth_high_with : ℕ → ℕ → ℕ
growth_high_with slack y = growth ceil_div y + added slack 0 y

-- ---- at present: no slack

abbrev pub G : ℕ → SignedPair
G = GWith 0

abbrev pub gap_forward : Pair → SignedPair
gap_forward = gap_forward_with 0

abbrev pub ultimate_forward : ℕ → SignedPair
ultimate_forward = ultimate_forward_with 0

abbrev pub growth_high : ℕ → ℕ
growth_high = growth_high_with 0
