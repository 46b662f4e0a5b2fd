-- A year, or a gap, more than the factors and the yearly factors so far.
use Rattle.std.specs.Prelude.{◌≡◌, Bool, true, false, List, [], ◌∷◌, ◌++◌, ℕ, zero, suc, ◌+◌, ◌*◌, ◌/◌, ℤ, pos, length, Result}
use Rattle.fraction.specs.Rounding.{U, ceil_div}
use Rattle.method.specs.Units.{Pair, SignedPair, signed_pair}
use Rattle.method.specs.Grounds.{Outcome, done, ◌>>=◌}
use Rattle.method.specs.Quotes.{Bootstrap, Quote, par_low, par_high, trial, next_year, quoted_year, inside_years}
use Rattle.rounding.specs.Pairs as code
use Rattle.rounding.specs.Pairs.{as_pair}
use Rattle.grounds.specs.declared.Ground.{Ground}
use Rattle.grounds.specs.Answers.{outcome_of}

-- ---- one year, or one gap, more

abbrev pub with_factors : Bootstrap → List Pair → Bootstrap
with_factors b factors = record { factors = factors; yearly_factors = b.yearly_factors }

abbrev pub with_gap : Bootstrap → Pair → Bootstrap
with_gap b x = record { factors = b.factors; yearly_factors = b.yearly_factors ++ x ∷ [] }

-- factors that were worked, beside the gaps as they are
abbrev pub lifted : Bootstrap → Outcome (List Pair) → Outcome Bootstrap
lifted b o = o >>= λ factors. done (with_factors b factors)

-- what a low and a high come to as the factor of this year, whatever the factors before it
abbrev pub Judges : ℕ → ℤ → ℤ → Result code.Pair Ground → Type 0
Judges year low high r = (ps : List Pair) → length ps + 1 ≡ year → outcome_of (λ p. ps ++ as_pair p ∷ []) r ≡ next_year ps low high

-- the next year's low and high, before they are judged: inside a gap from the factor t at the yearly factor x, otherwise by par on A
abbrev pub next_factor : Bool → Pair → Pair → ℤ → Pair → SignedPair
next_factor true t x r a = signed_pair (pos (t.low * x.low / U)) (pos (ceil_div (t.high * x.high) U))
next_factor false t x r a = signed_pair (par_low r a) (par_high r a)

-- the next k years, the last by par, those before it inside a gap from the factor t at the yearly factor x
abbrev pub next_years : Pair → Pair → ℕ → ℤ → List Pair → Outcome (List Pair)
next_years t x zero r ps = done ps
next_years t x (suc k) r ps = inside_years (trial ◌/◌ t.low x.low k) (trial ceil_div t.high x.high k) ps >>= quoted_year r

abbrev pub quote : ℕ → ℤ → Quote
quote m r = record { maturity = m; rate = r }
