use mathlib.Core.Path.{◌≡◌, sym, ap₂, ◌∙◌}
use mathlib.Core.Bool.{true, false}
use Prim.Native.Nat.{ℕ, ◌+◌, ◌≤◌}
use native.Mathlib.Nat.{le_refl}
use lib.IntN.{ℤ, nat_abs}
use Rattle.method.specs.Units.{Pair, pair}
use Rattle.method.specs.Extrapolation.{billionths}
use Rattle.extrapolation.specs.Extrapolated.{Years}
use Rattle.extrapolation.specs.Extrapolated.{factor_at}
use Rattle.rounding.proofs.Machine.{stored, stored_is}
use Rattle.adjustment.specs.Adjusting.{steps_by}
use Rattle.adjustment.proofs.Years.{at_refusal, at_end_lem, next, after_year}
use Rattle.adjustment.proofs.Stepping.{steps-ends}
use Rattle.adjustment.proofs.adjusted_years.Goals as goal
use Rattle.adjustment.proofs.adjusted_years.Goals.{After-steps-high}

-- the adjustment in billionths, read back from its bits
read : (a f : ℤ) → f ≡ billionths a → nat_abs f ≤ 5_000_000 → stored f ≡ billionths a
read a f e h = stored_is f h tt ∙ e

-- the year of a pass is the definition's
year_is : (a f : ℤ) (came y : Years) (i : ℕ) (low high : ℕ) →
    f ≡ billionths a →
    factor_at y i ≡ factor_at came i →
    low ≡ steps_by false f (i + 1) (factor_at y i).low →
    high ≡ steps_by true f (i + 1) (factor_at y i).high →
    pair low high ≡ next a came i
year_is a f came y i low high e same l h =
    let t = i + 1 in
    let lows = l ∙ ap₂ (λ (f : ℤ) (p : Pair). steps_by false f t p.low) e same in
    let highs = h ∙ ap₂ (λ (f : ℤ) (p : Pair). steps_by true f t p.high) e same in
    ap₂ pair lows highs ∙ sym (steps-ends _ t (factor_at came i))

year :
    (c : After-steps-high) →
    pair c.steps-low.result c.steps-high.result ≡ next (stored c.args.a) c.args.years c.loop-i.i
year c =
    let l = c.loop-i in
    let f = c.billionths-f in
    let scaled = read (stored c.args.a) f.result f.ensures.0 f.ensures.1.size in
    let came = l.invariant.ahead l.i (le_refl l.i) in
    year_is (stored c.args.a) _ c.args.years l.years l.i c.steps-low.result c.steps-high.result scaled came c.steps-low.ensures.0 c.steps-high.ensures.0

pub returns-then-high-gt-HIGHEST_FACTOR : goal.returns-then-high-gt-HIGHEST_FACTOR
returns-then-high-gt-HIGHEST_FACTOR c =
    let a = c.args.a in
    let adjusted = year (goal.at.returns-then-high-gt-HIGHEST_FACTOR c).After-steps-high in
    rw (stored_is a c.requires.0 tt) at
    (at_refusal (stored a) c.args.years c.loop-i.invariant c.loop-i-test.true (rw (← adjusted) c.if-high-gt-HIGHEST_FACTOR.true))

pub loop-i-preserved : goal.loop-i-preserved
loop-i-preserved c =
    let adjusted = year (goal.at.loop-i-preserved c).After-steps-high in
    let inside = c.loop-i-test.true in
    after_year (stored c.args.a) c.args.years c.loop-i.invariant inside adjusted c.if-high-gt-HIGHEST_FACTOR.false (c.requires.1 c.loop-i.i inside)

pub returns : goal.returns
returns c =
    let a = c.args.a in
    rw (stored_is a c.requires.0 tt) at (at_end_lem (stored a) c.args.years c.loop-i.invariant c.loop-i-test.false)
