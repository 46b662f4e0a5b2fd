-- Ground 8 on the adjusted years, which are the euro's; the forward that changed is a sheet's own, and so the rest goes on as for any curve.
use mathlib.Core.Path.{◌≡◌, sym, ap, subst, subst⁻¹, ◌∙◌}
use Prim.Native.Nat.{ℕ, ◌-◌, ◌≤◌}
use native.Mathlib.Omega.{arith}
use borrow.Author.Rules.{rules}
use lib.IntN.{ℤ, nat_abs}
use lib.ListN.{take}
use Rattle.std.specs.Prelude.{Result}
use Rattle.std.specs.declared.result.Result.TheVariants.{Ok, Err}
use Rattle.method.specs.Units.{adjusted, SignedPair}
use Rattle.method.specs.Sheet.{smoothing_year, Numbers}
use Rattle.method.specs.Extrapolation.{llfr, adjusted_years, first_raised}
use Rattle.rounding.specs.Pairs.{as_signed_pair}
use Rattle.rounding.proofs.Machine.{stored, stored_is, stored_size}
use Rattle.grounds.specs.declared.Ground.{Ground}
use Rattle.grounds.specs.Answers.{outcome_of}
use Rattle.sheet.specs.Views.{as_numbers}
use Rattle.extrapolation.specs.Extrapolated.{Years}
use Rattle.extrapolation.specs.Extrapolated.{as_years}
use Rattle.curve.specs.Curves.{quoted_in, forwards_in, curve_from}
use Rattle.adjustment.specs.Adjusting.{Adjusts}
use Rattle.curve.proofs.Laws.{years_refused, years_adjusted}
use Rattle.curve.proofs.Extending.{raised_in, adjusted_to_20, liquid_usable}
use Rattle.curve.proofs.Extension.adjusted.Goals as goal
use Rattle.curve.proofs.Extension.adjusted.Goals.{Start, After-llfr_of}

module _ (s : Start) where
  abbrev n : Numbers
  n = as_numbers s.args.self.now.n

  size : nat_abs s.args.a ≤ 500
  size = subst (λ (a : ℤ). nat_abs a ≤ 500) s.requires.adjusts.1 s.args.self.now.n.in_range.adjustment_size

  -- the adjustment is read back from its bits
  read : stored s.args.a ≡ n.adjustment
  read = stored_is s.args.a size tt ∙ sym s.requires.adjusts.1

  twenty : smoothing_year n.profile ≡ 20
  twenty = adjusted_to_20 n s.args.self.now.n.in_range s.requires.adjusts.0

  years_are : (r : Result Years Ground) → Adjusts (stored s.args.a) s.args.years r →
      outcome_of (quoted_in n) r ≡ adjusted_years n.adjustment 1 (quoted_in n s.args.years)
  years_are r x =
      let years = as_years s.args.years in
      subst⁻¹ (λ (k : ℕ). outcome_of (λ (y : Years). take k (as_years y)) r ≡ adjusted_years n.adjustment 1 (take k years)) twenty
      (x.outcome ∙ ap (λ (a : ℤ). adjusted_years a 1 (take 20 years)) read)

-- LLFR with the first forward raised
liquid_is : (x : After-llfr_of) →
    let n = as_numbers x.args.self.now.n in
    as_signed_pair x.llfr_of.result ≡ llfr n.volumes (first_raised n.adjustment (forwards_in n x.args.g))
liquid_is x =
    let n = as_numbers x.args.self.now.n in
    let raised = x.raise_first in
    x.llfr_of.ensures.0
    ∙ ap (llfr n.volumes)
    (raised_in n _ x.args.g raised.result raised.ensures.0 ∙ ap (λ (a : ℤ). first_raised a (forwards_in n x.args.g)) (read (goal.at.extended-requires x).Start))

pub adjusted_years-requires : goal.adjusted_years-requires
adjusted_years-requires c =
    let to_20 = twenty c in
    (stored_size c.args.a (size c) tt, λ i h. c.requires.ready.in_range i (omega (arith, to_20)))

pub returns-in_err-first : goal.returns-in_err-first
returns-in_err-first c =
    let handed : c.from_residual.result ≡ Err c.in_err-first.field-0.0 = search rules in
    let refused = years_are (goal.at.returns-in_err-first c).Start (Err c.in_err-first.field-0.0) c.in_err-first.ensures in
    rw handed (sym (years_refused _ _ _ (sym refused)))

pub extended-requires : goal.extended-requires
extended-requires c =
    let s = (goal.at.extended-requires c).Start in
    let last = smoothing_year (as_numbers c.args.self.now.n).profile - 1 in
    record {
      usable = liquid_usable c.args.self.now.n.in_range c.requires.ready adjusted c.llfr_of.result (liquid_is c) c.llfr_of.ensures.1;
      last = c.in_ok-first.ensures.in_range last (omega (arith, twenty s));
    }

pub returns : goal.returns
returns c =
    let s = (goal.at.returns c).Start in
    let n = as_numbers c.args.self.now.n in
    let first = c.in_ok-first.first in
    c.extended.ensures
    ∙ sym
    (years_adjusted n (forwards_in n c.args.g) _ (sym (years_are s (Ok first) c.in_ok-first.ensures))
    ∙ ap (λ (f : SignedPair). curve_from n f (quoted_in n first)) (sym (liquid_is (goal.at.returns c).After-llfr_of)))
