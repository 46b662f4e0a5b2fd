-- Ground 9 on the one x that there is.
use mathlib.Core.Path.{◌≡◌, ap, sym, subst⁻¹, ◌∙◌}
use mathlib.Core.Bool.{◌&&◌}
use mathlib.Core.List.{[], ◌∷◌}
use lib.Dec.{leb, lit≤}
use Rattle.method.specs.Units.{Pair}
use Rattle.method.specs.Sheet.{volume_count}
use Rattle.method.specs.Quotes.{lower_end, upper_end}
use Rattle.method.specs.Ranges.{YearlyFactor}
use Rattle.method.specs.Series.{gap_forward}
use Rattle.curve.proofs.Extending.{within_ends, ten_quoted, own_passed, own_refused, x_in_range, one_stretch}
use Rattle.curve.proofs.Worked.own_forward.Goals as goal
use Rattle.curve.proofs.Worked.own_forward.Goals.{After-within_ends}

-- the code's test is the definition's
tested : (c : After-within_ends) → c.within_ends.result ≡ within_ends c.args.self.n.in_range c.args.self.worked c.requires
tested c = c.within_ends.ensures ∙ ap (λ (x : Pair). leb lower_end x.low && leb x.high upper_end) c.year_over-x.ensures

pub year_over-x-requires : goal.year_over-x-requires
year_over-x-requires c = (lit≤ tt, ten_quoted c.args.self.n.in_range c.args.self.worked c.requires)

pub returns-then-not-within_ends-clause-outcome : goal.returns-then-not-within_ends-clause-outcome
returns-then-not-within_ends-clause-outcome c =
    let fails = sym (tested (goal.at.returns-then-not-within_ends-clause-outcome c).After-within_ends) ∙ c.if-not-within_ends.true in
    sym (own_refused c.args.self.n.in_range c.args.self.worked c.requires fails)

pub one_forward-requires : goal.one_forward-requires
one_forward-requires c =
    let passes = sym (tested (goal.at.one_forward-requires c).After-within_ends) ∙ c.if-not-within_ends.false in
    let own = own_passed c.args.self.n.in_range c.args.self.worked c.requires passes in
    subst⁻¹ YearlyFactor c.year_over-x.ensures (x_in_range c.args.self.n.in_range c.args.self.worked (ap volume_count c.requires) own)

pub returns-clause-outcome : goal.returns-clause-outcome
returns-clause-outcome c =
    let passes = sym (tested (goal.at.returns-clause-outcome c).After-within_ends) ∙ c.if-not-within_ends.false in
    let is = c.one_forward.ensures.0 ∙ ap (λ (p : Pair). gap_forward p ∷ []) c.year_over-x.ensures in
    one_stretch c.args.self.n.in_range c.args.self.worked (ap volume_count c.requires) (own_passed c.args.self.n.in_range c.args.self.worked c.requires passes) c.one_forward.result is
