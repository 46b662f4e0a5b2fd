-- By the market.
use mathlib.Core.Path.{◌≡◌, ap, sym, subst⁻¹, ◌∙◌}
use mathlib.Core.List.{[], ◌∷◌}
use lib.ListN.{get_or, drop}
use lib.Seq.{get_or-drop}
use Rattle.fraction.specs.Rounding.{U}
use Rattle.method.specs.Units.{Pair, pair}
use Rattle.method.specs.Sheet.{volume_count}
use Rattle.method.specs.Ranges.{YearlyFactor}
use Rattle.method.specs.Series.{gap_forward}
use Rattle.rounding.specs.Pairs.{as_pair}
use Rattle.sheet.specs.Views.{as_profile}
use Rattle.bootstrap.specs.Liquids.{as_bootstrap}
use Rattle.curve.proofs.Extending.{from_15, x_in_range, one_stretch}
use Rattle.curve.proofs.Worked.forwards.Goals as goal
use Rattle.curve.proofs.Worked.forwards.Goals.{After-gap_x}

-- profile 3's x is the first from its second gap on
second : (c : After-gap_x) → as_pair c.gap_x.result ≡ get_or (drop 1 (as_bootstrap c.args.self.q).yearly_factors) 0 (pair U U)
second c = c.gap_x.ensures ∙ sym (get_or-drop 1 (as_bootstrap c.args.self.q).yearly_factors 0 (pair U U))

pub one_forward-requires : goal.one_forward-requires
one_forward-requires c =
    let p = ap as_profile c.in-FromFifteen.is in
    subst⁻¹ YearlyFactor (second c) (x_in_range c.args.self.n.in_range c.args.self.worked (ap volume_count p) (from_15 c.args.self.n.in_range c.args.self.worked p))

pub returns-in-FromFifteen-clause-outcome : goal.returns-in-FromFifteen-clause-outcome
returns-in-FromFifteen-clause-outcome c =
    let p = ap as_profile c.in-FromFifteen.is in
    let gap = (goal.at.returns-in-FromFifteen-clause-outcome c).After-gap_x in
    let is = c.one_forward.ensures.0 ∙ ap (λ (y : Pair). gap_forward y ∷ []) (second gap) in
    one_stretch c.args.self.n.in_range c.args.self.worked (ap volume_count p) (from_15 c.args.self.n.in_range c.args.self.worked p) c.one_forward.result is
