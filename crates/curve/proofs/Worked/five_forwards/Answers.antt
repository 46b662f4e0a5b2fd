-- The x of the five stretches are the definition's, and so are their forwards.
use mathlib.Core.Path.{◌≡◌, ap, ◌∙◌}
use native.Mathlib.Omega.{arith}
use lib.ListN.{length, take}
use lib.Seq.{take_all}
use Rattle.method.specs.Sheet.{Profile, volume_count}
use Rattle.sheet.specs.Views.{as_numbers}
use Rattle.curve.proofs.Extending.{five_stretches, five_in_range}
use borrow.Author.Rules.{rules}
use Rattle.curve.proofs.Worked.five_forwards.Goals as goal
use Rattle.curve.proofs.Worked.five_forwards.Goals.{Start}

all_volumes : (s : Start) → (as_numbers s.args.self.n).volumes ≡ s.args.self.n.volumes
all_volumes s =
    let vs = s.args.self.n.volumes in
    let five : length vs ≡ 5 = search rules in
    ap (λ (p : Profile). take (volume_count p) vs) s.requires ∙ take_all 5 vs (omega (arith, five))

pub gap_forwards-requires : goal.gap_forwards-requires
gap_forwards-requires c =
    let volumes = all_volumes (goal.at.gap_forwards-requires c).Start in
    five_in_range c.args.self.n.in_range c.args.self.worked c.requires c.args.self.n.volumes volumes c.spread_out.result c.spread_out.ensures

pub returns : goal.returns
returns c =
    let volumes = all_volumes (goal.at.returns c).Start in
    let is =
    five_stretches c.args.self.n.in_range c.args.self.worked c.requires c.args.self.n.volumes volumes c.spread_out.result c.spread_out.ensures
    c.gap_forwards.result c.gap_forwards.ensures.0 in
    (is, c.gap_forwards.ensures.1)
