-- Stretch by stretch, the gap's x as the definition steps on.
use mathlib.Core.Path.{◌≡◌, refl, ap, ◌∙◌}
use mathlib.Core.List.{map}
use lib.ListN.{length, take}
use borrow.Author.Rules.{rules}
use Rattle.fraction.specs.Rounding.{U}
use Rattle.method.specs.Units.{pair}
use Rattle.rounding.specs.Pairs.{as_pair}
use Rattle.used_quotes.proofs.Stretches.{mark, marks_are, after, five_stretches}
use Rattle.used_quotes.proofs.spread_out.Goals as goal
use Rattle.used_quotes.proofs.spread_out.Goals.{Start}

five : (s : Start) → length s.args.volumes ≡ 5
five s = search rules

pub returns : goal.returns
returns c =
    let a = c.args in
    let vs = a.volumes in
    let all = five_stretches (pair U U) (map as_pair (take a.gaps a.xs)) 2 (mark vs 1) (mark vs 2) (mark vs 3) (mark vs 4) in
    let third = c.gap_after-to30.ensures.0 in
    let fourth = c.gap_after-to40.ensures.0 ∙ ap (after (mark vs 2)) third in
    let fifth = c.gap_after-to50.ensures.0 ∙ ap (after (mark vs 3)) fourth in
    rw (marks_are vs (five (goal.at.returns c).Start), all, ← fifth, ← fourth, ← third)
    (rw (← c.x_of.ensures, ← c.x_of-2.ensures, ← c.x_of-3.ensures, ← c.x_of-4.ensures, ← c.x_of-5.ensures) refl)
