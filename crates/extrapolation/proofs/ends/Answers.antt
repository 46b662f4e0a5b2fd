use mathlib.Core.Path.{◌≡◌, sym, ◌∙◌}
use mathlib.Core.List.{map}
use lib.IntN.{pos}
use lib.ListN.{length, replicate, length-map, get_or-map}
use Rattle.method.proofs.Filling.{filled_none, filled_more, filled_all}
use Rattle.rounding.proofs.Machine.{returned}
use Rattle.extrapolation.specs.Extrapolated.{no_forward, signed_end}
use borrow.Author.Rules.{rules}
use Rattle.extrapolation.proofs.ends.Goals as goal
use Rattle.extrapolation.proofs.ends.Goals.{Start}

long : (s : Start) → length (map (signed_end s.args.up) s.args.g) ≡ 5
long s =
    let five : length s.args.g ≡ 5 = search rules in
    length-map s.args.g (signed_end s.args.up) ∙ five

pub loop-i-init : goal.loop-i-init
loop-i-init c = filled_none _ (replicate 5 (pos 0)) (sym (long (goal.at.loop-i-init c).Start))

pub loop-i-preserved : goal.loop-i-preserved
loop-i-preserved c =
    let a = c.args in
    let i = c.loop-i.i in
    let e = returned c.signed_end.ensures c.signed_end.type_inv ∙ sym (get_or-map (signed_end a.up) a.g i no_forward) in
    filled_more _ _ i _ (signed_end a.up no_forward) c.loop-i.invariant (rw (long (goal.at.loop-i-preserved c).Start) c.loop-i-test.true) e

pub returns : goal.returns
returns c = filled_all _ _ c.loop-i.i c.loop-i.invariant (rw (long (goal.at.returns c).Start) c.loop-i-test.false)
