-- The forward's ends are read back from their bits: they are the definition's forward, whose size is the method's bound.
use Rattle.method.specs.Extrapolation.{step_with}
use Rattle.rounding.specs.Pairs.{as_pair}
use Rattle.extrapolation.proofs.Forwarding.{forward_is}
use Rattle.extrapolation.proofs.next_year.Goals as goal

pub step_end-requires : goal.step_end-requires
step_end-requires c =
    let r = c.requires in
    let low = c.forward_end-low in
    let high = c.forward_end-high in
    let between = forward_is c.args.l c.args.f (as_pair c.args.k) r.0 r.1 r.2 low.ensures low.type_inv high.ensures high.type_inv in
    (between.1.high_size, r.3.low)

pub step_end-requires-2 : goal.step_end-requires-2
step_end-requires-2 c =
    let r = c.requires in
    let low = c.forward_end-low in
    let high = c.forward_end-high in
    let between = forward_is c.args.l c.args.f (as_pair c.args.k) r.0 r.1 r.2 low.ensures low.type_inv high.ensures high.type_inv in
    (between.1.low_size, r.3.high)

pub returns : goal.returns
unfolding step_with
returns c =
    let r = c.requires in
    let low = c.forward_end-low in
    let high = c.forward_end-high in
    let between = forward_is c.args.l c.args.f (as_pair c.args.k) r.0 r.1 r.2 low.ensures low.type_inv high.ensures high.type_inv in
    rw (c.step_end.ensures, c.step_end-2.ensures, ← between.0)
