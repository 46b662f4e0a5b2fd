use mathlib.Core.Path.{◌≡◌}
use Rattle.rounding.proofs.Machine.{stored, stored_is}
use Rattle.adjustment.proofs.Stepping.{one_step, all_steps}
use Rattle.adjustment.proofs.steps.Goals as goal
use Rattle.adjustment.proofs.steps.Goals.{Start}

-- the forward is read back from its bits
read : (s : Start) → stored s.args.f ≡ s.args.f
read s = stored_is s.args.f s.requires.1.size tt

pub loop-preserved : goal.loop-preserved
loop-preserved c =
    rw c.step_with-x.ensures (one_step c.loop.invariant c.requires.3 (rw (read (goal.at.loop-preserved c).Start) c.requires.1) c.loop-test.true)

pub returns : goal.returns
returns c = rw (read (goal.at.returns c).Start) at (all_steps c.loop.invariant c.requires.3 c.loop-test.false)
