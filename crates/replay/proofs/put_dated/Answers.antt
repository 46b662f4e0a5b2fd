-- Each number behind the one before it; what is past them is as lent.
use Rattle.replay.proofs.Returning.{dated_put}
use Rattle.replay.proofs.put_dated.Goals as goal

pub returns : goal.returns
returns c =
    let a = c.args in
    dated_put a.low a.high a.month a.age a.out.now c.requires
    c.put.ensures c.put-2.ensures c.put-3.ensures c.put-4.ensures
