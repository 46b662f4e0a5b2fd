-- The sheet, and what stood before the ways back.
use Rattle.std.proofs.Common.{◌≡◌, length, rules}
use Rattle.history.proofs.Keeping.{one_more}
use Rattle.history.proofs.History.with_post.Goals as goal

pub returns : goal.returns
returns c =
    let h = c.args.self.now in
    let three : length h.below ≡ 3 = search rules in
    let ways = one_more h.depth c.min.result h.sheet h.below three c.min.ensures in
    cc (ways, c.of.ensures)
