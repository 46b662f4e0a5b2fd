-- Mark, month and age one behind the other, which are any page's first five bytes.
use mathlib.Core.Path.{sym, ◌∙◌}
use native.Mathlib.Omega.{arith}
use Rattle.page_writer.proofs.Writing.{head_put, no_year_lem}
use Rattle.page_writer.proofs.put_head.Goals as goal

pub returns : goal.returns
returns c lows highs =
    let a = c.args in
    let lent = a.out.now in
    head_put a.month a.age lent (omega (arith, c.requires)) c.put.ensures c.put-2.ensures c.put-3.ensures
    ∙ sym (no_year_lem a.month a.age lows highs lent)
