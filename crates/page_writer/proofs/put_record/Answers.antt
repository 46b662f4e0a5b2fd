-- Mark, year, low and high one behind the other, over all ten bytes.
use Rattle.page_writer.proofs.Writing.{record_put}
use Rattle.page_writer.proofs.put_record.Goals as goal

pub returns : goal.returns
returns c =
    let a = c.args in
    record_put a.year a.low a.high a.bytes.now c.requires.0 c.requires.1
    c.put.ensures
    c.put-2.ensures
    c.put-3.ensures
    c.put-4.ensures
