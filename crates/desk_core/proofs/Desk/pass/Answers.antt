-- The pass is that of `serve_held`; what is left of the bytes held is moved to the front of the block. No more is taken than is held.
use Rattle.std.proofs.Common.{length, take, arith, length-take-le}
use Rattle.book.specs.Views.{as_book}
use Rattle.desk_core.proofs.Passes.{served-within}
use Rattle.desk_core.proofs.Desk.pass.Goals as goal

pub move_down-self-requires : goal.move_down-self-requires
move_down-self-requires c =
    let a = c.args in
    let most = served-within (length a.text.now) (as_book a.self.now.book) (take a.self.now.held a.block.now) in
    (omega (arith, c.serve_held-served.ensures.pass.taken, most, length-take-le a.self.now.held a.block.now c.requires), c.requires)
