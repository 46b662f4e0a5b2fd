-- What is lent to `make_at_desk` is all that is left of the bytes held.
use Rattle.std.proofs.Common.{length, refl, arith}
use Rattle.book.specs.Views.{as_book}
use Rattle.journal.specs.Made.{as_reply}
use Rattle.desk_core.proofs.Lengths.{reply_short}
use Rattle.desk_core.proofs.Serving.{begins, goes_on, further, ends_here, ends_full, waits}
use Rattle.desk_core.proofs.serve_held.Goals as goal

pub loop-text-init : goal.loop-text-init
loop-text-init c = begins (as_book c.args.book.now) c.args.held.now c.args.text.now

pub put_reply-written-requires : goal.put_reply-written-requires
put_reply-written-requires c = omega (arith, reply_short (as_reply c.in-Ok.made.reply), c.loop-text-test.true)

pub loop-text-smaller : goal.loop-text-smaller
loop-text-smaller c =
    let inv = c.loop-text.invariant in
    let some = further _ inv (omega (arith, inv.same_length)) _ _ c.in-Ok.ensures in
    let next = goes_on _ inv (omega (arith, inv.same_length)) _ _ c.in-Ok.ensures c.put_reply-written.ensures (omega (arith, inv.same_length)) in
    omega (arith, some, next.within)

pub loop-text-preserved : goal.loop-text-preserved
loop-text-preserved c =
    let inv = c.loop-text.invariant in
    goes_on _ inv (omega (arith, inv.same_length)) _ _ c.in-Ok.ensures c.put_reply-written.ensures (omega (arith, inv.same_length))

pub returns-in-Err-clause-pass : goal.returns-in-Err-clause-pass
returns-in-Err-clause-pass c =
    let inv = c.loop-text.invariant in
    ends_here _ inv (omega (arith, inv.same_length)) _ _ c.in-Err.ensures

pub returns-in-Err-clause-waits : goal.returns-in-Err-clause-waits
returns-in-Err-clause-waits c =
    let inv = c.loop-text.invariant in
    let all = ends_here _ inv (omega (arith, inv.same_length)) _ _ c.in-Err.ensures in
    waits (length c.args.text.now) (as_book c.args.book.now) c.args.held.now all (c.type_inv.held 1).fits (c.type_inv.held 2).fits

pub returns-clause-pass : goal.returns-clause-pass
returns-clause-pass c = ends_full c.loop-text.invariant c.loop-text.book refl (omega arith)

pub returns-clause-waits : goal.returns-clause-waits
returns-clause-waits c =
    let all = ends_full c.loop-text.invariant c.loop-text.book refl (omega arith) in
    waits (length c.args.text.now) (as_book c.args.book.now) c.args.held.now all (c.type_inv.held 1).fits (c.type_inv.held 2).fits
