-- The answer as one number; a shift in 2 bytes where there is room.
use mathlib.Core.Path.{ap, sym, ◌∙◌}
use mir.Syntax.{w64}
use mir.Val.{to_z, of_z}
use Rattle.std.proofs.Common.{rules, ◌≡◌}
use Rattle.method.specs.Bytes.{twos_complement32}
use Rattle.shift_search.proofs.Places.{shift_place}
use Rattle.block.specs.Views.{paired}
use Rattle.replay.specs.Returned.{shift_bytes}
use Rattle.replay.proofs.Returning.{refused_place, reply_written, shift_put}
use Rattle.replay.proofs.tuyqorem_shift.Goals as goal

pub packed-requires : goal.packed-requires
packed-requires c =
    let a = c.args in
    refused_place _ c.in-Err.ensures.outcome (shift_place a.sheet.now (paired a.flows.now) a.target)

pub returns-in-Ok-2-clause-returned : goal.returns-in-Ok-2-clause-returned
returns-in-Ok-2-clause-returned c =
    let a = c.args in
    let read : to_z w64 (of_z w64 c.in-Ok.field-0) ≡ c.in-Ok.field-0 = search rules in
    let number = c.twos_complement.ensures ∙ ap twos_complement32 (read ∙ c.in-Ok-2.shift-is) in
    reply_written 2 shift_bytes a.out.now _ (sym c.in-Ok-2.ensures.outcome) _ (shift_put c.in-Ok-2.shift a.out.now number c.put.ensures) c.if-out-lt2.false
