-- The rates behind the others; what is past the reply is as lent.
use mathlib.Core.Path.{ap, ◌∙◌}
use mir.Syntax.{w64}
use mir.Val.{to_z, of_z}
use Rattle.std.proofs.Common.{rules, ◌≡◌}
use Rattle.method.specs.Bytes.{twos_complement32}
use Rattle.book.specs.Views.{as_finding}
use Rattle.replay.proofs.Returning.{found_put}
use Rattle.replay.proofs.put_found.Goals as goal

pub returns : goal.returns
returns c =
    let f = c.args.f in
    let low_read : to_z w64 (of_z w64 f.low_rate) ≡ f.low_rate = search rules in
    let high_read : to_z w64 (of_z w64 f.high_rate) ≡ f.high_rate = search rules in
    found_put (as_finding f) c.args.out.now c.requires
    (c.twos_complement.ensures ∙ ap twos_complement32 low_read)
    (c.twos_complement-2.ensures ∙ ap twos_complement32 high_read)
    c.put_dated.ensures
    c.put.ensures
    c.put-2.ensures
