-- The entry at the index, among those that are worked.
use mathlib.Core.Path.{sym}
use Rattle.bootstrap.proofs.Soundness.{factor_is}
use Rattle.used_quotes.proofs.factor_at.Goals as goal

pub returns : goal.returns
returns c =
    let q = c.args.q in
    let i = c.args.i in
    record { is = sym (factor_is q i 0 c.requires); range = q.sound.factors i c.requires }
