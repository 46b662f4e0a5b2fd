-- What is held stands before the part that is read into.
use Rattle.std.proofs.Common.{ℕ, List, [], ap, refl, arith}
use Rattle.desk_core.specs.Desk.{Desk}
use Rattle.desk_core.specs.Handed.{as_desk}
use Rattle.desk_core.proofs.Moving.{read_behind}
use Rattle.desk_core.proofs.Desk.read_more.Goals as goal

abbrev with_held : Desk → List ℕ → Desk
with_held d l = record { book = d.book; offset = d.offset; held = l }

pub returns-clause-read : goal.returns-clause-read
returns-clause-read g c =
    record {
      more = refl;
      within = omega (arith, c.read_end-end.ensures);
      behind = ap (λ (l : List ℕ). with_held (as_desk c.args.self.now []) l) (read_behind _ _ _ _ c.requires);
    }
