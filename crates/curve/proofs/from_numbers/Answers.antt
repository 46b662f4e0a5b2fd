-- Grounds 7 to 9 on the quotes that are used and their stretches, then the rest.
use mathlib.Core.Path.{◌≡◌, sym, ap, ◌∙◌}
use borrow.Author.Rules.{rules}
use Rattle.std.specs.declared.result.Result.TheVariants.{Err}
use Rattle.method.specs.Quotes.{bootstrap}
use Rattle.curve.proofs.Laws.{quotes_refused, forwards_refused}
use Rattle.curve.proofs.from_numbers.Goals as goal

pub returns-in_err-q : goal.returns-in_err-q
returns-in_err-q c =
    let handed : c.from_residual.result ≡ Err c.in_err-q.field-0.0 = search rules in
    rw handed (sym (quotes_refused _ (sym (c.in_err-q.ensures.outcome ∙ ap bootstrap c.select.ensures.quotes))))

pub returns-in_err-g : goal.returns-in_err-g
returns-in_err-g c =
    let handed : c.from_residual-in_err-g.result ≡ Err c.in_err-g.field-0.0 = search rules in
    rw handed (sym (forwards_refused _ (sym c.in_err-g.ensures.outcome)))
