-- The sheet's grounds, then the list's, and else the search.
use borrow.Author.Rules.{rules}
use mathlib.Core.Path.{◌≡◌, sym, ap, ◌∙◌}
use Rattle.std.specs.declared.result.Result.TheVariants.{Err}
use Rattle.grounds.specs.Answers.{as_answered}
use Rattle.shift.proofs.Theorem.{sheet_fails, list_fails, searches}
use Rattle.shift_search.proofs.Blocks.{list_refused, list_passed, as_told}
use Rattle.shift_search.proofs.shift_block.Goals as goal

pub returns-in_err-numbers : goal.returns-in_err-numbers
returns-in_err-numbers c = λ fs e.
    let told : c.from_residual.result ≡ Err c.in_err-numbers.field-0.0 = search rules in
    as_told _ fs _ _ (ap as_answered told ∙ sym (sheet_fails _ fs _ _ (sym c.in_err-numbers.ensures)))

pub returns-in_err-block : goal.returns-in_err-block
returns-in_err-block c = λ fs e.
    let told : c.from_residual-in_err-block.result ≡ Err c.in_err-block.field-0.0 = search rules in
    let refusal = list_refused fs (sym e ∙ ap as_answered c.in_err-block.was) in
    as_told _ fs _ _ (ap as_answered told ∙ sym (list_fails _ fs _ _ (sym c.in_ok-numbers.ensures) _ refusal))

pub returns : goal.returns
returns c = λ fs e.
    let of = sym e ∙ ap as_answered c.in_ok-block.was in
    as_told _ fs _ _ (c.search.ensures fs of ∙ sym (searches _ fs _ _ (sym c.in_ok-numbers.ensures) (list_passed fs of)))
