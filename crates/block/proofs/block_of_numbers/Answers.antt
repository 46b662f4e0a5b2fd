-- An even count is of a list with half as many entries, each a year and the cents after it.
use mathlib.Core.Path.{sym}
use borrow.Author.Rules.{rules}
use Rattle.block.proofs.Paired.{lists_even, odd_refused}
use Rattle.block.proofs.block_of_numbers.Goals as goal

pub returns-then-numbers-ne0 : goal.returns-then-numbers-ne0
returns-then-numbers-ne0 c = sym (odd_refused c.args.numbers.now c.if-numbers-ne0.true)

pub returns : goal.returns
returns c = c.listed.ensures _ (lists_even c.args.numbers.now _ c.if-numbers-ne0.false (λ i f k p. search rules))
