-- The market's quotes are moved, and nothing else; they stay in range.
use mathlib.Core.Path.{◌≡◌, refl, sym}
use mathlib.Core.Bool.{true}
use lib.ListN.{take}
use Rattle.method.specs.Sheet.{quote_count}
use Rattle.shift.specs.Shift.{shifted, shifted_rates, quotes_inside}
use Rattle.rounding.proofs.Machine.{stored_is}
use Rattle.sheet.specs.Views.{as_profile, as_numbers}
use Rattle.shift_search.proofs.Bounds.{shifted_in_range}
use Rattle.shift_search.proofs.shift_numbers.Goals as goal
use Rattle.shift_search.proofs.shift_numbers.Goals.{In_ok-moved}

module _ (c : In_ok-moved) where
  inside : quotes_inside (shifted_rates c.args.s (as_numbers c.args.n).rates) ≡ true
  inside =
      let s = stored_is c.args.s c.requires tt in
      sym (rw (s, c.market.ensures.quotes) at c.in_ok-moved.ensures.inside)

  moved : take (quote_count (as_profile c.args.n.profile)) c.in_ok-moved.field-0 ≡ shifted_rates c.args.s (as_numbers c.args.n).rates
  moved =
      let s = stored_is c.args.s c.requires tt in
      rw (s, c.market.ensures.quotes) at c.in_ok-moved.ensures.rates

pub invariant_of-moved : goal.invariant_of-moved
unfolding shifted
invariant_of-moved c = record { in_range = rw (moved c) (shifted_in_range c.args.s (as_numbers c.args.n) c.args.n.in_range (inside c)) }

pub returns-clause-numbers : goal.returns-clause-numbers
unfolding shifted
returns-clause-numbers c = rw (moved (goal.at.returns-clause-numbers c).In_ok-moved) refl
