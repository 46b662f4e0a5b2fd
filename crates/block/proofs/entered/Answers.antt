-- What each test found is left to the tactics, so that another order of the tests fails at a fact.
use Rattle.std.proofs.Common.{rules}
use mathlib.Core.Path.{refl, sym}
use native.Mathlib.Omega.{arith}
use Prim.Native.Nat.{◌≤◌}
use Rattle.block.specs.Views.{totals_from}
use Rattle.block.proofs.Enters.{checked_outside, checked_large, checked_alone}
use Rattle.block.proofs.entered.Goals as goal

pub returns-then-not-contains-clause-checked : goal.returns-then-not-contains-clause-checked
returns-then-not-contains-clause-checked c =
    let cases = c.if-not-contains.ensures.cases in
    sym (checked_outside _ _ _ (λ y. grind arith))

pub returns-then-flow-gt1000000000-clause-checked : goal.returns-then-flow-gt1000000000-clause-checked
returns-then-flow-gt1000000000-clause-checked c =
    let from : 1 ≤ c.args.flow.year = grind arith in
    let to : c.args.flow.year ≤ 150 = grind arith in
    sym (checked_large _ _ _ from to (omega arith))

pub returns-clause-checked : goal.returns-clause-checked
returns-clause-checked c =
    let from : 1 ≤ c.args.flow.year = search rules in
    let to : c.args.flow.year ≤ 150 = search rules in
    sym (checked_alone _ _ from to (omega arith))

pub returns-clause-totals : goal.returns-clause-totals
unfolding totals_from
returns-clause-totals c = λ e. refl
