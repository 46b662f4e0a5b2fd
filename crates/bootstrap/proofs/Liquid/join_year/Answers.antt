-- The arrays with the year set at their count, and A with it.
use mathlib.Core.Path.{ap}
use native.Mathlib.Omega.{arith}
use Rattle.bootstrap.specs.Liquids.{as_bootstrap}
use Rattle.bootstrap.specs.Years.{with_factors}
use Rattle.bootstrap.proofs.Soundness.{annuity_small, factors_more, year_sound}
use Rattle.bootstrap.proofs.Liquid.join_year.Goals as goal

pub overflow_add-self-2 : goal.overflow_add-self-2
overflow_add-self-2 c = record { fits = omega (arith, annuity_small c.args.self.now, c.requires) }

pub overflow_add-self-3 : goal.overflow_add-self-3
overflow_add-self-3 c = record { fits = omega (arith, annuity_small c.args.self.now, c.requires) }

pub invariant_of-self : goal.invariant_of-self
invariant_of-self c = record { sound = year_sound c.args.self.now _ _ c.requires.1 c.requires.0 }

pub returns-clause-factors : goal.returns-clause-factors
returns-clause-factors c =
    let w = c.args.self.now in
    ap (with_factors (as_bootstrap w)) (factors_more w _ _ c.requires.1 c.requires.0)
