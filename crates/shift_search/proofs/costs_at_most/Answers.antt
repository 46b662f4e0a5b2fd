-- 7 to 10, and else the block's high.
use Rattle.shift_search.proofs.Costs.{none_costs, high_costs}
use Rattle.shift_search.proofs.costs_at_most.Goals as goal

pub returns-in_default : goal.returns-in_default
returns-in_default c = λ fs of. none_costs fs c.args.target c.in_default.ensures

pub returns : goal.returns
returns c = λ fs of. high_costs fs c.args.target of _ c.value_on.result c.value_on.ensures c.in-Ok.ensures
