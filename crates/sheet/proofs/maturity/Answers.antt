-- The constant table is the list of the definition.
use Rattle.method.specs.Sheet.{maturities}
use Rattle.sheet.proofs.maturity.Goals as goal

pub returns : goal.returns
unfolding maturities
returns c = c.wide.ensures.0
