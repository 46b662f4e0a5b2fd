-- The constant array is the definitions' table, entry by entry; the rule is the table's.
use mathlib.Core.Path.{refl}
use Rattle.method.specs.Table.{table}
use Rattle.method.proofs.TableRule.{table_rule, table_below}
use Rattle.convergence.proofs.table.Goals as goal

pub returns : goal.returns
unfolding table
returns c = λ i h. record { tabled = refl; below_U = table_below i; whole_part = λ n. table_rule n i h }
