use mathlib.Core.Path.{◌≡◌, sym, ◌∙◌}
use mathlib.Core.List.{map}
use Prim.Native.Nat.{◌+◌}
use lib.ListN.{length, replicate, length-map, get_or-map}
use lib.Seq.{ext_get_or}
use Rattle.std.proofs.lemmas.List.{map-set}
use Rattle.fraction.specs.Rounding.{U}
use Rattle.method.specs.Units.{pair}
use Rattle.method.specs.Table.{table}
use Rattle.method.specs.Extrapolation.{κ_pairs}
use Rattle.method.proofs.TableRule as method
use Rattle.method.proofs.Filling.{filled_none, filled_more, filled_all}
use Rattle.rounding.specs.Pairs.{as_pair}
use borrow.Author.Rules.{rules}
use Rattle.convergence.proofs.tabled.Goals as goal
use Rattle.convergence.proofs.tabled.Goals.{After-table-lows}

pairs_long : length (κ_pairs table) ≡ 140
unfolding κ_pairs
pairs_long = length-map table (λ k. pair k (k + 1)) ∙ method.table-length

table_is : (c : After-table-lows) → c.table-lows.result ≡ table
table_is c =
    let long : length c.table-lows.result ≡ 140 = search rules in
    ext_get_or 0 c.table-lows.result table (long ∙ sym method.table-length) (λ i h. (c.table-lows.ensures i (rw long at h)).tabled)

pub loop-i-init : goal.loop-i-init
loop-i-init c =
    filled_none (κ_pairs table) (map as_pair (replicate 140 (record { low = U; high = U }))) (sym pairs_long)

pub loop-i-preserved : goal.loop-i-preserved
unfolding κ_pairs
loop-i-preserved c =
    let i = c.loop-i.i in
    let entry = sym (get_or-map (λ k. pair k (k + 1)) table i 0) in
    rw (table_is (goal.at.loop-i-preserved c).After-table-lows, map-set as_pair c.loop-i.weights i _)
    (filled_more (κ_pairs table) _ i _ (pair 0 1) c.loop-i.invariant (rw pairs_long c.loop-i-test.true) entry)

pub returns : goal.returns
returns c = filled_all (κ_pairs table) _ c.loop-i.i c.loop-i.invariant (rw pairs_long c.loop-i-test.false)
