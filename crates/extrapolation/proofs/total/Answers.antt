-- Each volume is small, so no sum wraps; the five entries spelled out are the list that the definition adds up.
use mathlib.Core.Path.{◌≡◌, ap}
use mathlib.Core.List.{List}
use Prim.Native.Nat.{ℕ, ◌≤◌, ◌*◌}
use native.Mathlib.Omega.{arith}
use lib.ListN.{length, get_or}
use Rattle.std.specs.List.{sum}
use Rattle.std.proofs.Common.{rules}
use Rattle.method.specs.Sheet.{total}
use Rattle.method.proofs.Entries.{spelled_out}
use Rattle.extrapolation.specs.Extrapolated.{volume_bound}
use Rattle.extrapolation.proofs.total.Goals as goal
use Rattle.extrapolation.proofs.total.Goals.{Start}

five : (s : Start) → length s.args.volumes ≡ 5
five s = search rules

sum_is : (vs : List ℕ) → length vs ≡ 5 → ((i : ℕ) → get_or vs i 0 ≤ volume_bound) → (sum vs ≡ total vs) × (total vs ≤ 5 * volume_bound)
unfolding total
sum_is vs h small =
    let e = ap total (spelled_out 0 vs h) in
    let f = ap sum (spelled_out 0 vs h) in
    (omega (arith, e, f), omega (arith, e, small 0, small 1, small 2, small 3, small 4))

pub sum-requires-clause-fits : goal.sum-requires-clause-fits
sum-requires-clause-fits c =
    let s = (goal.at.sum-requires-clause-fits c).Start in
    let t = sum_is c.args.volumes (five s) c.requires in
    let b : sum c.args.volumes ≤ 5_000_000 = omega (arith, t.0, t.1) in
    search rules

pub returns : goal.returns
returns c =
    let s = (goal.at.returns c).Start in
    let t = sum_is c.args.volumes (five s) c.requires in
    let b : c.sum.result ≡ sum c.args.volumes = search rules in
    (omega (arith, t.0, b), omega (arith, t.0, t.1, b))
