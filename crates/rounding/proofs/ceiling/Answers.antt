-- The whole divisors below a, less its last one, and one more.
use Rattle.std.proofs.Common.{◌≡◌, ◌+◌, ◌-◌, sym, arith}
use Rattle.std.proofs.Math.Nat.{add-div_right}
use Rattle.rounding.proofs.ceiling.Goals as goal

pub returns-else-a-eq0 : goal.returns-else-a-eq0
returns-else-a-eq0 c =
    let a = c.args.a in
    let b = c.args.b in
    let same : a + (b - 1) ≡ (a - 1) + b = omega (arith, c.if-a-eq0.false, c.requires) in
    rw same (sym (add-div_right (a - 1) c.requires))
