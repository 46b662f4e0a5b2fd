-- The entry before the count, or 1 where nothing is worked.
use mathlib.Core.Path.{◌≡◌, sym}
use mathlib.Core.List.{zip_with}
use Prim.Native.Nat.{◌+◌, ◌-◌}
use native.Mathlib.Omega.{arith}
use Rattle.method.proofs.QuotesLaws.{last_year_none}
use Rattle.method.proofs.Zips.{pairs_last}
use Rattle.bootstrap.proofs.Soundness.{same_length}
use Rattle.bootstrap.proofs.Liquid.last_year.Goals as goal

pub returns-then-n-eq0 : goal.returns-then-n-eq0
unfolding zip_with
returns-then-n-eq0 c = rw c.if-n-eq0.true (sym last_year_none)

pub returns : goal.returns
returns c =
    let w = c.args.self.now in
    let some = c.if-n-eq0.false in
    let n : w.count - 1 + 1 ≡ w.count = omega (arith, some) in
    sym (rw n at (pairs_last w.lows w.highs (same_length w) (w.count - 1) (omega (arith, w.sound, some))))
