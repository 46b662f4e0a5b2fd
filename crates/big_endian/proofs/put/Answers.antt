use mathlib.Core.Path.{◌≡◌, sym, ◌∙◌}
use Prim.Native.Nat.{suc, ◌-◌}
use native.Mathlib.Omega.{arith}
use Rattle.method.specs.Bytes.{in_bytes}
use Rattle.big_endian.proofs.Putting.{put_none, put_low_byte}
use Rattle.big_endian.proofs.put.Goals as goal

pub loop-left-preserved : goal.loop-left-preserved
loop-left-preserved c =
    let l = c.loop-left in
    let k = l.left - 1 in
    let e : l.left ≡ suc k = omega arith in
    (rw e at l.invariant) ∙ put_low_byte c.args.at k l.rest c.byte.result l.out c.byte.ensures (omega arith)

pub returns : goal.returns
unfolding in_bytes
returns c =
    let l = c.loop-left in
    let e : l.left ≡ 0 = omega arith in
    sym ((rw (e, in_bytes) at l.invariant) ∙ put_none c.args.at l.out)
