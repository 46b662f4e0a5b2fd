-- A space, and behind it the digits, which are the definition's.
use Rattle.std.proofs.Common.{length, ap, arith, rules}
use Rattle.std.proofs.lemmas.Fmt.{length-decimal-le}
use Rattle.desk_core.proofs.Decimal.{at_the_end}
use Rattle.desk_core.proofs.Putting.{◌then◌}
use Rattle.desk_core.proofs.lines.put_number.Goals as goal

pub write_digits-start-requires : goal.write_digits-start-requires
write_digits-start-requires c = search (rules, length-decimal-le 20)

pub put-requires : goal.put-requires
put-requires c =
    let digits = c.write_digits-start in
    let e = ap length (at_the_end c.args.n digits.result digits.new.buf c.ranges.n.fits digits.ensures.start digits.ensures.written) in
    omega (arith, e, c.put-end.ensures.ends)

pub returns : goal.returns
returns c =
    let digits = c.write_digits-start in
    let e = at_the_end c.args.n digits.result digits.new.buf c.ranges.n.fits digits.ensures.start digits.ensures.written in
    c.put-end.ensures then rw e at c.put.ensures
