-- The quotient toward zero is the ceiling, or one below it where the remainder is above 0 (Division.antt).
use Rattle.rounding.proofs.Division.{stepped_is, kept_is}
use Rattle.rounding.proofs.ceil_div.Goals as goal

pub returns-then-a-b-gt0 : goal.returns-then-a-b-gt0
returns-then-a-b-gt0 c = stepped_is c.requires c.ranges.a c.ranges.b c.if-a-b-gt0.true

pub returns-else-a-b-gt0 : goal.returns-else-a-b-gt0
returns-else-a-b-gt0 c = kept_is c.requires c.ranges.a c.ranges.b c.if-a-b-gt0.false
