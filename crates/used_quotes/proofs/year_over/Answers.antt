-- One quotient for each side, within 64 bits.
use mathlib.Core.Path.{ap₂, ◌∙◌}
use Prim.Native.Nat.{◌*◌, ◌/◌}
use Rattle.fraction.specs.Rounding.{U, ceil_div}
use Rattle.method.specs.Units.{Pair, pair}
use Rattle.method.specs.Curve.{year_over}
use Rattle.used_quotes.proofs.year_over.Goals as goal

pub returns : goal.returns
unfolding year_over
returns c =
    let over : Pair → Pair → Pair = λ a b. pair (a.low * U / b.high) (ceil_div (a.high * U) b.low) in
    ap₂ pair c.quotient.ensures c.quotient-2.ensures
    ∙ ap₂ over c.factor_at-last.ensures.is c.factor_at-before.ensures.is
