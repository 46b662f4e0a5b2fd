-- The table at exactly 10%, the worked pairs at any other factor: either way the definition's.
use mathlib.Core.Path.{◌≡◌, sym, ap, ap₂, ◌∙◌}
use Prim.Native.Nat.{ℕ, ◌*◌, ◌-◌, ◌/◌}
use Rattle.fraction.specs.Rounding.{U, ceil_div}
use Rattle.method.specs.Units.{Pair, pair}
use Rattle.method.specs.Extrapolation.{decay_pair, scale_pair, weights_from, weights}
use Rattle.method.proofs.Weights.{weights_whole, weights_worked}
use Rattle.convergence.proofs.Sides.{weights_of}
use Rattle.convergence.proofs.weights_at.Goals as goal

pub returns-then-a-eq-TEN_PERCENT : goal.returns-then-a-eq-TEN_PERCENT
returns-then-a-eq-TEN_PERCENT c =
    let ten : c.args.a ≡ 10_000_000 = c.if-a-eq-TEN_PERCENT.true in
    weights_of c.args.a c.tabled.result c.requires (c.tabled.ensures ∙ rw ten (sym weights_whole))

pub returns : goal.returns
unfolding scale_pair
returns c =
    let a = c.args.a in
    let low = c.decay_end.ensures.0 in
    let high = c.decay_end-2.ensures.0 in
    let q : pair c.decay_end.result c.decay_end-2.result ≡ decay_pair a = ap₂ pair low high in
    let m : pair c.scale_end.result c.scale_end-2.result ≡ scale_pair a (decay_pair a) =
    ap₂ pair
    (c.scale_end.ensures.0 ∙ ap (λ (q : ℕ). (U - q) * 100_000_000 / a) high)
    (c.scale_end-2.ensures.0 ∙ ap (λ (q : ℕ). ceil_div ((U - q) * 100_000_000) a) low) in
    let worked : weights a 140 ≡ weights_from (decay_pair a) (scale_pair a (decay_pair a)) (pair U U) 140 = weights_worked a 140 c.if-a-eq-TEN_PERCENT.false in
    weights_of a _ c.requires (c.worked.ensures ∙ ap₂ (λ (q m : Pair). weights_from q m (pair U U) 140) q m ∙ sym worked)
