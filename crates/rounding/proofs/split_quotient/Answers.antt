-- The whole parts and the rest, put together again by the law of a product divided part by part.
use mathlib.Core.Path.{sym, ap, ◌∙◌}
use Prim.Native.Nat.{ℕ, ◌+◌, ◌*◌, ◌/◌, ◌%◌, ◌≤◌, ◌<◌}
use native.Mathlib.Nat.{mod-lt, mul-le-mul_right}
use native.Mathlib.Omega.{arith}
use Rattle.method.proofs.Quotients.{round-≤, split_product}
use Rattle.rounding.proofs.split_quotient.Goals as goal

rest_small : (a m b : ℕ) → 0 < b → a % b * m ≤ m * b
rest_small a m b h =
    let rest : a % b ≤ b = omega (arith, mod-lt a h) in
    omega (arith, mul-le-mul_right m rest)

pub overflow_add-result : goal.overflow_add-result
overflow_add-result c =
    let a = c.args in
    let rest : c.quotient.result ≤ a.m =
    rw c.quotient.ensures (round-≤ a.up c.requires.0 (rest_small a.a a.m a.b c.requires.0)) in
    record { fits = omega (arith, c.requires) }

pub returns : goal.returns
returns c =
    let a = c.args in
    ap (λ (k : ℕ). a.a / a.b * a.m + k) c.quotient.ensures ∙ sym (split_product a.up c.requires.0 a.a a.m)
