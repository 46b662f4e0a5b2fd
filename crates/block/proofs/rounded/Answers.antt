-- A thousand of the millions' sum is a U, so its thousands need no rounding.
use mathlib.Core.Bool.{Bool, true, false}
use mathlib.Core.Path.{◌≡◌, ap, ◌∙◌}
use Prim.Native.Nat.{ℕ, ◌+◌, ◌*◌, ◌/◌, ◌%◌, ◌≤◌}
use native.Mathlib.Omega.{arith}
use lib.Dec.{lit<}
use Rattle.fraction.specs.Rounding.{U, round_ℕ}
use Rattle.method.proofs.Quotients.{round-≤}
use Rattle.block.proofs.rounded.Goals as goal

rounded_apart : (up : Bool) (millions rest : ℕ) →
    millions / 1_000 + round_ℕ up (millions % 1_000 * 1_000_000 + rest) U ≡ round_ℕ up (millions * 1_000_000 + rest) U
rounded_apart true millions rest = omega arith
rounded_apart false millions rest = omega arith

pub overflow_add-result : goal.overflow_add-result
overflow_add-result c =
    let sum = c.multiplied-sum.result in
    let up = c.args.up in
    let below : ℕ = sum.millions % 1_000 * 1_000_000 + sum.rest in
    let least : round_ℕ up below U ≤ below = round-≤ up (lit< tt) (omega arith) in
    record { fits = omega (arith, c.quotient.ensures) }

pub returns : goal.returns
returns c =
    let args = c.args in
    let sum = c.multiplied-sum.result in
    ap (λ (k : ℕ). sum.millions / 1_000 + k) c.quotient.ensures
    ∙ rounded_apart args.up sum.millions sum.rest
    ∙ ap (λ (k : ℕ). round_ℕ args.up k U) c.multiplied-sum.ensures.sum
