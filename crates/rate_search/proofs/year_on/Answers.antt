-- A small growth times the multiplier fits as it is; a large one is split.
use Rattle.std.proofs.Common.{ℕ, ◌*◌, ◌<◌, ◌≤◌, sym, ◌∙◌, mul-le-mul, arith}
use native.Mathlib.Nat.{min-eq_left}
use Rattle.method.proofs.Quotients.{round-≤}
use Rattle.rate_search.specs.Search.{cap}
use Rattle.rate_search.proofs.year_on.Goals as goal

product_small : (g m : ℕ) → g < 90_000_000_000_000 → m ≤ 200_001 → g * m ≤ 90_000_000_000_000 * 200_001
product_small g m h k = mul-le-mul {n₂ = 90_000_000_000_000} (omega arith) k

pub returns-then-g-lt90000000000000 : goal.returns-then-g-lt90000000000000
returns-then-g-lt90000000000000 c =
    let a = c.args in
    let small = product_small a.g a.m c.if-g-lt90000000000000.true c.requires.1 in
    c.small_quotient.ensures ∙ sym (min-eq_left (round-≤ a.up {m = cap} (omega arith) (omega (arith, small))))
