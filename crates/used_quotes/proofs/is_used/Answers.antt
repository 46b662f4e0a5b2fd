-- By the quote's place: up to the smoothing year, or past it.
use mathlib.Core.Path.{◌≡◌, sym, ap, ◌∙◌}
use Prim.Native.Nat.{ℕ, suc, ◌+◌, ◌-◌}
use native.Mathlib.Omega.{arith}
use mathlib.Core.Bool.{false}
use lib.Dec.{ltb}
use borrow.Author.Tests.{le-leb}
use lib.ListN.{get_or}
use Rattle.method.specs.Quotes.{used}
use Rattle.method.proofs.Used.{used_to, used_past}
use Rattle.used_quotes.proofs.is_used.Goals as goal

pub returns-else-i-smoothing : goal.returns-else-i-smoothing
returns-else-i-smoothing c =
    let a = c.args in
    let s = a.smoothing in
    let j = a.i - s - 1 in
    let past : a.i ≡ suc s + j = omega (arith, c.if-i-smoothing.false) in
    let volume : a.i - s ≡ 1 + j = omega (arith, c.if-i-smoothing.false) in
    ap (λ (k : ℕ). ltb 0 (get_or a.volumes k 0)) volume
    ∙ sym (used_past s a.volumes j)
    ∙ ap (λ (k : ℕ). get_or (used s a.volumes) k false) (sym past)

pub returns-then-i-smoothing : goal.returns-then-i-smoothing
returns-then-i-smoothing c =
    let a = c.args in
    le-leb a.i a.smoothing c.if-i-smoothing.true ∙ sym (used_to a.smoothing a.volumes a.i c.if-i-smoothing.true)
