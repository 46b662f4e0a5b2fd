-- Bytes read behind those that are held.
use Rattle.std.proofs.Common.{◌≡◌, ℕ, ◌+◌, ◌-◌, ◌<◌, List, ◌++◌, length, take, drop, sym, ap, ◌∙◌, arith}
use Rattle.std.proofs.Common.{length-take-le, take_at, take-add}
use native.Mathlib.Nat.{add-sub_cancel_left}

-- what stands before a part that is written stays, and the part is behind it
pub read_behind : (entry part : List ℕ) (held got : ℕ) → held < length entry →
    let exit = take held entry ++ part in
    take (held + got) exit ≡ take held entry ++ take (held + got - held) (drop held exit)
read_behind entry part held got h =
    let exit = take held entry ++ part in
    take-add held got exit
    ∙ ap (λ (l : List ℕ). l ++ take got (drop held exit)) (take_at (take held entry) part held (length-take-le held entry (omega arith)))
    ∙ ap (λ (n : ℕ). take held entry ++ take n (drop held exit)) (sym (add-sub_cancel_left held got))
