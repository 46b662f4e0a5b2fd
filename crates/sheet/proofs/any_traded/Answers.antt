-- Something was traded where one of the volumes is above 0.
use mathlib.Core.Path.{◌≡◌, refl, ◌∙◌}
use mathlib.Core.Bool.{Bool}
use mathlib.Core.List.{List, [], ◌∷◌, map}
use Prim.Native.Nat.{zero, suc, ◌+◌, ◌-◌}
use native.Mathlib.Omega.{arith}
use borrow.Author.Tests.{lt-ltb}
use lib.Dec.{ltb}
use lib.IntN.{ℤ, pos, negsuc, nat_abs}
use lib.ListN.{take, drop}
use Rattle.std.specs.List.{list_any}
use Rattle.std.proofs.Common.{rules, tests}
use Rattle.std.proofs.lemmas.Iterator.{YieldsList-from_slice}
use Rattle.std.proofs.lemmas.Iterator.Search.{any_from_yields_List}
use Rattle.method.proofs.Slots.{slots_least}
use Rattle.method.specs.Sheet.{volume_count, volume_index, total}
use Rattle.sheet.specs.Views.{as_layout}
use Rattle.sheet.proofs.any_traded.Goals as goal

abbrev above_0 : ℤ → Bool
above_0 z = ltb 0 (nat_abs z)

any_total : (zs : List ℤ) → list_any above_0 zs ≡ ltb 0 (total (map nat_abs zs))
unfolding total
any_total [] = refl
any_total (pos zero ∷ zs) = let e : 0 + total (map nat_abs zs) ≡ total (map nat_abs zs) = omega arith in rw e (any_total zs)
any_total (pos (suc n) ∷ zs) = rw (lt-ltb 0 (suc n) (omega arith), lt-ltb 0 (suc n + total (map nat_abs zs)) (omega arith)) refl
any_total (negsuc n ∷ zs) = rw (lt-ltb 0 (suc n) (omega arith), lt-ltb 0 (suc n + total (map nat_abs zs)) (omega arith)) refl

pub slice_bounds-volumes-end : goal.slice_bounds-volumes-end
slice_bounds-volumes-end c = omega (arith, c.requires.count, slots_least (as_layout c.args.layout), c.ultimate_index.ensures.0)

pub returns : goal.returns
returns c =
    let l = as_layout c.args.layout in
    let zs = c.args.numbers.now in
    let count : c.ultimate_index.result - c.volume_index.result ≡ volume_count l.profile =
    omega (arith, c.ultimate_index.ensures.0, c.volume_index.ensures.0) in
    let xs = take (volume_count l.profile) (drop (volume_index l) zs) in
    any_from_yields_List above_0 _ _ c.any.result c.any.ensures.ran (YieldsList-from_slice xs (rw (← count, ← c.volume_index.ensures.0) c.iter.ensures.rest))
    (λ x b q k. search (rules, tests))
    ∙ any_total xs
