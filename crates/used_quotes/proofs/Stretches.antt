-- The five stretches from 15 to 50, gap by gap.
use mathlib.Core.Path.{◌≡◌, refl, subst}
use mathlib.Core.Bool.{Bool, true, cond}
use mathlib.Core.List.{List, [], ◌∷◌}
use Prim.Native.Nat.{ℕ, ◌+◌}
use lib.Dec.{ltb}
use lib.ListN.{length, drop, get_or}
use Rattle.method.specs.Quotes.{used}
use Rattle.method.specs.Curve.{spread}
use Rattle.method.proofs.Entries.{spelled_out}
use Rattle.method.proofs.Used.{spread_from}

-- whether the quote beside volume i is used, past the smoothing year's
abbrev pub mark : List ℕ → ℕ → Bool
mark vs i = ltb 0 (get_or vs i 0)

-- the marks from the smoothing year's on
pub marks_are : (vs : List ℕ) → length vs ≡ 5 →
    drop 12 (used 12 vs) ≡ true ∷ mark vs 1 ∷ mark vs 2 ∷ mark vs 3 ∷ mark vs 4 ∷ []
unfolding used
marks_are vs five =
    subst (λ (v : List ℕ). drop 12 (used 12 v) ≡ true ∷ mark v 1 ∷ mark v 2 ∷ mark v 3 ∷ mark v 4 ∷ []) (spelled_out 0 vs five) refl

-- the gap after a quote
abbrev pub after : Bool → ℕ → ℕ
after u gap = cond u (gap + 1) gap

pub five_stretches : {A : Type 0} (d : A) (xs : List A) (i : ℕ) (to25 to30 to40 to50 : Bool) →
    let second = i + 1 in
    let third = after to25 second in
    let fourth = after to30 third in
    let fifth = after to40 fourth in
    spread d (true ∷ to25 ∷ to30 ∷ to40 ∷ to50 ∷ []) (drop i xs)
    ≡ get_or xs i d ∷ get_or xs second d ∷ get_or xs third d ∷ get_or xs fourth d ∷ get_or xs fifth d ∷ []
unfolding spread
five_stretches d xs i to25 to30 to40 to50 =
    rw (spread_from d true _ i xs, spread_from d to25 _ _ xs, spread_from d to30 _ _ xs, spread_from d to40 _ _ xs, spread_from d to50 _ _ xs) refl
