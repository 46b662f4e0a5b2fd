-- The history of a count: what each withdrawal in turn would bring back, as deep as the count says.
use mathlib.Core.Path.{◌≡◌, ap, ◌∙◌}
use mathlib.Core.List.{List, [], ◌∷◌}
use Prim.Native.Nat.{ℕ, suc, ◌+◌, ◌≤◌, ◌<◌, min}
use native.Mathlib.Omega.{arith}
use borrow.Author.Tests.{leb-true, leb-false}
use lib.Dec.{leb}
use lib.ListN.{take, length-take}
use lib.Seq.{take-take, take_all}
use Rattle.method.specs.Curve.{Held, some}
use Rattle.method.proofs.Outcome.{split}
use Rattle.ledger.specs.History.{History, with_post}
use Rattle.ledger.specs.Count.{latest}

abbrev pub ways : List (List ℕ) → List (Held (List ℕ))
ways [] = []
ways (s ∷ ss) = latest ss ∷ ways ss

abbrev pub history_of : List (List ℕ) → ℕ → History
history_of ss depth = record { sheet = latest ss; below = take depth (ways ss) }

pub take_both : {A : Type 0} (m n : ℕ) (l : List A) → take m (take n l) ≡ take (min m n) l
take_both m n l = split (leb m n) (λ q. fewer (leb-true m n q)) (λ q. more (leb-false m n q))
  where
    fewer : m ≤ n → take m (take n l) ≡ take (min m n) l
    fewer h = let e : min m n ≡ m = omega arith in rw e (take-take m n l h)

    more : n < m → take m (take n l) ≡ take (min m n) l
    more h = let e : min m n ≡ n = omega arith in rw e (take_all m (take n l) (omega (arith, length-take n l)))

-- what stood is the first of the ways back, and a fourth is forgotten
pub posted_history : (s : List ℕ) (ss : List (List ℕ)) (depth : ℕ) → with_post s (history_of ss depth) ≡ history_of (s ∷ ss) (min (depth + 1) 3)
posted_history s ss depth =
    let deeper : suc (min 2 depth) ≡ min (depth + 1) 3 = omega arith in
    ap (λ (ks : List (Held (List ℕ))). record { sheet = some s; below = latest ss ∷ ks }) (take_both 2 depth (ways ss))
    ∙ ap (history_of (s ∷ ss)) deeper
