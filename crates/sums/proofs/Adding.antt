-- Running sums, one factor on.
use mathlib.Core.Path.{◌≡◌, refl, ap}
use mathlib.Core.List.{List, [], ◌∷◌}
use Prim.Native.Nat.{ℕ, zero, suc, ◌+◌, ◌<◌}
use native.Mathlib.Omega.{arith}
use lib.ListN.{length, get_or}
use Rattle.ledger.specs.Sums.{running_from}

pub running_length : (sum : ℕ) (xs : List ℕ) → length (running_from sum xs) ≡ length xs
unfolding running_from
running_length sum [] = refl
running_length sum (x ∷ xs) = ap suc (running_length (sum + x) xs)

-- the sum before the factor at an index, and what was there at first before all of them
abbrev pub before : ℕ → List ℕ → ℕ → ℕ
before sum xs i = get_or (sum ∷ running_from sum xs) i 0

pub next_sum : (sum : ℕ) (xs : List ℕ) (i : ℕ) → i < length xs → get_or (running_from sum xs) i 0 ≡ before sum xs i + get_or xs i 0
unfolding running_from
next_sum sum [] i h = absurd (omega (arith, h))
next_sum sum (x ∷ xs) zero h = refl
next_sum sum (x ∷ xs) (suc i) h = next_sum (sum + x) xs i (omega arith)
