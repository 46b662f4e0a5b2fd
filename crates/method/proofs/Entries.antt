-- The entries of a list: spelled out one by one, by its length; under a map.
use mathlib.Core.Path.{◌≡◌, refl, ap, subst, ◌∙◌}
use mathlib.Core.List.{List, [], ◌∷◌, map}
use Prim.Native.Nat.{ℕ, zero, suc, ◌<◌}
use native.Mathlib.Omega.{arith}
use lib.ListN.{length, get_or}

module _ {A : Type 0} (d : A) where
  -- n entries from index i on
  abbrev pub entries : List A → ℕ → ℕ → List A
  entries xs i zero = []
  entries xs i (suc n) = get_or xs i d ∷ entries xs (suc i) n

  entries_tail : (x : A) (xs : List A) (i n : ℕ) → entries (x ∷ xs) (suc i) n ≡ entries xs i n
  entries_tail x xs i zero = refl
  entries_tail x xs i (suc n) = ap {B = List A} (λ r. get_or xs i d ∷ r) (entries_tail x xs (suc i) n)

  all_entries : (xs : List A) → entries xs 0 (length xs) ≡ xs
  all_entries [] = refl
  all_entries (x ∷ xs) = ap {B = List A} (λ r. x ∷ r) (entries_tail x xs 0 (length xs) ∙ all_entries xs)

  pub spelled_out : (xs : List A) {n : ℕ} → length xs ≡ n → entries xs 0 n ≡ xs
  spelled_out xs e = subst (λ (n : ℕ). entries xs 0 n ≡ xs) e (all_entries xs)

-- below the length, whatever stands for an entry past the end
pub map_at : {A B : Type 0} (f : A → B) (xs : List A) (i : ℕ) (d : A) (e : B) → i < length xs → get_or (map f xs) i e ≡ f (get_or xs i d)
map_at f [] i d e h = absurd (omega arith)
map_at f (x ∷ xs) zero d e h = refl
map_at f (x ∷ xs) (suc i) d e h = map_at f xs i d e (omega arith)
