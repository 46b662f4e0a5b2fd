-- Two lists of one length taken together, entry by entry, as lows and highs are to pairs; and a list whose entries are set one
-- after the other.
use mathlib.Core.Path.{◌≡◌, refl, sym, ap, subst, ◌∙◌}
use mathlib.Core.List.{List, [], ◌∷◌, ◌++◌, map, zip_with}
use Prim.Native.Nat.{ℕ, zero, suc, ◌+◌, ◌≤◌, ◌<◌}
use native.Mathlib.Numerals.{add-one}
use native.Mathlib.Omega.{arith}
use lib.ListN.{length, get_or, take, drop, set}
use lib.Seq.{take_all, take-suc, take-suc-set, length-take-le}
use Rattle.method.specs.Units.{Pair, pair, pairs_of}
use Rattle.method.specs.Quotes.{last_year}
use Rattle.method.specs.Ranges.{Each}
use Rattle.method.proofs.QuotesLaws.{last_year_more}
use Rattle.method.proofs.QuotesBounds.{each_at}

module _ {A B C : Type 0} (f : A → B → C) where
  pub zip_set : (xs : List A) (ys : List B) (i : ℕ) (a : A) (b : B) → zip_with f (set xs i a) (set ys i b) ≡ set (zip_with f xs ys) i (f a b)
  unfolding zip_with
  zip_set [] ys i a b = refl
  zip_set (x ∷ xs) [] zero a b = refl
  zip_set (x ∷ xs) [] (suc i) a b = refl
  zip_set (x ∷ xs) (y ∷ ys) zero a b = refl
  zip_set (x ∷ xs) (y ∷ ys) (suc i) a b = ap (λ (zs : List C). f x y ∷ zs) (zip_set xs ys i a b)

  pub zip_length : (xs : List A) (ys : List B) → length xs ≡ length ys → length (zip_with f xs ys) ≡ length xs
  unfolding zip_with
  zip_length [] ys h = refl
  zip_length (x ∷ xs) [] h = absurd (omega arith)
  zip_length (x ∷ xs) (y ∷ ys) h = ap suc (zip_length xs ys (omega arith))

  pub zip_at : (xs : List A) (ys : List B) (i : ℕ) (a : A) (b : B) → length xs ≡ length ys → get_or (zip_with f xs ys) i (f a b) ≡ f (get_or xs i a) (get_or ys i b)
  unfolding zip_with
  zip_at [] [] i a b h = refl
  zip_at [] (y ∷ ys) i a b h = absurd (omega arith)
  zip_at (x ∷ xs) [] i a b h = absurd (omega arith)
  zip_at (x ∷ xs) (y ∷ ys) zero a b h = refl
  zip_at (x ∷ xs) (y ∷ ys) (suc i) a b h = zip_at xs ys i a b (omega arith)

  -- either array again, where g takes its entries out
  pub zip_left : (g : C → A) → ((a : A) (b : B) → g (f a b) ≡ a) → (xs : List A) (ys : List B) → length xs ≡ length ys → map g (zip_with f xs ys) ≡ xs
  unfolding zip_with
  zip_left g e [] ys h = refl
  zip_left g e (x ∷ xs) [] h = absurd (omega arith)
  zip_left g e (x ∷ xs) (y ∷ ys) h = rw (e, zip_left g e xs ys (omega arith))

  pub zip_right : (g : C → B) → ((a : A) (b : B) → g (f a b) ≡ b) → (xs : List A) (ys : List B) → length xs ≡ length ys → map g (zip_with f xs ys) ≡ ys
  unfolding zip_with
  zip_right g e [] [] h = refl
  zip_right g e [] (y ∷ ys) h = absurd (omega arith)
  zip_right g e (x ∷ xs) [] h = absurd (omega arith)
  zip_right g e (x ∷ xs) (y ∷ ys) h = rw (e, zip_right g e xs ys (omega arith))

  pub zip_take : (n : ℕ) (xs : List A) (ys : List B) → take n (zip_with f xs ys) ≡ zip_with f (take n xs) (take n ys)
  unfolding zip_with
  zip_take zero xs ys = refl
  zip_take (suc n) [] ys = refl
  zip_take (suc n) (x ∷ xs) [] = refl
  zip_take (suc n) (x ∷ xs) (y ∷ ys) = ap (λ (zs : List C). f x y ∷ zs) (zip_take n xs ys)

  pub zip_drop : (n : ℕ) (xs : List A) (ys : List B) → drop n (zip_with f xs ys) ≡ zip_with f (drop n xs) (drop n ys)
  unfolding zip_with
  zip_drop zero xs ys = refl
  zip_drop (suc n) [] ys = refl
  zip_drop (suc n) (x ∷ xs) [] = zip_none (drop n xs)
    where
      zip_none : (xs : List A) → [] ≡ zip_with f xs []
      zip_none [] = refl
      zip_none (x ∷ xs) = refl
  zip_drop (suc n) (x ∷ xs) (y ∷ ys) = zip_drop n xs ys

  -- the first n of two arrays, once their entries at n are set
  pub zip_next : (xs : List A) (ys : List B) (n : ℕ) (a : A) (b : B) → length xs ≡ length ys → n < length xs →
      zip_with f (take (n + 1) (set xs n a)) (take (n + 1) (set ys n b)) ≡ zip_with f (take n xs) (take n ys) ++ f a b ∷ []
  zip_next xs ys n a b e h =
      let entry = take-suc-set (zip_with f xs ys) n (f a b) (rw (zip_length xs ys e) h) in
      rw (← zip_take (n + 1) (set xs n a) (set ys n b), zip_set xs ys n a b, add-one n, entry, zip_take n xs ys)

  pub zip_first : (xs : List A) (ys : List B) (n : ℕ) → length xs ≡ length ys → n ≤ length xs → length (zip_with f (take n xs) (take n ys)) ≡ n
  zip_first xs ys n e h = rw (← zip_take n xs ys) (length-take-le n (zip_with f xs ys) (rw (zip_length xs ys e) h))

-- ---- an entry is set

-- the entries before i are those of another list, and now the one at i too
pub front_more : {A : Type 0} (d : A) (xs ys : List A) (i : ℕ) {v : A} → i < length xs → i < length ys → v ≡ get_or ys i d →
    take i xs ≡ take i ys → take (i + 1) (set xs i v) ≡ take (i + 1) ys
front_more d xs ys i {v} h k e f = rw (add-one, take-suc-set xs i v h, take-suc ys i d k, f, e)

pub front_all : {A : Type 0} (xs ys : List A) (n : ℕ) → length xs ≡ n → length ys ≡ n → take n xs ≡ take n ys → xs ≡ ys
front_all xs ys n h k f = sym (take_all n xs (omega arith)) ∙ f ∙ take_all n ys (omega arith)

-- what holds of every entry, and of what stands past the end
pub all_set : {A : Type 0} (P : A → Type 0) (d : A) (xs : List A) (i : ℕ) {v : A} → ((j : ℕ) → P (get_or xs j d)) → P v → (j : ℕ) → P (get_or (set xs i v) j d)
all_set P d [] i h p j = h j
all_set P d (x ∷ xs) zero h p zero = p
all_set P d (x ∷ xs) zero h p (suc j) = h (suc j)
all_set P d (x ∷ xs) (suc i) h p zero = h 0
all_set P d (x ∷ xs) (suc i) h p (suc j) = all_set P d xs i (λ k. h (suc k)) p j

-- ---- pairs

module _ (lows highs : List ℕ) (same : length lows ≡ length highs) where
  pub pairs_last : (n : ℕ) → n < length lows → last_year (pairs_of (take (n + 1) lows) (take (n + 1) highs)) ≡ pair (get_or lows n 0) (get_or highs n 0)
  pairs_last n h =
      rw (← zip_take pair (n + 1) lows highs, add-one n, take-suc (pairs_of lows highs) n (pair 0 0) (rw (zip_length pair lows highs same) h))
      (last_year_more (take n (pairs_of lows highs)) _ ∙ zip_at pair lows highs n 0 0 same)

  pub pairs_each : {P : Pair → Type 0} → Each P (pairs_of lows highs) → (k : ℕ) → k < length lows → P (pair (get_or lows k 0) (get_or highs k 0))
  pairs_each {P} e k h = subst P (zip_at pair lows highs k 0 0 same) (each_at k (pair 0 0) e (rw (zip_length pair lows highs same) h))
