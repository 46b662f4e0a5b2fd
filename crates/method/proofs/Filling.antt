-- An array that a loop fills, one element after the other, with a list of the same length.
use mathlib.Core.Path.{◌≡◌, refl, sym, ◌∙◌}
use mathlib.Core.List.{List}
use Prim.Native.Nat.{ℕ, ◌+◌, ◌≤◌, ◌<◌}
use native.Mathlib.Numerals.{add-one}
use native.Mathlib.Omega.{arith}
use lib.ListN.{length, take, drop, get_or, set, length-set, length-take, length-drop}
use lib.Seq.{take-suc, take-suc-set, take_all, get_or-take, get_or-drop}

pub record Filled {A : Type 0} (l a : List A) (i : ℕ) : Type 0 where
  pub within : i ≤ length l
  pub long : length a ≡ length l
  pub same : take i a ≡ take i l

module _ {A : Type 0} (l a : List A) where
  pub filled_none : length a ≡ length l → Filled l a 0
  filled_none e = record { within = omega arith; long = e; same = refl }

  pub filled_more : (i : ℕ) (v d : A) → Filled l a i → i < length l → v ≡ get_or l i d → Filled l (set a i v) (i + 1)
  filled_more i v d f h e =
      let k : i < length a = omega (arith, f.long) in
      record {
        within = omega arith;
        long = length-set a i v ∙ f.long;
        same = rw (add-one, take-suc-set a i v k, take-suc l i d h, f.same, e);
      }

  pub filled_all : (i : ℕ) → Filled l a i → length l ≤ i → a ≡ l
  filled_all i f h = sym (take_all i a (omega (arith, f.long))) ∙ f.same ∙ take_all i l h

-- ---- the n elements from m on

module _ {A : Type 0} (m n : ℕ) (l : List A) where
  pub part_length : m + n ≤ length l → length (take n (drop m l)) ≡ n
  part_length h = simp (length-take, length-drop) (omega arith)

  pub part_at : (i : ℕ) (d : A) → i < n → get_or (take n (drop m l)) i d ≡ get_or l (m + i) d
  part_at i d h = rw (get_or-take, get_or-drop)
