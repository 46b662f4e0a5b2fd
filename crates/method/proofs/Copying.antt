-- An array whose first entries a loop copies from another.
use mathlib.Core.Path.{◌≡◌}
use mathlib.Core.List.{List, ◌++◌}
use Prim.Native.Nat.{ℕ, ◌+◌, ◌≤◌, ◌<◌}
use native.Mathlib.Nat.{zero-add}
use native.Mathlib.Numerals.{add-one}
use native.Mathlib.Omega.{arith}
use lib.ListN.{length, take, drop, get_or, set}
use lib.Seq.{paste-suc}

-- a is d, with i entries from s
pub record Copied (d s a : List ℕ) (n i : ℕ) : Type 0 where
  pub within : i ≤ n
  pub room : n ≤ length d
  pub enough : n ≤ length s
  pub copied : a ≡ take i s ++ drop i d

module _ (d s a : List ℕ) (n : ℕ) where
  pub copied_none : n ≤ length d → n ≤ length s → a ≡ d → Copied d s a n 0
  copied_none h k e = record { within = omega arith; room = h; enough = k; copied = e }

  pub copied_more : (i : ℕ) → Copied d s a n i → i < n → Copied d s (set a i (get_or s i 0)) n (i + 1)
  copied_more i f h =
      record {
        within = omega arith;
        room = f.room;
        enough = f.enough;
        copied = rw (f.copied, add-one) (simp zero-add at (paste-suc d 0 s i 0 (omega arith) (omega arith)));
      }

  pub copied_all : (i : ℕ) → Copied d s a n i → n ≤ i → a ≡ take n s ++ drop n d
  copied_all i f h =
      let e : i ≡ n = omega arith in
      rw (← e) f.copied
