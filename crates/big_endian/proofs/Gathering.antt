-- The bytes of a number, gathered one after the other.
use mathlib.Core.Path.{◌≡◌, sym, ap, ◌∙◌}
use mathlib.Core.List.{List}
use Prim.Native.Nat.{ℕ, ◌+◌, ◌*◌, ◌^◌, ◌≤◌, ◌<◌}
use native.Mathlib.Nat.{pow-suc, pow-le-pow_right, zero-lt-suc}
use native.Mathlib.Numerals.{add-one}
use native.Mathlib.Omega.{arith}
use lib.ListN.{length, drop, get_or, drop_of_length-le}
use lib.Seq.{drop-cons}
use Rattle.method.specs.Bytes.{big_endian}

-- n is the number of the first i bytes: what is left of the bytes, read on from n, is the whole
pub record Gathered (bytes : List ℕ) (n i : ℕ) : Type 0 where
  pub whole : big_endian 0 bytes ≡ big_endian n (drop i bytes)
  pub below : n < 256 ^ i

module _ (bytes : List ℕ) where
  pub gathered_more : (n i b : ℕ) → Gathered bytes n i → i < length bytes → b ≡ get_or bytes i 0 → b < 256 → Gathered bytes (n * 256 + b) (i + 1)
  unfolding big_endian
  gathered_more n i b g h e small =
      record {
        whole = g.whole ∙ rw (add-one, drop-cons bytes i 0, e);
        below = omega (arith, g.below, ap (λ (k : ℕ). 256 ^ k) (add-one i) ∙ pow-suc 256 i);
      }

  -- six bytes leave room for one more
  pub gathered_room : (n i : ℕ) → Gathered bytes n i → i < length bytes → length bytes ≤ 7 → n < 2 ^ 48
  gathered_room n i g h most = omega (arith, g.below, pow-le-pow_right {n = 256} (zero-lt-suc 255) {i = i} {j = 6} (omega arith))

  pub gathered_all : (n i : ℕ) → Gathered bytes n i → i ≡ length bytes → (n ≡ big_endian 0 bytes) × (n < 256 ^ length bytes)
  unfolding big_endian
  gathered_all n i g e =
      let all : length bytes ≤ i = omega arith in
      (sym (rw (drop_of_length-le bytes all) at g.whole), rw e at g.below)
