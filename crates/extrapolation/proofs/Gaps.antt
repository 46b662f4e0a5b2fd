-- The loop over the five gaps: the forwards before i are those of the definition, and every entry is small.
use mathlib.Core.Path.{◌≡◌, refl, sym, ap, ◌∙◌}
use mathlib.Core.List.{List, map}
use Prim.Native.Nat.{ℕ, zero, suc, ◌+◌, ◌≤◌, ◌<◌}
use native.Mathlib.Omega.{arith}
use lib.ListN.{length, get_or, set, replicate, length-map, get_or-map}
use Rattle.std.proofs.lemmas.List.{map-set}
use Rattle.method.specs.Units as method
use Rattle.method.specs.Units.{pair}
use Rattle.method.specs.Ranges.{logarithm_bound}
use Rattle.method.specs.Series.{gap_forward}
use Rattle.method.proofs.Filling.{Filled, filled_none, filled_more, filled_all}
use Rattle.method.proofs.Zips.{all_set}
use Rattle.rounding.specs.Pairs.{Pair, SignedPair, as_pair, as_signed_pair, SizeAtMost}
use Rattle.extrapolation.specs.Extrapolated.{Forwards, as_forwards, no_forward, ForwardSizes}

abbrev forwards : List Pair → List method.SignedPair
forwards xs = map gap_forward (map as_pair xs)

pub record Worked (xs : List Pair) (g : Forwards) (i : ℕ) : Type 0 where
  pub filled : Filled (forwards xs) (as_forwards g) i
  pub small : ForwardSizes logarithm_bound g

replicated : {A : Type 0} (a : A) (n j : ℕ) → get_or (replicate n a) j a ≡ a
replicated a zero j = refl
replicated a (suc n) zero = refl
replicated a (suc n) (suc j) = replicated a n j

-- whatever the array was
pub all_small : (M n : ℕ) → ForwardSizes M (replicate n no_forward)
all_small M n = record { sizes = λ i. rw (replicated no_forward n i) (record { low_size = omega arith; high_size = omega arith }) }

forwards_length : (xs : List Pair) → length xs ≡ 5 → length (forwards xs) ≡ 5
forwards_length xs long = length-map (map as_pair xs) gap_forward ∙ length-map xs as_pair ∙ long

module _ {xs : List Pair} (long : length xs ≡ 5) where
  pub no_gap : Worked xs (replicate 5 no_forward) 0
  no_gap =
      record {
        filled = filled_none (forwards xs) (as_forwards (replicate 5 no_forward)) (sym (forwards_length xs long));
        small = all_small logarithm_bound 5;
      }

  module _ {g : Forwards} {i : ℕ} (d : Worked xs g i) where
    pub after_gap : (f : SignedPair) → i < 5 → as_signed_pair f ≡ gap_forward (as_pair (get_or xs i (record { low = 0; high = 0 }))) →
        SizeAtMost logarithm_bound f → Worked xs (set g i f) (i + 1)
    after_gap f h e b =
        let x = get_or-map as_pair xs i (record { low = 0; high = 0 }) in
        let all = forwards_length xs long in
        let entry = get_or-map gap_forward (map as_pair xs) i (pair 0 0) ∙ ap gap_forward x in
        record {
          filled =
              rw (map-set as_signed_pair g i f)
              (filled_more (forwards xs) (as_forwards g) i (as_signed_pair f) (gap_forward (pair 0 0)) d.filled (rw all h) (e ∙ sym entry));
          small = record { sizes = all_set (SizeAtMost logarithm_bound) no_forward g i d.small.sizes b };
        }

    pub all_gaps : 5 ≤ i → as_forwards g ≡ forwards xs
    all_gaps h = filled_all (forwards xs) (as_forwards g) i d.filled (rw (forwards_length xs long) h)
