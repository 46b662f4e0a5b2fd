-- The loop over κ's pairs: those from the index on are worked from P, and those before it are written.
use mathlib.Core.Path.{◌≡◌, refl, sym, ap, ◌∙◌}
use mathlib.Core.Bool.{true, false}
use mathlib.Core.List.{List, ◌∷◌, map}
use Prim.Native.Nat.{ℕ, zero, suc, ◌+◌, ◌-◌, ◌≤◌, ◌<◌}
use native.Mathlib.Numerals.{add-one}
use native.Mathlib.Nat.{le_refl}
use native.Mathlib.Omega.{arith}
use lib.ListN.{length, drop, get_or, set, length-map}
use lib.Seq.{drop-cons}
use Rattle.std.proofs.lemmas.List.{map-set}
use Rattle.fraction.specs.Rounding.{U}
use Rattle.method.specs.Units.{Pair, pair}
use Rattle.method.specs.Extrapolation.{scaled, cut_to_unit, weights_from}
use Rattle.method.proofs.Filling.{Filled, filled_none, filled_more, filled_all}
use Rattle.rounding.specs.Pairs as code
use Rattle.rounding.specs.Pairs.{as_pair, PairAtMost}
use Rattle.convergence.proofs.Sides.{power_most}

same_head : {x y : Pair} {xs ys : List Pair} → x ∷ xs ≡ y ∷ ys → (x ≡ y) × (xs ≡ ys)
same_head e = (cc, cc)

weights-length : (q m p : Pair) (count : ℕ) → length (weights_from q m p count) ≡ count
unfolding weights_from
weights-length q m p zero = refl
weights-length q m p (suc count) = ap suc (weights-length q m (scaled p q) count)

module _ (q m : Pair) where
  abbrev all : List Pair
  all = weights_from q m (pair U U) 140

  pub record Worked (κs : List code.Pair) (p : code.Pair) (i : ℕ) : Type 0 where
    pub filled : Filled all (map as_pair κs) i
    pub left : drop i all ≡ weights_from q m (as_pair p) (140 - i)
    pub power : PairAtMost U p

  pub at_start : (κs : List code.Pair) → length κs ≡ 140 → Worked κs (record { low = U; high = U }) 0
  at_start κs h =
      record {
        filled = filled_none all (map as_pair κs) (length-map κs as_pair ∙ h ∙ sym (weights-length q m (pair U U) 140));
        left = refl;
        power = record { low = le_refl U; high = le_refl U };
      }

module _ {q m : Pair} {κs : List code.Pair} {p : code.Pair} {i : ℕ} (d : Worked q m κs p i) where
  -- the pair of this index, and those after it
  module _ (h : i < 140) where
    next : (get_or (all q m) i (pair 0 0) ≡ cut_to_unit (scaled (as_pair p) m)) ×
        (drop (suc i) (all q m) ≡ weights_from q m (scaled (as_pair p) q) (140 - (i + 1)))
    unfolding weights_from
    next =
        let count : 140 - i ≡ suc (140 - (i + 1)) = omega arith in
        same_head (sym (drop-cons (all q m) i (pair 0 0) (rw (weights-length q m (pair U U) 140) h)) ∙ rw count at d.left)

    pub after_pair : {k p' : code.Pair} → as_pair k ≡ cut_to_unit (scaled (as_pair p) m) → as_pair p' ≡ scaled (as_pair p) q →
        q.low ≤ U → q.high ≤ U → Worked q m (set κs i k) p' (i + 1)
    after_pair {k} {p'} e f low high =
        record {
          filled =
              rw (map-set as_pair κs i k)
              (filled_more (all q m) (map as_pair κs) i (as_pair k) (pair 0 0) d.filled (rw (weights-length q m (pair U U) 140) h) (e ∙ sym next.0));
          left = rw f (rw (← add-one i) at next.1);
          power =
              record {
                low = rw (ap (λ (r : Pair). r.low) f) (power_most false d.power.low low);
                high = rw (ap (λ (r : Pair). r.high) f) (power_most true d.power.high high);
              };
        }

  pub all_pairs : 140 ≤ i → map as_pair κs ≡ weights_from q m (pair U U) 140
  all_pairs h = filled_all (all q m) (map as_pair κs) i d.filled (rw (weights-length q m (pair U U) 140) h)
