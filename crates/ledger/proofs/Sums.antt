-- The sums that the book holds are those of its curves' years.
use mathlib.Core.Path.{◌≡◌, refl, ap, ap₂, ◌∙◌}
use mathlib.Core.List.{List, [], ◌∷◌, map}
use Prim.Native.Nat.{ℕ, zero, suc, ◌+◌, ◌-◌, ◌≤◌, ◌<◌}
use native.Mathlib.Numerals.{add-one}
use native.Mathlib.Omega.{arith}
use lib.ListN.{length, get_or}
use Rattle.method.specs.Units.{pair}
use Rattle.method.specs.Curve.{Curve, Held, none, some}
use Rattle.method.specs.Enclosure.{low_of, high_of}
use Rattle.valuation.specs.Meaning.{sum_to}
use Rattle.ledger.specs.Sums.{Sums, running_from, sums_of, sums_of_held}
use Rattle.ledger.specs.Book.{sum_at}
use Rattle.ledger.specs.Count.{offsets}
use Rattle.ledger.specs.Demands.{every_year, sums_in, sums_in_held}

-- ---- running sums, by the year: what was there at first is the sum to year i, and the numbers are those of the years after it

running_is : (f : ℕ → ℕ) (i sum : ℕ) (xs : List ℕ) → sum ≡ sum_to f i → ((k : ℕ) → k < length xs → get_or xs k 0 ≡ f (suc (i + k))) →
    running_from sum xs ≡ map (sum_to f) (offsets (suc i) 1 (length xs))
unfolding running_from sum_to offsets
running_is f i sum [] e h = refl
running_is f i sum (x ∷ xs) e h =
    let first : i + 0 ≡ i = omega arith in
    let next : sum + x ≡ sum_to f (suc i) = rw (e, rw first at (h 0 (omega arith))) in
    let rest = running_is f (suc i) (sum + x) xs next
    (λ k l. let later : suc (i + suc k) ≡ suc (suc i + k) = omega arith in rw later at (h (suc k) (omega arith))) in
    rw (add-one (suc i)) (ap (λ (n : ℕ). n ∷ running_from (sum + x) xs) next ∙ ap (λ (ns : List ℕ). sum_to f (suc i) ∷ ns) rest)

at_year : (f : ℕ → ℕ) (i n k : ℕ) → k < n → get_or (map f (offsets i 1 n)) k 0 ≡ f (i + k)
unfolding offsets
at_year f i zero k h = absurd (omega (arith, h))
at_year f i (suc n) zero h = ap f (omega arith)
at_year f i (suc n) (suc k) h = at_year f (i + 1) n k (omega arith) ∙ ap f (omega arith)

-- ---- of a curve that has its 150 years

-- one side
side_is : (f : ℕ → ℕ) (xs : List ℕ) → length xs ≡ 150 → ((k : ℕ) → get_or xs k 0 ≡ f (suc k)) → running_from 0 xs ≡ map (sum_to f) every_year
unfolding sum_to
side_is f xs long h =
    running_is f 0 0 xs refl (λ k l. h k ∙ ap f (omega arith))
    ∙ ap (λ (n : ℕ). map (sum_to f) (offsets 1 1 n)) long

module _ (c : Curve) (lows : length c.lows ≡ 150) (highs : length c.highs ≡ 150) where
  pub sums_are : sums_of c ≡ sums_in c
  sums_are =
      ap₂ (λ (ls hs : List ℕ). record { lows = ls; highs = hs })
      (side_is (low_of c) c.lows lows (λ k. ap (λ (i : ℕ). get_or c.lows i 0) (omega arith)))
      (side_is (high_of c) c.highs highs (λ k. ap (λ (i : ℕ). get_or c.highs i 0) (omega arith)))

  pub sum_is : (y : ℕ) → 1 ≤ y → y ≤ 150 → sum_at (some (sums_of c)) y ≡ pair (sum_to (low_of c) y) (sum_to (high_of c) y)
  sum_is y h k =
      let year : 1 + (y - 1) ≡ y = omega arith in
      let low = at_year (sum_to (low_of c)) 1 150 (y - 1) (omega arith) ∙ ap (sum_to (low_of c)) year in
      let high = at_year (sum_to (high_of c)) 1 150 (y - 1) (omega arith) ∙ ap (sum_to (high_of c)) year in
      ap (λ (u : Sums). sum_at (some u) y) sums_are ∙ ap₂ pair low high

pub held_sums_are : (k : Held Curve) → ((c : Curve) → k ≡ some c → (length c.lows ≡ 150) × (length c.highs ≡ 150)) → sums_of_held k ≡ sums_in_held k
held_sums_are none h = refl
held_sums_are (some c) h = let years = h c refl in ap some (sums_are c years.0 years.1)
