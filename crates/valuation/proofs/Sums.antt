-- Between sums of lows and of highs lie the sums of whatever these hold; and a block's sum is the one over its entries by their places.
use mathlib.Core.Path.{◌≡◌, refl, ap, sym, ◌∙◌}
use mathlib.Core.List.{List, [], ◌∷◌}
use Prim.Native.Nat.{ℕ, zero, suc, ◌+◌, ◌*◌, ◌-◌, ◌≤◌}
use native.Mathlib.Omega.{arith}
use lib.IntN.{pos}
use lib.ListN.{length}
use Rattle.fraction.specs.Fraction.{ℚ, sum_ℚ}
use Rattle.fraction.specs.Rounding.{Encloses}
use Rattle.fraction.proofs.Enclosure.{encloses_exact, encloses-≈, encloses-+}
use Rattle.fraction.proofs.Integer.{int_ℚ-pos}
use Rattle.valuation.specs.Block.{Flow, block_sum}
use Rattle.valuation.specs.Meaning.{entry_at, sum_to, cost_of}

pub sum_encloses : (low high : ℕ → ℕ) (x : ℕ → ℚ) (y : ℕ) → ((t : ℕ) → 1 ≤ t → t ≤ y → Encloses (pos (low t)) (pos (high t)) (x t)) →
    Encloses (pos (sum_to low y)) (pos (sum_to high y)) (sum_ℚ (λ i. x (suc i)) y)
unfolding sum_to sum_ℚ
sum_encloses low high x zero h = encloses-≈ (int_ℚ-pos 0) (encloses_exact (pos 0))
sum_encloses low high x (suc y) h = encloses-+ (sum_encloses low high x y (λ t a b. h t a (omega arith))) (h (suc y) (omega arith) (omega arith))

-- ---- a block's sum

-- the first apart, and the others one place earlier
sum_later : (f g : ℕ → ℕ) (t : ℕ) → ((i : ℕ) → f (suc (suc i)) ≡ g (suc i)) → sum_to f (suc t) ≡ f 1 + sum_to g t
unfolding sum_to
sum_later f g zero e = omega arith
sum_later f g (suc t) e = let rest = sum_later f g t e in omega (arith, rest, e t)

pub cost_is : (number : ℕ → ℕ) (fs : List Flow) → block_sum number fs ≡ cost_of number fs
unfolding block_sum sum_to
cost_is number [] = refl
cost_is number (f ∷ fs) =
    ap (λ (n : ℕ). f.cents * number f.year + n) (cost_is number fs)
    ∙ sym (sum_later (λ i. cost (entry_at (f ∷ fs) i)) (λ i. cost (entry_at fs i)) (length fs) (λ i. ap cost (later i)))
  where
    cost : Flow → ℕ
    cost x = x.cents * number x.year

    later : (i : ℕ) → entry_at (f ∷ fs) (suc (suc i)) ≡ entry_at fs (suc i)
    later i =
        let e : suc (suc i) - 1 ≡ suc i = omega arith in
        let d : suc i - 1 ≡ i = omega arith in
        rw (e, d)
