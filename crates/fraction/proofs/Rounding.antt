-- The rounding fact: for every operation that rounds, rounded down ≤ exact ≤ rounded up.
use mathlib.Core.List.{List, [], ◌∷◌}
use Prim.Native.Nat.{ℕ, ◌<◌}
use lib.Dec.{lit<}
use lib.IntN.{ℤ, ◌*ℤ◌}
use Rattle.fraction.specs.Fraction.{ℚ, ◌≈◌, nat_ℚ, int_ℚ, ◌÷◌}
use Rattle.fraction.specs.Rounding.{U, floor, ceiling, Product, Operation, sum, scaled, quotient, weighted}
use Rattle.fraction.specs.Rounding.{sum_of_products, whole_sum, exact, rounded_down, rounded_up, Encloses}
use Rattle.fraction.proofs.Order.{≤ℚ-≈-trans, ≈-≤ℚ-trans, ≈→≤, ≈→≥, ≈-refl, ≈-sym, ≈-trans}
use Rattle.fraction.proofs.Sum.{+ℚ-cong}
use Rattle.fraction.proofs.Integer.{int_ℚ-pos, intℚ-+, intℚ-*}
use Rattle.fraction.proofs.Quotient.{÷-cong-left}
use Rattle.fraction.proofs.Floor.{floor-≤, ceiling-≥}

pub U-positive : 0 < U
U-positive = lit< tt

pub whole_sum-exact : (ts : List Product) → int_ℚ (whole_sum ts) ≈ sum_of_products ts
unfolding whole_sum sum_of_products
whole_sum-exact [] = int_ℚ-pos 0
whole_sum-exact (t ∷ ts) =
    ≈-trans (intℚ-+ (t.weight *ℤ t.value) (whole_sum ts)) (+ℚ-cong (intℚ-* t.weight t.value) (whole_sum-exact ts))

-- an integer numerator that equals an exact one
rounds : (z : ℤ) (x : ℚ) {d : ℕ} → 0 < d → int_ℚ z ≈ x → Encloses (floor z d) (ceiling z d) (x ÷ nat_ℚ d)
rounds z x {d} h e =
    record {
      below = ≤ℚ-≈-trans (floor-≤ z h) (÷-cong-left (nat_ℚ d) e);
      above = ≈-≤ℚ-trans (÷-cong-left (nat_ℚ d) (≈-sym e)) (ceiling-≥ z h);
    }

pub rounding : (o : Operation) → Encloses (rounded_down o) (rounded_up o) (exact o)
unfolding exact rounded_down rounded_up
rounding (sum a b) = record { below = ≈→≤ (intℚ-+ a b); above = ≈→≥ (intℚ-+ a b) }
rounding (scaled a b) = rounds (a *ℤ b) _ U-positive (intℚ-* a b)
rounding (quotient a d h) = rounds a _ h (≈-refl (int_ℚ a))
rounding (weighted ts d h) = rounds (whole_sum ts) _ h (whole_sum-exact ts)
