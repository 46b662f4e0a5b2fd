-- κ's ends by their side: each is the definition's, in its range.
use mathlib.Core.Path.{◌≡◌, refl}
use mathlib.Core.Bool.{Bool, true, false, not}
use mathlib.Core.List.{List, map}
use Prim.Native.Nat.{ℕ, suc, ◌*◌, ◌-◌, ◌≤◌, ◌<◌}
use native.Mathlib.Nat.{le_trans, mul-le-mul_left}
use native.Mathlib.Omega.{arith}
use lib.ListN.{get_or}
use Rattle.fraction.specs.Fraction.{nat_ℚ, ◌÷◌}
use Rattle.fraction.specs.Rounding.{U, round_ℕ}
use Rattle.method.specs.Units.{pair, end_of}
use Rattle.method.specs.Extrapolation.{decay_pair, weights}
use Rattle.method.specs.True.{convergence}
use Rattle.method.proofs.Forward.{Weighs, weight_ordered}
use Rattle.method.proofs.Weights.{weights_weigh}
use Rattle.method.proofs.Quotients.{round-≤}
use Rattle.rounding.specs.Pairs as code
use Rattle.rounding.specs.Pairs.{as_pair}
use Rattle.series.specs.Sides.{growth_by}
use Rattle.series.proofs.Exponential.{growth_least}
use Rattle.convergence.specs.Weights.{Factor, Weight, WeightsOf}

-- ---- M and P stay in their ranges

pub scale_most : (up : Bool) (a q : ℕ) → 10_000_000 ≤ a → round_ℕ up ((U - q) * 100_000_000) a ≤ 10 * U
scale_most up a q h = round-≤ up (omega arith) (omega arith)

-- P does not grow
pub power_most : (up : Bool) {p q : ℕ} → p ≤ U → q ≤ U → round_ℕ up (p * q) U ≤ U
power_most up {p} {q} h k = round-≤ up (omega arith) (le_trans (mul-le-mul_left p k) (omega arith))

-- ---- q

pub decay_is : (up : Bool) (a : ℕ) → round_ℕ up (U * U) (growth_by (not up) (10 * a)) ≡ end_of up (decay_pair a)
unfolding decay_pair
decay_is true a = refl
decay_is false a = refl

pub decay_most : (up : Bool) (a : ℕ) → end_of up (decay_pair a) ≤ U
decay_most up a =
    let divisor = growth_least (not up) (10 * a) in
    rw (← decay_is up a) (round-≤ up (omega arith) (mul-le-mul_left U divisor))

-- ---- the pairs of a factor hold U × k(h)

pub weights_of : (a : ℕ) (κs : List code.Pair) → Factor a → map as_pair κs ≡ weights a 140 → WeightsOf a κs
weights_of a κs f e = record { pairs = e; weigh = weigh }
  where
    weighs : (n i : ℕ) → i < 140 → Weighs (get_or (map as_pair κs) i (pair 0 0)) (convergence n (nat_ℚ a ÷ nat_ℚ 100_000_000) (suc i))
    weighs n i h = rw e (weights_weigh n a 140 f.least f.most (omega arith) i h)

    weigh : (i : ℕ) → i < 140 → Weight a (suc i) (get_or (map as_pair κs) i (pair 0 0))
    weigh i h =
        record { ordered = weight_ordered (weighs 0 i h); at_most_U = (weighs 0 i h).at_most_U; holds = λ n. (weighs n i h).weight }
