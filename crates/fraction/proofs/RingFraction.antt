-- The ring solver at the fractions: `ring_ℚ (x ∷ y ∷ []) e f tt` proves e ≈ f, variables numbered from 0.
use mathlib.Core.Path.{◌≡◌}
use mathlib.Core.List.{List, [], ◌∷◌}
use Prim.Native.Nat.{ℕ, ◌+◌, ◌*◌}
use native.Mathlib.Nat.{zero-lt-suc}
use native.Mathlib.Omega.{arith}
use lib.Dec.{T}
use Rattle.fraction.specs.Fraction.{ℚ, ◌≈◌, nat_ℚ, ◌+ℚ◌, neg_ℚ, ◌*ℚ◌}
use Rattle.fraction.proofs.Order.{≈-refl, ≈-sym, ≈-trans}
use Rattle.fraction.proofs.Sum.{+ℚ-cong, +ℚ-comm, +ℚ-assoc}
use Rattle.fraction.proofs.Product.{*ℚ-cong, *ℚ-comm, *ℚ-assoc, *ℚ-+ℚ}
use Rattle.fraction.proofs.Ring.{Expression, var, con, ◌⊕◌, ◌⊗◌, Laws, eval, solve, identical}

-- p - m
unfoldable pub literal : ℕ → ℕ → ℚ
literal p m = record { p = p; m = m; d = 1; d_pos = zero-lt-suc 0 }

cancel_core : (px mx dx py my dy : ℕ) →
    (px * dy + my * dx) * 1 + 0 * (dx * dy) ≡ 0 * (dx * dy) + (mx * dy + py * dx) * 1 → px * dy + my * dx ≡ py * dx + mx * dy
cancel_core px mx dx py my dy h = omega arith

pub laws : Laws ℚ ◌≈◌ ◌+ℚ◌ ◌*ℚ◌ neg_ℚ nat_ℚ literal
unfolding ◌+ℚ◌ ◌*ℚ◌ neg_ℚ nat_ℚ literal
laws =
    record {
      rfl = ≈-refl;
      sy = λ a b h. ≈-sym h;
      tr = λ a b c h k. ≈-trans h k;
      add_cong = λ a b c d h k. +ℚ-cong h k;
      mul_cong = λ a b c d h k. *ℚ-cong h k;
      add_comm = +ℚ-comm;
      add_assoc = +ℚ-assoc;
      mul_comm = *ℚ-comm;
      mul_assoc = *ℚ-assoc;
      mul_add = *ℚ-+ℚ;
      lit_add = λ p m p' m'. omega arith;
      lit_mul = λ p m p' m'. omega arith;
      lit_zero = λ p m h. omega arith;
      add-zero = λ a. omega arith;
      mul-zero = λ a. omega arith;
      mul_one = λ a. omega arith;
      neg_is = λ a. omega arith;
      nat_is = λ n. omega arith;
      cancel = λ a b h. record { eq = cancel_core a.p a.m a.d b.p b.m b.d h.eq };
    }

abbrev pub eval_ℚ : List ℚ → Expression → ℚ
eval_ℚ = eval ℚ ◌≈◌ ◌+ℚ◌ ◌*ℚ◌ neg_ℚ nat_ℚ literal laws

pub ring_ℚ : (s : List ℚ) (e f : Expression) → T (identical e f) → eval_ℚ s e ≈ eval_ℚ s f
ring_ℚ = solve ℚ ◌≈◌ ◌+ℚ◌ ◌*ℚ◌ neg_ℚ nat_ℚ literal laws

-- a worked use
square_of_sum : (x y : ℚ) → (x +ℚ y) *ℚ (x +ℚ y) ≈ x *ℚ x +ℚ (nat_ℚ 2 *ℚ (x *ℚ y) +ℚ y *ℚ y)
square_of_sum x y =
    ring_ℚ (x ∷ y ∷ []) ((var 0 ⊕ var 1) ⊗ (var 0 ⊕ var 1)) (var 0 ⊗ var 0 ⊕ (con 2 ⊗ (var 0 ⊗ var 1) ⊕ var 1 ⊗ var 1)) tt
