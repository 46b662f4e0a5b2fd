-- What a remainder tells: the quotient toward zero, and one more where something is left, is the ceiling.
use mathlib.Core.Path.{◌≡◌, refl, sym, ap, subst, ◌∙◌}
use mathlib.Core.Bool.{true, false}
use Prim.Native.Nat.{ℕ, zero, suc, ◌+◌, ◌/◌, ◌%◌, ◌<◌}
use native.Mathlib.Omega.{arith}
use lib.Dec.{T, ltb→lt}
use lib.IntN.{ℤ, pos, negsuc, neg_ℤ, nat_abs, ◌+ℤ◌}
use lib.Signed.{lt_z, quot_z, rem_z, ◌<ℤ◌}
use borrow.Author.Tests.{ltb-true, ltb-false}
use Rattle.fraction.specs.Rounding.{ceiling, ceil_div}
use Rattle.fraction.proofs.Floor.{ceiling-pos}

-- ---- on naturals

pub ceil_div_left : (a b : ℕ) → 0 < b → 0 < a % b → a / b + 1 ≡ ceil_div a b
ceil_div_left a b p h = grind arith

pub ceil_div-exact : (a b : ℕ) → 0 < b → a % b ≡ 0 → a / b ≡ ceil_div a b
ceil_div-exact a b p h = grind arith

-- ---- on integers, by the test of the remainder's sign

above_zero : (r : ℕ) → lt_z (pos 0) (neg_ℤ (pos r)) ≡ false
above_zero zero = refl
above_zero (suc r) = refl

pub ceiling_left : (a b : ℤ) → pos 0 <ℤ b → lt_z (pos 0) (rem_z a b) ≡ true → quot_z a b +ℤ pos 1 ≡ ceiling a (nat_abs b)
ceiling_left a (negsuc b) h e = absurd h.lt
ceiling_left (pos a) (pos b) h e =
    let p = ltb→lt 0 b h.lt in
    ap pos (ceil_div_left a b p (ltb-true 0 (a % b) e)) ∙ sym (ceiling-pos a b p)
ceiling_left (negsuc a) (pos b) h e = absurd (subst T (sym e ∙ above_zero (suc a % b)) tt)

pub ceiling-exact : (a b : ℤ) → pos 0 <ℤ b → lt_z (pos 0) (rem_z a b) ≡ false → quot_z a b ≡ ceiling a (nat_abs b)
ceiling-exact a (negsuc b) h e = absurd h.lt
ceiling-exact (pos a) (pos b) h e =
    let p = ltb→lt 0 b h.lt in
    ap pos (ceil_div-exact a b p (omega (arith, ltb-false 0 (a % b) e))) ∙ sym (ceiling-pos a b p)
ceiling-exact (negsuc a) (pos b) h e = refl
