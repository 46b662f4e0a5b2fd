-- The ceiling over a positive number by the quotient toward zero and a test of the remainder, on numbers that the machine stores as bits.
use mathlib.Core.Path.{◌≡◌, ap, ◌∙◌}
use mathlib.Core.Bool.{true, false}
use lib.IntN.{ℤ, pos, nat_abs, ◌+ℤ◌}
use lib.Signed.{mag_rem, lt_z, quot_z, rem_z, ◌<ℤ◌}
use mir.Syntax.{w64}
use mir.Val.{SFits}
use mir.ValLaws.{to_z-of_z, sfits_le}
use Rattle.fraction.specs.Rounding.{ceiling}
use Rattle.rounding.proofs.Bounds.{ceiling-mag, quot_mag}
use Rattle.rounding.proofs.Machine.{stored}
use Rattle.rounding.proofs.Remainder.{ceiling_left, ceiling-exact}

-- the operands are read back from bits, and so is the result
abbrev quotient : ℤ → ℤ → ℤ
quotient a b = stored (quot_z (stored a) (stored b))

abbrev remainder : ℤ → ℤ → ℤ
remainder a b = stored (rem_z (stored a) (stored b))

module _ {a b : ℤ} (positive : pos 0 <ℤ b) (a_fits : SFits w64 a) (b_fits : SFits w64 b) where
  operands_read : (f : ℤ → ℤ → ℤ) → f (stored a) (stored b) ≡ f a b
  operands_read f = rw (to_z-of_z w64 a a_fits, to_z-of_z w64 b b_fits)

  quotient_read : quotient a b ≡ quot_z a b
  quotient_read = ap stored (operands_read quot_z) ∙ to_z-of_z w64 _ (sfits_le (quot_mag a b positive) a_fits)

  remainder_read : remainder a b ≡ rem_z a b
  remainder_read = ap stored (operands_read rem_z) ∙ to_z-of_z w64 _ (sfits_le (mag_rem a b) a_fits)

  pub stepped_is : lt_z (pos 0) (remainder a b) ≡ true → stored (quotient a b +ℤ pos 1) ≡ ceiling a (nat_abs b)
  stepped_is t =
      let e : quotient a b +ℤ pos 1 ≡ ceiling a (nat_abs b) = rw quotient_read (ceiling_left a b positive (rw remainder_read at t)) in
      ap stored e ∙ to_z-of_z w64 _ (sfits_le (ceiling-mag a (nat_abs b)) a_fits)

  pub kept_is : lt_z (pos 0) (remainder a b) ≡ false → quotient a b ≡ ceiling a (nat_abs b)
  kept_is t = quotient_read ∙ ceiling-exact a b positive (rw remainder_read at t)
