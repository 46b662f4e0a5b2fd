-- Rounded quotients are no larger than what was divided, whatever the divisor (over 0 the quotient is 0).
use Prim.Native.Nat.{ℕ, zero, suc, ◌/◌, ◌≤◌}
use native.Mathlib.Nat.{div-le_self}
use native.Mathlib.Omega.{arith}
use lib.IntN.{ℤ, pos, negsuc}
use lib.Signed.{mag, quot_z, ◌<ℤ◌}
use Rattle.fraction.specs.Rounding.{floor, ceiling}
use Rattle.rounding.proofs.Signed.{mag_negative}

pub floor-mag : (a : ℤ) (d : ℕ) → mag (floor a d) ≤ mag a
floor-mag (pos a) d = div-le_self a d
floor-mag (negsuc a) d = div-le_self a d

pub ceiling-mag : (a : ℤ) (d : ℕ) → mag (ceiling a d) ≤ mag a
ceiling-mag (pos zero) d = mag_negative (0 / d) (omega (arith, div-le_self 0 d))
ceiling-mag (pos (suc a)) d = omega (arith, div-le_self a d)
ceiling-mag (negsuc a) d = mag_negative (suc a / d) (div-le_self (suc a) d)

-- the quotient toward zero: the floor of a positive, the ceiling of a negative
pub quot_mag : (a b : ℤ) → pos 0 <ℤ b → mag (quot_z a b) ≤ mag a
quot_mag (pos a) (pos b) h = floor-mag (pos a) b
quot_mag (negsuc a) (pos b) h = ceiling-mag (negsuc a) b
quot_mag (pos a) (negsuc b) h = absurd h.lt
quot_mag (negsuc a) (negsuc b) h = absurd h.lt
