-- SPECIFICATION 1: rounding of quotients, the operations that round with their exact and rounded values, and what encloses a
-- fraction.
use Rattle.std.specs.Prelude.{Bool, true, false, List, [], ◌∷◌, ℕ, ◌+◌, ◌-◌, ◌/◌, ◌<◌, ℤ, pos, negsuc, neg_ℤ, ◌+ℤ◌, ◌*ℤ◌}
use Rattle.fraction.specs.Fraction.{ℚ, ◌≤ℚ◌, nat_ℚ, int_ℚ, ◌+ℚ◌, ◌*ℚ◌, ◌÷◌}

-- the unit
abbrev pub U : ℕ
U = 1_000_000_000

-- ---- an integer over a positive natural, rounded

-- down: toward minus infinity
abbrev pub floor : ℤ → ℕ → ℤ
floor (pos a) d = pos (a / d)
floor (negsuc a) d = negsuc (a / d)

-- up: toward plus infinity
abbrev pub ceiling : ℤ → ℕ → ℤ
ceiling z d = neg_ℤ (floor (neg_ℤ z) d)

-- up, of a natural (down is _/_)
abbrev pub ceil_div : ℕ → ℕ → ℕ
ceil_div a d = (a + (d - 1)) / d

-- ---- by side: up for a high, down for a low

abbrev pub round_ℤ : Bool → ℤ → ℕ → ℤ
round_ℤ true = ceiling
round_ℤ false = floor

abbrev pub round_ℕ : Bool → ℕ → ℕ → ℕ
round_ℕ true = ceil_div
round_ℕ false = ◌/◌

-- ---- the operations

-- a factor of a sum of products and the number that it multiplies
pub record Product : Type 0 where
  pub weight : ℤ
  pub value : ℤ

pub data Operation : Type 0 where
  -- a + b
  sum : ℤ → ℤ → Operation
  -- a × b / U
  scaled : ℤ → ℤ → Operation
  -- a / d
  quotient : ℤ → (d : ℕ) → 0 < d → Operation
  -- (w1 × a1 + w2 × a2 + ..) / d
  weighted : List Product → (d : ℕ) → 0 < d → Operation

-- the sum of products, in fractions and in integers
unfoldable pub sum_of_products : List Product → ℚ
sum_of_products [] = nat_ℚ 0
sum_of_products (t ∷ ts) = int_ℚ t.weight *ℚ int_ℚ t.value +ℚ sum_of_products ts

unfoldable pub whole_sum : List Product → ℤ
whole_sum [] = pos 0
whole_sum (t ∷ ts) = t.weight *ℤ t.value +ℤ whole_sum ts

-- no rounding
unfoldable pub exact : Operation → ℚ
exact (sum a b) = int_ℚ a +ℚ int_ℚ b
exact (scaled a b) = (int_ℚ a *ℚ int_ℚ b) ÷ nat_ℚ U
exact (quotient a d h) = int_ℚ a ÷ nat_ℚ d
exact (weighted ts d h) = sum_of_products ts ÷ nat_ℚ d

unfoldable pub rounded_down : Operation → ℤ
rounded_down (sum a b) = a +ℤ b
rounded_down (scaled a b) = floor (a *ℤ b) U
rounded_down (quotient a d h) = floor a d
rounded_down (weighted ts d h) = floor (whole_sum ts) d

unfoldable pub rounded_up : Operation → ℤ
rounded_up (sum a b) = a +ℤ b
rounded_up (scaled a b) = ceiling (a *ℤ b) U
rounded_up (quotient a d h) = ceiling a d
rounded_up (weighted ts d h) = ceiling (whole_sum ts) d

-- ---- enclosure: x lies from low to high
pub record Encloses (low high : ℤ) (x : ℚ) : Type 0 where
  pub below : int_ℚ low ≤ℚ x
  pub above : x ≤ℚ int_ℚ high
