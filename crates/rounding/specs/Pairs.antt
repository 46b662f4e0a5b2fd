-- The declared pairs as the method's.
use Rattle.std.specs.Prelude.{ℕ, ℤ, ◌≤◌, nat_abs}
use Rattle.method.specs.Units as method
use Rattle.method.specs.Units.{pair, signed_pair}
use Rattle.rounding.specs.declared.Ends.{Ends}

abbrev pub Pair : Type 0
Pair = Ends ℕ

abbrev pub SignedPair : Type 0
SignedPair = Ends ℤ

abbrev pub as_pair : Pair → method.Pair
as_pair p = pair p.low p.high

abbrev pub as_signed_pair : SignedPair → method.SignedPair
as_signed_pair p = signed_pair p.low p.high

-- both ends up to n
pub record PairAtMost (n : ℕ) (p : Pair) : Type 0 where
  pub low : p.low ≤ n
  pub high : p.high ≤ n

-- both ends from -n to n
pub record SizeAtMost (n : ℕ) (p : SignedPair) : Type 0 where
  pub low_size : nat_abs p.low ≤ n
  pub high_size : nat_abs p.high ≤ n
