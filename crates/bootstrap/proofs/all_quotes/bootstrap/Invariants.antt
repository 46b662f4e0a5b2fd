-- Invariant: what is left of the quotes, from the part so far, is the whole.
use mathlib.Core.Path.{◌≡◌}
use mathlib.Core.List.{List}
use Prim.Native.Nat.{ℕ}
use lib.IntN.{ℤ}
use lib.ListN.{length, take}
use Rattle.bootstrap.specs.declared.Quotes.{Quotes}
use Rattle.bootstrap.specs.declared.Liquid.{Liquid}
use Rattle.bootstrap.proofs.Order.{Going}
use Rattle.bootstrap.proofs.all_quotes.bootstrap.Given as goal

-- as many as there are
abbrev pub maturities_of : Quotes → List ℕ
maturities_of q = take q.count q.maturities

abbrev pub rates_of : Quotes → List ℤ
rates_of q = take q.count q.rates

pub record Quoted (q : Quotes) (w : Liquid) (i : ℕ) : Type 0 where
  pub long : length (maturities_of q) ≡ q.count
  pub as_long : length (rates_of q) ≡ q.count
  pub going : Going (maturities_of q) (rates_of q) w i

abbrev pub invariant-loop-maturity : goal.invariant-loop-maturity
invariant-loop-maturity l = Quoted l.fn.q l.liquid (length l.yielded)
