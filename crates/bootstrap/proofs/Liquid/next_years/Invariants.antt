-- Invariant: what is left to be worked, from the factors so far, is the whole.
use mathlib.Core.Path.{◌≡◌}
use Prim.Native.Nat.{ℕ, ◌+◌, ◌-◌, ◌≤◌}
use lib.IntN.{ℤ}
use Rattle.method.specs.Ranges.{Factor}
use Rattle.rounding.specs.Pairs.{Pair, as_pair}
use Rattle.bootstrap.specs.declared.Liquid.{Liquid}
use Rattle.bootstrap.specs.Liquids.{as_bootstrap}
use Rattle.bootstrap.specs.Years.{lifted, next_years}
use Rattle.bootstrap.proofs.Liquid.next_years.Given as goal

pub record Going (x : Pair) (k : ℕ) (rate : ℤ) (w₀ : Liquid) (p₀ : Pair) (w : Liquid) (p : Pair) (left : ℕ) : Type 0 where
  pub room : w.count + left ≤ 50
  pub factor : Factor (as_pair p)
  pub same :
      lifted (as_bootstrap w₀) (next_years (as_pair p₀) (as_pair x) k rate (as_bootstrap w₀).factors) ≡
      lifted (as_bootstrap w) (next_years (as_pair p) (as_pair x) left rate (as_bootstrap w).factors)

abbrev pub invariant-loop-year : goal.invariant-loop-year
invariant-loop-year l = Going l.x l.k l.rate l.initial.self l.initial.p l.self l.p (l.k + 1 - l.year)

abbrev pub decreases-loop-year : goal.decreases-loop-year
decreases-loop-year l = l.k + 1 - l.year
