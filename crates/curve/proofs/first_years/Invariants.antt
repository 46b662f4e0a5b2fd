-- Invariant: the zeros, with as many of the factors as the loop has copied.
use Prim.Native.Nat.{ℕ, ◌-◌}
use lib.ListN.{replicate}
use Rattle.bootstrap.specs.declared.Liquid.{Liquid}
use Rattle.extrapolation.specs.Extrapolated.{Years}
use Rattle.method.proofs.Copying.{Copied}
use Rattle.curve.proofs.first_years.Given as goal

pub record BothCopied (q : Liquid) (years : Years) (year i : ℕ) : Type 0 where
  pub lows : Copied (replicate 150 0) q.lows years.lows year i
  pub highs : Copied (replicate 150 0) q.highs years.highs year i

abbrev pub invariant-loop-i : goal.invariant-loop-i
invariant-loop-i l = BothCopied l.q l.years l.year l.i

abbrev pub decreases-loop-i : goal.decreases-loop-i
decreases-loop-i l = 20 - l.i
