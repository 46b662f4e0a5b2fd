-- Invariant: what the list comes to is what the totals come to, with the entries from i on; and no total is above i entries of the
-- largest size.
use Rattle.std.specs.Prelude.{◌≡◌, ◌≤◌, List, ℕ, length}
use Rattle.valuation.specs.Block as valuation
use Rattle.block.specs.declared.Flow.{Flow}
use Rattle.block.specs.Views.{Held, Lists}
use Rattle.block.proofs.Enters.{Left}
use Rattle.block.proofs.listed.Given as goal

pub record Made (answers : ℕ → Flow → Type 0) (count : ℕ) (totals : List ℕ) (i : ℕ) : Type 0 where
  pub long : length totals ≡ 150
  pub few : count ≤ 1_000
  pub held : Held i totals
  pub left : (fs : List valuation.Flow) → Lists answers count fs → Left fs totals i

abbrev pub invariant-loop-i : goal.invariant-loop-i
invariant-loop-i g l = Made (goal.F-post g l.flow_at) l.fn.count l.totals l.i
