-- Worked examples of a block and its value, by computation.
use mathlib.Core.List.{[], ◌∷◌}
use mathlib.Core.Path.{◌≡◌, refl}
use Prim.Native.Nat.{ℕ}
use lib.ListN.{set, replicate}
use Rattle.method.specs.Units.{pair}
use Rattle.method.specs.Grounds.{refused, done, wrong_count, flow_year_outside, cents_above_limit}
use Rattle.valuation.specs.Block as valuation
use Rattle.valuation.specs.Block.{flows_checked, block_checked, block_sum, value_by}
use Rattle.block.specs.Views.{in_turn, paired, totals_from, block_of}

abbrev flow : ℕ → ℕ → valuation.Flow
flow year cents = record { year = year; cents = cents }

no_entry_lem : block_of [] ≡ refused wrong_count
unfolding block_of block_checked
no_entry_lem = refl

-- two entries of one year are added; the last year and the largest entry are taken
added : block_of (flow 2 5 ∷ flow 150 1_000_000_000 ∷ flow 2 7 ∷ []) ≡ done (set (set (replicate 150 0) 1 12) 149 1_000_000_000)
unfolding block_of block_checked flows_checked totals_from
added = refl

second_late : block_of (flow 1 5 ∷ flow 151 5 ∷ []) ≡ refused (flow_year_outside 2)
unfolding block_of block_checked flows_checked
second_late = refl

-- of two faults of one entry 21 is told, and of two entries at fault the first
both_faults : block_of (flow 0 1_000_000_001 ∷ []) ≡ refused (flow_year_outside 1)
unfolding block_of block_checked flows_checked
both_faults = refl

first_fault : block_of (flow 1 1_000_000_001 ∷ flow 0 5 ∷ []) ≡ refused (cents_above_limit 1)
unfolding block_of block_checked flows_checked
first_fault = refl

-- plain numbers in turn; an odd count is refused as an empty list is
numbers : paired (1 ∷ 5 ∷ 2 ∷ 7 ∷ []) ≡ flow 1 5 ∷ flow 2 7 ∷ []
unfolding paired in_turn
numbers = refl

odd_numbers : block_of (paired (1 ∷ 5 ∷ 2 ∷ [])) ≡ refused wrong_count
unfolding paired in_turn block_of block_checked
odd_numbers = refl

-- 3 cents and 4 at half a cent each: 3.5 together, down and up
halves : value_by (λ y. 500_000_000) (λ y. 500_000_000) (flow 1 3 ∷ flow 2 4 ∷ []) ≡ done (pair 3 4)
unfolding value_by block_checked flows_checked block_sum
halves = refl
