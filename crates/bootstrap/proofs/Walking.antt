-- A gap that passes 9: its yearly factor, and its years.
use mathlib.Core.Path.{◌≡◌, ap, ◌∙◌}
use mathlib.Core.Bool.{true}
use Prim.Native.Nat.{ℕ, suc, ◌-◌, ◌≤◌, ◌<◌}
use native.Mathlib.Omega.{arith}
use lib.IntN.{ℤ}
use Rattle.method.specs.Units.{Pair, pair}
use Rattle.method.specs.Quotes.{low_x, high_x, upper_end, Bootstrap, last_year, gap_after, gap_years}
use Rattle.method.specs.Ranges.{Each, Factor}
use Rattle.method.proofs.HalvingLaws.{low_x-≤-high_x, high_x-within}
use Rattle.method.proofs.Outcome.{both_true}
use Rattle.method.proofs.QuotesLaws.{ends_pass, gap_passes}
use Rattle.method.proofs.QuotesBounds.{gap_in_order}
use Rattle.bootstrap.specs.Years.{with_gap, lifted, next_years}

module _ (k : ℕ) (r : ℤ) (b : Bootstrap) (passes : ends_pass k r b.factors ≡ true) (x : Pair)
    (factor : x ≡ pair (low_x (gap_after b.factors k r)) (high_x (gap_after b.factors k r))) where
  pub gap_steps : 0 < k → gap_years k r b ≡ lifted (with_gap b x) (next_years (last_year b.factors) x k r b.factors)
  gap_steps h =
      let g = gap_after b.factors k r in
      let y = pair (low_x g) (high_x g) in
      let some : suc (k - 1) ≡ k = omega arith in
      rw factor (gap_passes k r b passes ∙ ap (λ (n : ℕ). lifted (with_gap b y) (next_years (last_year b.factors) y n r b.factors)) some)

  pub factor_ordered : 0 < k → Each Factor b.factors → x.low ≤ x.high
  factor_ordered h e =
      let (low, high) = both_true _ _ passes in
      rw factor (low_x-≤-high_x (gap_after b.factors k r) (gap_in_order k r h e) low high)

  pub factor_within : x.high ≤ upper_end
  factor_within = rw factor (high_x-within (gap_after b.factors k r)).1
