-- S and Tk of a trial, year by year, on either side, and that they stay small.
use mathlib.Core.Path.{◌≡◌, sym, ap, ◌∙◌}
use mathlib.Core.Bool.{Bool, true, false}
use Prim.Native.Nat.{ℕ, suc, ◌+◌, ◌*◌, ◌≤◌, ◌<◌}
use native.Mathlib.Numerals.{add-one}
use native.Mathlib.Omega.{arith}
use borrow.Author.Tests.{ltb-false}
use lib.Dec.{ltb}
use Rattle.fraction.specs.Rounding.{U, ceil_div, round_ℕ}
use Rattle.method.specs.Sheet.{total}
use Rattle.method.specs.Quotes.{upper_end, highest_factor, trial, last_of}
use Rattle.method.proofs.Outcome.{split}
use Rattle.method.proofs.TrialLaws.{Ordered, down_up, up_up, last_none, last_more, total_none, total_more, last_short, last_bounded, total_bounded}
use Rattle.gap.specs.declared.Sums.{Sums}
use Rattle.gap.specs.Gaps.{largest, SumsOf}

-- neither side rounds above the high one
below_up : (up : Bool) → Ordered (round_ℕ up) ceil_div
below_up true = up_up
below_up false = down_up

module _ (up : Bool) {t x : ℕ} (start : t ≤ highest_factor) (factor : x ≤ upper_end) where
  sums_of_lem : (k : ℕ) → k ≤ 30 → (s : Sums) → s.total ≡ total (trial (round_ℕ up) t x k) → s.last ≡ last_of t (trial (round_ℕ up) t x k) → SumsOf up t x k s
  sums_of_lem k h s e f =
      record {
        total = e;
        last = f;
        total_small = omega (arith, e, total_bounded (below_up up) start factor k h);
        last_small = omega (arith, f, last_bounded (below_up up) start factor k h);
      }

  -- before another year, in a trial of n years
  pub last_fits : (k n : ℕ) → k ≤ n → n ≤ 30 → (s : Sums) → SumsOf up t x k s → s.last ≤ largest (ltb 20 n)
  last_fits k n h m s e =
      split (ltb 20 n)
      (λ long. rw long e.last_small)
      (λ short. rw short (omega (arith, e.last, last_short (below_up up) start factor k (omega (arith, ltb-false 20 n short)))))

  pub sums_none : SumsOf up t x 0 (record { total = 0; last = t })
  sums_none = sums_of_lem 0 (omega arith) _ (sym (total_none (round_ℕ up) t x)) (sym (last_none (round_ℕ up) t x))

  pub sums_more : (k : ℕ) → k < 30 → (s : Sums) (v : ℕ) → SumsOf up t x k s → v ≡ round_ℕ up (s.last * x) U →
      SumsOf up t x (k + 1) (record { total = s.total + v; last = v })
  sums_more k h s v known e =
      let last : v ≡ last_of t (trial (round_ℕ up) t x (suc k)) = e ∙ ap (λ (n : ℕ). round_ℕ up (n * x) U) known.last ∙ sym (last_more (round_ℕ up) t x k) in
      rw (add-one k)
      (sums_of_lem (suc k) h (record { total = s.total + v; last = v }) (omega (arith, known.total, last, total_more (round_ℕ up) t x k)) last)
