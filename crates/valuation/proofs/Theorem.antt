-- What is promised of a block's value, whatever the lows and the highs of the years are.
use mathlib.Core.Path.{◌≡◌, ap₂, sym, subst}
use mathlib.Core.List.{List}
use Prim.Native.Nat.{ℕ, ◌*◌, ◌/◌, ◌≤◌}
use native.Mathlib.Nat.{le-div_iff_mul-le, div-mul-le_self}
use native.Mathlib.Omega.{arith}
use lib.IntN.{pos}
use lib.ListN.{length}
use Rattle.fraction.specs.Fraction.{ℚ, nat_ℚ, ◌*ℚ◌}
use Rattle.fraction.specs.Rounding.{ceil_div, Encloses}
use Rattle.fraction.proofs.Enclosure.{encloses_times, encloses-÷-nat}
use Rattle.method.specs.Units.{Pair, pair}
use Rattle.method.specs.Grounds.{Ground, Outcome, refused, done}
use Rattle.method.proofs.Outcome.{bind_done, done_injective}
use Rattle.method.proofs.Quotients.{ceil_div-≤, ceil_div_covers}
use Rattle.valuation.specs.Block.{Flow, block_checked, worth_by, value_by}
use Rattle.valuation.specs.Meaning.{entry_at, RightTo, cost_of, exact_value, LargestWithin, SmallestCovering, Valued, ListTells, BlockTells}
use Rattle.valuation.proofs.Checks.{count_wrong, all_right, first_year, first_cents, passed_right}
use Rattle.valuation.proofs.Sums.{sum_encloses, cost_is}

largest-within : (a : ℕ) → LargestWithin a (a / 1_000_000_000)
largest-within a = record { no_more = div-mul-le_self a 1_000_000_000; largest = λ n h. (le-div_iff_mul-le {k = 1_000_000_000} (omega arith)).1 h }

pub smallest_covering : (a : ℕ) → SmallestCovering a (ceil_div a 1_000_000_000)
smallest_covering a = record { no_less = ceil_div_covers a 1_000_000_000 (omega arith); smallest = λ n h. ceil_div-≤ (omega arith) h }

-- an answer that hands on every ground of the list
pub list_tells : {A : Type 0} (fs : List Flow) (a : Outcome A) → ((g : Ground) → block_checked fs ≡ refused g → a ≡ refused g) → ListTells fs a
list_tells fs a on =
    record {
      wrong_count = λ n. on _ (count_wrong fs n);
      wrong_year = λ n i from to r y. on _ (first_year fs n i from to r y);
      wrong_cents = λ n i from to r y c. on _ (first_cents fs n i from to r y c);
    }

module _ (low high : ℕ → ℕ) (fs : List Flow) where
  -- over the entries by their places
  pub worth_is : worth_by low high fs ≡ pair (cost_of low fs / 1_000_000_000) (ceil_div (cost_of high fs) 1_000_000_000)
  worth_is = ap₂ (λ (l h : ℕ). pair (l / 1_000_000_000) (ceil_div h 1_000_000_000)) (cost_is low fs) (cost_is high fs)

  exact-between : RightTo fs (length fs) → (x : ℕ → ℚ) → ((y : ℕ) → 1 ≤ y → y ≤ 150 → Encloses (pos (low y)) (pos (high y)) (x y)) →
      Encloses (pos (cost_of low fs / 1_000_000_000)) (pos (ceil_div (cost_of high fs) 1_000_000_000)) (exact_value x fs)
  exact-between right x h =
      encloses-÷-nat (omega arith)
      (sum_encloses (λ i. (entry_at fs i).cents * low (entry_at fs i).year) (λ i. (entry_at fs i).cents * high (entry_at fs i).year)
      (λ i. nat_ℚ (entry_at fs i).cents *ℚ x (entry_at fs i).year) (length fs)
      (λ i a b. let r = right i a b in encloses_times (entry_at fs i).cents (h (entry_at fs i).year r.0.0 r.0.1)))

  valued : RightTo fs (length fs) → Valued low high fs (worth_by low high fs)
  valued right =
      subst (Valued low high fs) (sym worth_is)
      (record { low_rounded = largest-within _; high_rounded = smallest_covering _; holds_exact = exact-between right })

  value_passes : {x : Unit {0}} → block_checked fs ≡ done x → value_by low high fs ≡ done (worth_by low high fs)
  unfolding value_by
  value_passes e = rw e

  value_fails : {g : Ground} → block_checked fs ≡ refused g → value_by low high fs ≡ refused g
  unfolding value_by
  value_fails e = rw e

  was_passed : (p : Pair) → value_by low high fs ≡ done p → (x : Unit {0}) × (block_checked fs ≡ done x) × (worth_by low high fs ≡ p)
  unfolding value_by
  was_passed p e = let checked = bind_done (block_checked fs) _ e in (checked.0, checked.1, done_injective checked.2)

  pub block_tells : BlockTells low high fs (value_by low high fs)
  block_tells =
      record {
        list_refused = list_tells fs _ (λ g. value_fails);
        values = λ n r. (worth_by low high fs, value_passes (all_right fs n r), valued r);
        values_only = λ p e.
            let was = was_passed p e in
            let right = passed_right fs was.1 in
            (right.0, right.1, subst (Valued low high fs) was.2 (valued right.1));
      }
