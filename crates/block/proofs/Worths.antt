-- What a list that passed comes to by the year: 150 totals, none above a thousand entries of the largest size; and totals × factors,
-- added over the years, are the list's own sum of cents × factor.
use mathlib.Core.Bool.{Bool, true, false}
use mathlib.Core.List.{List, [], ◌∷◌}
use mathlib.Core.Path.{◌≡◌, refl, sym, ap, subst, ◌∙◌}
use Prim.Native.Nat.{ℕ, zero, suc, ◌+◌, ◌*◌, ◌-◌, ◌≤◌, ◌<◌}
use native.Mathlib.Omega.{arith}
use lib.Dec.{eqb}
use lib.ListN.{length, get_or, set, replicate, length-set, length-replicate}
use lib.Seq.{get_or-set_same, get_or-set_other}
use borrow.Author.Tests.{eqb-true, eqb-false}
use Rattle.fraction.specs.Rounding.{U, round_ℕ}
use Rattle.method.specs.Units.{pair}
use Rattle.method.specs.Grounds.{done}
use Rattle.method.proofs.Outcome.{done_injective, bind_done, split}
use Rattle.valuation.specs.Block as valuation
use Rattle.valuation.specs.Block.{flows_checked, block_checked, block_sum, worth_of, value_by}
use Rattle.valuation.proofs.Checks.{first-passed, count-passed}
use Rattle.block.specs.Views.{Totals, totals_from, block_of, factor_in, weighed}

-- ---- the totals: how many, and how large

pub set_le : (l : List ℕ) (i v k m : ℕ) → get_or l k 0 ≤ m → v ≤ m → get_or (set l i v) k 0 ≤ m
set_le [] i v k m h g = h
set_le (x ∷ l) zero v zero m h g = g
set_le (x ∷ l) zero v (suc k) m h g = h
set_le (x ∷ l) (suc i) v zero m h g = h
set_le (x ∷ l) (suc i) v (suc k) m h g = set_le l i v k m h g

pub zeros_le : (n k : ℕ) → get_or (replicate n 0) k 0 ≤ 0
zeros_le zero k = omega arith
zeros_le (suc n) zero = omega arith
zeros_le (suc n) (suc k) = zeros_le n k

totals_length : (ts : List ℕ) (fs : List valuation.Flow) → length (totals_from ts fs) ≡ length ts
unfolding totals_from
totals_length ts [] = refl
totals_length ts (f ∷ fs) = totals_length (set ts _ _) fs ∙ length-set ts _ _

pub totals_le : (ts : List ℕ) (fs : List valuation.Flow) (entry n : ℕ) → flows_checked entry fs ≡ done tt →
    ((k : ℕ) → get_or ts k 0 ≤ n * 1_000_000_000) → (k : ℕ) → get_or (totals_from ts fs) k 0 ≤ (n + length fs) * 1_000_000_000
unfolding totals_from
totals_le ts [] entry n e h k = omega (arith, h k)
totals_le ts (f ∷ fs) entry n e h k = omega (arith, totals_le next fs (entry + 1) (suc n) (first-passed entry f fs e).1 next_le k)
  where
    next : List ℕ
    next = set ts (f.year - 1) (get_or ts (f.year - 1) 0 + f.cents)

    next_le : (j : ℕ) → get_or next j 0 ≤ suc n * 1_000_000_000
    next_le j = set_le ts (f.year - 1) _ j (suc n * 1_000_000_000) (omega (arith, h j)) (omega (arith, h (f.year - 1), (first-passed entry f fs e).0.1))

pub totals_held : (fs : List valuation.Flow) → block_checked fs ≡ done tt → Totals (totals_from (replicate 150 0) fs)
totals_held fs e =
    let (counted, passed) = count-passed fs e in (
      totals_length (replicate 150 0) fs ∙ length-replicate {A = ℕ} 150 0,
      λ k. omega (arith, counted.1, totals_le (replicate 150 0) fs 1 0 passed (λ j. omega (arith, zeros_le 150 j)) k),
    )

-- ---- weighed, where the total at k grows by c

module _ (ts fs : List ℕ) (k : ℕ) where
  weighed_before : (v n : ℕ) → n ≤ k → weighed (set ts k v) fs n ≡ weighed ts fs n
  unfolding weighed
  weighed_before v zero h = refl
  weighed_before v (suc n) h =
      let other = get_or-set_other ts k n v 0 (λ e. omega arith) in
      omega (arith, weighed_before v n (omega arith), ap (λ (t : ℕ). t * get_or fs n 0) other)

  module _ (c : ℕ) (within : k < length ts) where
    abbrev grown : List ℕ
    grown = set ts k (get_or ts k 0 + c)

    abbrev product : List ℕ → ℕ → ℕ
    product totals n = get_or totals n 0 * get_or fs n 0

    grown_here : product grown k ≡ product ts k + c * get_or fs k 0
    grown_here = let same = ap (λ (t : ℕ). t * get_or fs k 0) (get_or-set_same ts k (get_or ts k 0 + c) 0 within) in omega arith

    weighed-grown : (n : ℕ) → k < n → weighed grown fs n ≡ weighed ts fs n + c * get_or fs k 0
    unfolding weighed
    weighed-grown zero h = absurd (omega arith)
    weighed-grown (suc n) h =
        split (eqb k n)
        (λ e.
        let here : product grown n ≡ product ts n + c * get_or fs k 0
        = subst (λ (j : ℕ). product grown j ≡ product ts j + c * get_or fs k 0) (eqb-true k n e) grown_here in
        omega (arith, weighed_before (get_or ts k 0 + c) n (omega (arith, eqb-true k n e))))
        (λ e.
        let past : k < n = omega (arith, eqb-false k n e) in
        let other = get_or-set_other ts k n (get_or ts k 0 + c) 0 (λ d. omega arith) in
        omega (arith, weighed-grown n past, ap (λ (t : ℕ). t * get_or fs n 0) other))

weighed_zeros : (m n : ℕ) (fs : List ℕ) → weighed (replicate m 0) fs n ≡ 0
unfolding weighed
weighed_zeros m zero fs = refl
weighed_zeros m (suc n) fs =
    let none : ◌≡◌ {A = ℕ} (get_or (replicate m 0) n 0) 0 = omega (arith, zeros_le m n) in
    omega (arith, weighed_zeros m n fs, ap (λ (t : ℕ). t * get_or fs n 0) none)

-- ---- the sum over the years is the sum over the list

module _ (factors : List ℕ) where
  totals_weighed : (ts : List ℕ) (fs : List valuation.Flow) (entry : ℕ) → length ts ≡ 150 → flows_checked entry fs ≡ done tt →
      weighed (totals_from ts fs) factors 150 ≡ weighed ts factors 150 + block_sum (factor_in factors) fs
  unfolding totals_from block_sum
  totals_weighed ts [] entry long e = omega arith
  totals_weighed ts (f ∷ fs) entry long e =
      let (right, others-passed) = first-passed entry f fs e in
      let k : ℕ = f.year - 1 in
      let small : k < 150 = omega (arith, right.0.0, right.0.1) in
      let within : k < length ts = omega arith in
      let grows = weighed-grown ts factors k f.cents within 150 small in
      let others = totals_weighed (grown ts factors k f.cents within) fs (entry + 1) (length-set ts _ _ ∙ long) others-passed in
      omega arith

  block_weighed : (fs : List valuation.Flow) → block_checked fs ≡ done tt →
      weighed (totals_from (replicate 150 0) fs) factors 150 ≡ block_sum (factor_in factors) fs
  block_weighed fs e =
      let zeros : List ℕ = replicate 150 0 in
      omega (arith, totals_weighed zeros fs 1 (length-replicate {A = ℕ} 150 0) (count-passed fs e).1, weighed_zeros 150 150 factors)

-- ---- the value, of the list whose block it is

module _ (fs : List valuation.Flow) {totals : List ℕ} (of-list : block_of fs ≡ done totals) where
  passed : (block_checked fs ≡ done tt) × (totals ≡ totals_from (replicate 150 0) fs)
  unfolding block_of
  passed =
      let (x, checked, made) = bind_done (block_checked fs) _ of-list in
      (checked, sym (done_injective made))

  worth_is : (up : Bool) (factors : List ℕ) → round_ℕ up (weighed totals factors 150) U ≡ worth_of up (factor_in factors) fs
  worth_is up factors =
      ap (λ (ts : List ℕ). round_ℕ up (weighed ts factors 150) U) passed.1
      ∙ ap (λ (sum : ℕ). round_ℕ up sum U) (block_weighed factors fs passed.0)

  pub value_is : (lows highs : List ℕ) {low high : ℕ} →
      low ≡ round_ℕ false (weighed totals lows 150) U → high ≡ round_ℕ true (weighed totals highs 150) U →
      value_by (factor_in lows) (factor_in highs) fs ≡ done (pair low high)
  unfolding value_by
  value_is lows highs l h = rw (passed.0, l ∙ worth_is false lows, h ∙ worth_is true highs)
