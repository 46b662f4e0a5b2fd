-- Lists of pairs that enclose lists of fractions, entry by entry.
use mathlib.Core.Path.{◌≡◌, refl, ap}
use mathlib.Core.List.{List, [], ◌∷◌, ◌++◌, map}
use Prim.Native.Nat.{ℕ, zero, suc, ◌<◌}
use native.Mathlib.Nat.{le_of_suc-le-suc, not-suc-le-zero}
use lib.IntN.{pos}
use lib.ListN.{length, take, drop, get_or}
use Rattle.fraction.specs.Fraction.{ℚ}
use Rattle.fraction.specs.Rounding.{Encloses}
use Rattle.fraction.proofs.Enclosure.{encloses_exact, encloses-≈, encloses-+}
use Rattle.fraction.proofs.Integer.{int_ℚ-pos}
use Rattle.method.specs.Units.{Pair}
use Rattle.method.specs.Sheet.{total}
use Rattle.method.specs.True.{sum_of}

pub data AllEnclosed : List Pair → List ℚ → Type 0 where
  none : AllEnclosed [] []
  more : {p : Pair} {ps : List Pair} {x : ℚ} {xs : List ℚ} → Encloses (pos p.low) (pos p.high) x → AllEnclosed ps xs → AllEnclosed (p ∷ ps) (x ∷ xs)

pub enclosed_append : {ps qs : List Pair} {xs ys : List ℚ} → AllEnclosed ps xs → AllEnclosed qs ys → AllEnclosed (ps ++ qs) (xs ++ ys)
enclosed_append none k = k
enclosed_append (more h r) k = more h (enclosed_append r k)

pub enclosed_snoc : {ps : List Pair} {xs : List ℚ} {p : Pair} {x : ℚ} → AllEnclosed ps xs → Encloses (pos p.low) (pos p.high) x →
    AllEnclosed (ps ++ p ∷ []) (xs ++ x ∷ [])
enclosed_snoc r h = enclosed_append r (more h none)

pub enclosed_length : {ps : List Pair} {xs : List ℚ} → AllEnclosed ps xs → length ps ≡ length xs
enclosed_length none = refl
enclosed_length (more h r) = ap suc (enclosed_length r)

pub enclosed_take : {ps : List Pair} {xs : List ℚ} (k : ℕ) → AllEnclosed ps xs → AllEnclosed (take k ps) (take k xs)
enclosed_take zero r = none
enclosed_take (suc k) none = none
enclosed_take (suc k) (more h r) = more h (enclosed_take k r)

pub enclosed_drop : {ps : List Pair} {xs : List ℚ} (k : ℕ) → AllEnclosed ps xs → AllEnclosed (drop k ps) (drop k xs)
enclosed_drop zero r = r
enclosed_drop (suc k) none = none
enclosed_drop (suc k) (more h r) = enclosed_drop k r

-- the entry at an index below the length, whatever stands for an entry past the end
pub enclosed_at : {ps : List Pair} {xs : List ℚ} (i : ℕ) (p : Pair) (x : ℚ) → AllEnclosed ps xs → i < length ps →
    Encloses (pos (get_or ps i p).low) (pos (get_or ps i p).high) (get_or xs i x)
enclosed_at i p x none l = absurd (not-suc-le-zero l)
enclosed_at zero p x (more h r) l = h
enclosed_at (suc i) p x (more h r) l = enclosed_at i p x r (le_of_suc-le-suc l)

-- lows and highs summed apart
pub enclosed_sum : {ps : List Pair} {xs : List ℚ} → AllEnclosed ps xs →
    Encloses (pos (total (map (λ p. p.low) ps))) (pos (total (map (λ p. p.high) ps))) (sum_of xs)
unfolding total sum_of
enclosed_sum none = encloses-≈ (int_ℚ-pos 0) (encloses_exact (pos 0))
enclosed_sum (more h r) = encloses-+ h (enclosed_sum r)
