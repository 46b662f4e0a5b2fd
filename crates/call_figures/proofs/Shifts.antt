-- Shifts that meet a target, by computation: the stated figures that few curves decide, on a level curve and on sheets of which the range of an unused quote
-- leaves few shifts; the order of the grounds; sheets typed again; and answers that the promise refuses.
use mathlib.Core.Path.{◌≡◌, refl, ap}
use mathlib.Core.Bool.{Bool, true, false}
use mathlib.Core.List.{List, [], ◌∷◌, ◌++◌, map}
use Prim.Native.Nat.{ℕ}
use native.Mathlib.Omega.{arith}
use lib.IntN.{ℤ, pos, negsuc}
use lib.ListN.{length, replicate}
use Rattle.method.specs.Bytes.{in_bytes}
use Rattle.method.specs.Grounds.{no_shift, wrong_count, number_of, place_of, Outcome, refused, done, ◌>>=◌}
use Rattle.method.specs.Sheet.{read_sheet, sheet_numbers}
use Rattle.valuation.specs.Block.{Flow, flows_checked, block_checked, block_sum}
use Rattle.valuation.specs.Meaning.{Counted, RightTo}
use Rattle.valuation.proofs.Checks.{passed_right}
use Rattle.shift.specs.Shift.{shifted, quotes_inside, meets, first_shift, shift_for}
use Rattle.shift.specs.Meaning.{quotes_retyped, retyped, Does, ShiftTells}
use Rattle.shift.proofs.Theorem.{shift_tells}
use Rattle.figures.specs.Figures.{sheet_of, minus, minus2000, to_ten}
use Rattle.call_figures.proofs.Days.{opens}
use Rattle.call_figures.proofs.Annuities.{level}
use Rattle.call_figures.proofs.Blocks.{flow}

-- 1,000 cents in each of years 1 to 30
thousands : List ℕ → List Flow
thousands ys = map (λ y. flow y 1_000) ys

thirty : List Flow
thirty =
    thousands
    (1 ∷ 2 ∷ 3 ∷ 4 ∷ 5 ∷ 6 ∷ 7 ∷ 8 ∷ 9 ∷ 10 ∷ 11 ∷ 12 ∷ 13 ∷ 14 ∷ 15 ∷ 16 ∷ 17 ∷ 18 ∷ 19 ∷ 20 ∷ 21 ∷ 22 ∷ 23 ∷ 24 ∷ 25 ∷ 26 ∷ 27 ∷ 28 ∷ 29 ∷ 30 ∷ [])

-- years 40 and 50 are not used, and 50 can't rise: -2,000 and 12,000 leave the shift 0 alone
unmoved : List ℕ
unmoved = sheet_of 1 (replicate 15 3_000 ++ minus2000 ∷ 12_000 ∷ []) (1 ∷ 1 ∷ 1 ∷ 0 ∷ 0 ∷ []) 3_000 100_000

-- here they leave 0, 1 and 2, of which 1 makes all used rates 0; at any other the bands pass the limit of 1
turning : List ℕ
turning = sheet_of 1 (replicate 15 (minus 1) ++ minus2000 ∷ 11_998 ∷ []) (1 ∷ 1 ∷ 1 ∷ 0 ∷ 0 ∷ []) 0 1

-- the ground's number and its place; or 0 and the shift
answered : Outcome ℤ → List ℤ
answered (refused g) = pos (number_of g) ∷ pos (place_of g) ∷ []
answered (done s) = pos 0 ∷ s ∷ []

shifts_open : ℕ
unfolding opens level flow thousands thirty unmoved turning answered flows_checked block_checked block_sum shifted quotes_inside meets first_shift shift_for quotes_retyped retyped
shifts_open = 0

shift_figures :
    answered (shift_for level thirty 1_000_000_000_000)
    ∷ answered (shift_for unmoved thirty 19_601)
    ∷ answered (shift_for unmoved thirty 19_600)
    ∷ answered (shift_for turning thirty 30_000)
    ∷ answered (shift_for turning thirty 29_999)
    ∷ []
    ≡ (pos 0 ∷ negsuc 499 ∷ [])
    ∷ (pos 0 ∷ pos 0 ∷ [])
    ∷ (pos 23 ∷ pos 0 ∷ [])
    ∷ (pos 0 ∷ pos 1 ∷ [])
    ∷ (pos 23 ∷ pos 0 ∷ [])
    ∷ []
unfolding shifts_open
shift_figures = refl

-- ---- where the search would try hundreds of curves: whether a shift does, at the stated figures and beside them

meets_at : List ℕ → ℕ → ℤ → Outcome Bool
meets_at sheet target s = read_sheet sheet >>= λ n. done (meets thirty target n s)

-- 19,601 at 0 and 19,600 at 1; 19,000 at 249
level_meets :
    meets_at level 19_601 (pos 0)
    ∷ meets_at level 19_600 (pos 0)
    ∷ meets_at level 19_600 (pos 1)
    ∷ meets_at level 19_000 (pos 248)
    ∷ meets_at level 19_000 (pos 249)
    ∷ []
    ≡ map done (true ∷ false ∷ true ∷ false ∷ true ∷ [])
unfolding shifts_open meets_at
level_meets = refl

-- ---- the sheet's grounds before the list's, and these before 23

shift_grounds :
    answered (shift_for (0x08 ∷ 4 ∷ []) [] 0)
    ∷ answered (shift_for [] [] 0)
    ∷ answered (shift_for (sheet_of 1 (replicate 16 3_000 ++ 12_001 ∷ []) (replicate 5 1) 3_000 1) [] 0)
    ∷ answered (shift_for level [] 0)
    ∷ answered (shift_for level (flow 1 1 ∷ flow 151 1_000_000_001 ∷ []) 0)
    ∷ answered (shift_for level (flow 1 1_000_000_001 ∷ []) 0)
    ∷ []
    ≡ (pos 19 ∷ pos 0 ∷ [])
    ∷ (pos 1 ∷ pos 0 ∷ [])
    ∷ (pos 3 ∷ pos 18 ∷ [])
    ∷ (pos 20 ∷ pos 0 ∷ [])
    ∷ (pos 21 ∷ pos 2 ∷ [])
    ∷ (pos 22 ∷ pos 1 ∷ [])
    ∷ []
unfolding shifts_open
shift_grounds = refl

-- ---- sheets typed again: every quote, across 0, in either size of market, and nothing else

typed_again :
    retyped (negsuc 499) level
    ∷ retyped (pos 2) turning
    ∷ retyped (negsuc 0) (to_ten (replicate 10 0))
    ∷ []
    ≡ sheet_of 1 (replicate 17 2_500) (replicate 5 1) 3_000 100_000
    ∷ sheet_of 1 (replicate 15 1 ++ minus 1_998 ∷ 12_000 ∷ []) (1 ∷ 1 ∷ 1 ∷ 0 ∷ 0 ∷ []) 0 1
    ∷ to_ten (replicate 10 (minus 1))
    ∷ []
unfolding shifts_open in_bytes
typed_again = refl

-- ---- answers that the promise refuses

turning_read : read_sheet turning ≡ done (sheet_numbers turning)
unfolding shifts_open
turning_read = refl

thirty_right : Counted thirty × RightTo thirty (length thirty)
unfolding shifts_open
thirty_right = passed_right thirty refl

one_found : shift_for turning thirty 30_000 ≡ done (pos 1)
unfolding shifts_open
one_found = refl

one_does : Does turning thirty 30_000 (pos 1)
one_does = (((shift_tells turning thirty 30_000).smallest _ turning_read thirty_right.0 thirty_right.1 (pos 1)).0 one_found).passes

-- 23 where one does
none_said : ShiftTells turning thirty 30_000 (refused no_shift) → ⊥
none_said h = (h.none _ turning_read thirty_right.0 thirty_right.1).0 refl (pos 1) one_does

-- 2, which is not the smallest (and does not do)
later_said : ShiftTells turning thirty 30_000 (done (pos 2)) → ⊥
later_said h = (((h.smallest _ turning_read thirty_right.0 thirty_right.1 (pos 2)).0 refl).none_below (pos 1) one_does).le

-- 23 of a list that has no entry
unlisted_said : ShiftTells turning [] 30_000 (refused no_shift) → ⊥
unlisted_said h = apart ((h.list_refused _ turning_read).wrong_count (λ c. omega (arith, c.0)))
  where
    number : Outcome ℤ → ℕ
    number (refused g) = number_of g
    number (done s) = 0

    apart : ◌≡◌ {A = Outcome ℤ} (refused no_shift) (refused wrong_count) → ⊥
    apart e = let same : ◌≡◌ {A = ℕ} 23 20 = ap number e in omega arith
