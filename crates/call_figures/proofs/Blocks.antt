-- Values of blocks, by computation: on a level curve, and on one with an adjustment; the grounds with their places; and values that demand 3
-- refuses.
use mathlib.Core.Path.{◌≡◌, refl, ap, sym, subst}
use mathlib.Core.List.{List, [], ◌∷◌, map}
use Prim.Native.Nat.{ℕ}
use native.Mathlib.Omega.{arith}
use lib.ListN.{replicate}
use Rattle.method.specs.Units.{plain, Pair, pair}
use Rattle.method.specs.Grounds.{number_of, place_of, Outcome, refused, done}
use Rattle.method.proofs.Outcome.{done_injective, refused_not_done}
use Rattle.valuation.specs.Block.{Flow, flows_checked, block_checked, block_sum, value_by}
use Rattle.valuation.specs.Meaning.{sum_to, cost_of, Valued, BlockTells}
use Rattle.ledger.specs.Answers.{Value, dated}
use Rattle.ledger.specs.Book.{Book, fresh, value, value_in}
use Rattle.ledger.specs.Calls.{post_of, turn_to, withdrawal, run}
use Rattle.ledger.specs.Count.{Count, month_of}
use Rattle.ledger.specs.Tells.{band_of, dated_at, ValueTells}
use Rattle.call_figures.proofs.Days.{opens}
use Rattle.call_figures.proofs.Annuities.{level, raised}

unfoldable pub flow : ℕ → ℕ → Flow
flow year cents = record { year = year; cents = cents }

-- the ground's number and its place; or 0, low, high, month and age
valued : Outcome Value → List ℕ
valued (refused g) = number_of g ∷ place_of g ∷ []
valued (done v) = 0 ∷ v.low ∷ v.high ∷ v.month ∷ v.age ∷ []

pensions : List Flow
pensions = flow 1 100 ∷ flow 2 100 ∷ flow 20 100_000 ∷ []

-- in another order, year 20 in two entries
spread : List Flow
spread = flow 20 60_000 ∷ flow 2 100 ∷ flow 20 40_000 ∷ flow 1 100 ∷ []

-- of the last year, twice; and as many cents as the unit has parts, so that the value is the factor
twice : List Flow
twice = flow 150 1 ∷ flow 150 1 ∷ []

whole : List Flow
whole = flow 20 1_000_000_000 ∷ []

blocks_open : ℕ
unfolding opens level raised flow valued pensions spread twice whole sum_to flows_checked block_checked block_sum value_by value_in
blocks_open = 0

abbrev after_level : Book
after_level = run 2_399 (turn_to 3 ∷ post_of level ∷ [])

block_values : map (λ fs. valued (value after_level fs)) (pensions ∷ spread ∷ replicate 1_000 (flow 150 1_000_000_000) ∷ replicate 1_000 (flow 150 1) ∷ [])
    ≡ (0 ∷ 55_558 ∷ 55_559 ∷ 1 ∷ 2 ∷ [])
    ∷ (0 ∷ 55_558 ∷ 55_559 ∷ 1 ∷ 2 ∷ [])
    ∷ (0 ∷ 11_869_019_000 ∷ 11_869_083_000 ∷ 1 ∷ 2 ∷ [])
    ∷ (0 ∷ 11 ∷ 12 ∷ 1 ∷ 2 ∷ [])
    ∷ []
unfolding blocks_open
block_values = refl

-- 21 before 22 in an entry, an earlier entry's 22 before a later one's 21
block_grounds :
    map (λ fs. valued (value after_level fs))
    ((flow 151 10_000_000_000 ∷ [])
    ∷ (flow 1 1 ∷ flow 2 1_000_000_001 ∷ [])
    ∷ (flow 1 1_000_000_001 ∷ flow 0 1 ∷ [])
    ∷ (flow 0 0 ∷ [])
    ∷ []
    ∷ replicate 1_001 (flow 1 1)
    ∷ replicate 1_001 (flow 0 1_000_000_001)
    ∷ [])
    ≡ (21 ∷ 1 ∷ []) ∷ (22 ∷ 2 ∷ []) ∷ (22 ∷ 1 ∷ []) ∷ (21 ∷ 1 ∷ []) ∷ (20 ∷ 0 ∷ []) ∷ (20 ∷ 0 ∷ []) ∷ (20 ∷ 0 ∷ []) ∷ []
unfolding blocks_open
block_grounds = refl

-- 14 and 16 come first, at the limit it is still valued
block_closed :
    map (λ b. valued (value b [])) (fresh 2_399 ∷ run 1 (turn_to 3 ∷ post_of level ∷ []) ∷ run 2 (turn_to 3 ∷ post_of level ∷ []) ∷ [])
    ≡ (14 ∷ 0 ∷ []) ∷ (16 ∷ 0 ∷ []) ∷ (20 ∷ 0 ∷ []) ∷ []
unfolding blocks_open
block_closed = refl

-- on the plain curve, whatever the sheet adjusts; and on the one before it, once it is withdrawn
raised_values :
    map (λ b. valued (value b pensions))
    (run 2_399 (turn_to 3 ∷ post_of level ∷ post_of raised ∷ []) ∷ run 2_399 (turn_to 3 ∷ post_of level ∷ post_of raised ∷ withdrawal ∷ []) ∷ [])
    ≡ (0 ∷ 55_558 ∷ 55_559 ∷ 2 ∷ 1 ∷ []) ∷ (0 ∷ 55_558 ∷ 55_559 ∷ 1 ∷ 2 ∷ []) ∷ []
unfolding blocks_open
raised_values = refl

-- ---- demand 3 refuses a value whose entries are rounded one by one, the adjusted curve's, and one under the told month

abbrev after_raised : Count
after_raised = record { told = 3; posts = raised ∷ []; depth = 1 }

abbrev low_in : ℕ → ℕ
low_in y = (band_of plain raised y).low

abbrev high_in : ℕ → ℕ
high_in y = (band_of plain raised y).high

twice_high : cost_of high_in twice ≡ 23_738_166
unfolding blocks_open
twice_high = refl

whole_low : cost_of low_in whole ≡ 553_675_753_000_000_000
unfolding blocks_open
whole_low = refl

raised_month : month_of raised ≡ 2
unfolding blocks_open
raised_month = refl

-- a value that demand 3 lets through is one on the bands, under the sheet's month
let_through : (fs : List Flow) (v : Value) → ValueTells 2_399 after_raised fs (done v) →
    Valued low_in high_in fs (pair v.low v.high) × (v.month ≡ month_of raised)
let_through fs v tells =
    let shown = tells.shows raised (refl, refl) (omega (arith, raised_month)) in
    by_worth _ _ shown.worth shown.worth_tells shown.found
  where
    by_worth : (m a : ℕ) (o : Outcome Pair) → BlockTells low_in high_in fs o → done v ≡ dated_at m a o →
        Valued low_in high_in fs (pair v.low v.high) × (v.month ≡ m)
    by_worth m a (refused g) t e = absurd (refused_not_done (sym e))
    by_worth m a (done p) t e =
        let same = done_injective e in (
          subst (Valued low_in high_in fs) (sym (ap (λ (x : Value). pair x.low x.high) same)) (t.values_only p refl).2,
          ap (λ (x : Value). x.month) same,
        )

each_rounded : ValueTells 2_399 after_raised twice (done (dated (pair 0 2) 2 1)) → ⊥
each_rounded tells = omega (arith, (let_through twice _ tells).0.high_rounded.smallest 1 (omega (arith, twice_high)))

adjusted_valued : ValueTells 2_399 after_raised whole (done (dated (pair 542_712_164 542_712_255) 2 1)) → ⊥
adjusted_valued tells = omega (arith, (let_through whole _ tells).0.low_rounded.largest 553_675_753 (omega (arith, whole_low)))

told_month : (p : Pair) → ValueTells 2_399 after_raised pensions (done (dated p 3 0)) → ⊥
told_month p tells = let month = (let_through pensions _ tells).1 in omega (arith, month, raised_month)
