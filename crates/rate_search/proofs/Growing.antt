-- A year's growth in 64 bits: cut where it is past every bound.
use Rattle.std.proofs.Common.{◌≡◌, ℕ, zero, suc, ◌*◌, ◌<◌, ◌≤◌, min, Bool, true, false, leb}
use Rattle.std.proofs.Common.{refl, sym, ap, ◌+◌, ◌∙◌, add-one, le_trans, le_refl, mul-le-mul_left, le-div_iff_mul-le, arith, lit<, leb-false, leb-true}
use native.Mathlib.Nat.{min-eq_left}
use Rattle.fraction.specs.Rounding.{U, round_ℕ}
use Rattle.method.specs.Units.{rate_unit}
use Rattle.method.proofs.Outcome.{split}
use Rattle.method.proofs.Quotients.{down_below_up, round-≤}
use Rattle.zero_rates.specs.Rates.{compound}
use Rattle.rate_search.specs.Search.{cap, growth_cut}

-- ---- a rounded quotient

round-≥ : (up : Bool) {a k : ℕ} → k * rate_unit ≤ a → k ≤ round_ℕ up a rate_unit
round-≥ false h = (le-div_iff_mul-le (lit< tt)).1 h
round-≥ true {a} h = le_trans ((le-div_iff_mul-le (lit< tt)).1 h) (down_below_up.below {a = a} {b = a} rate_unit (le_refl a))

-- ---- growth that is cut: a multiplier of at most one never grows past U, any other never falls again

small_growth_lem : (up : Bool) (m : ℕ) → m ≤ rate_unit → (t : ℕ) → compound up m t ≤ U
unfolding compound
small_growth_lem up m h zero = le_refl U
small_growth_lem up m h (suc t) =
    le_trans (round-≤ up {a = compound up m t * m} {m = compound up m t} (lit< tt) (mul-le-mul_left (compound up m t) h)) (small_growth_lem up m h t)

never_falls : (up : Bool) (g m : ℕ) → rate_unit ≤ m → g ≤ round_ℕ up (g * m) rate_unit
never_falls up g m h = round-≥ up {a = g * m} {k = g} (mul-le-mul_left g h)

past_cap : (up : Bool) (g m : ℕ) → cap < g → rate_unit < m → min (round_ℕ up (g * m) rate_unit) cap ≡ min (round_ℕ up (min g cap * m) rate_unit) cap
past_cap up g m h l =
    let cut : min g cap ≡ cap = omega arith in
    rw cut (omega (arith, never_falls up g m (omega arith), never_falls up cap m (omega arith)))

pub cut_more : (up : Bool) (m t : ℕ) → growth_cut up m (suc t) ≡ min (round_ℕ up (growth_cut up m t * m) rate_unit) cap
unfolding compound
cut_more up m t =
    let g = compound up m t in
    split (leb g cap)
    (λ q. rw (min-eq_left (leb-true g cap q)))
    (λ q. let past = leb-false g cap q in
    split (leb m rate_unit)
    (λ r. absurd (omega (arith, small_growth_lem up m (leb-true m rate_unit r) t)))
    (λ r. past_cap up g m past (leb-false m rate_unit r)))

pub cut_none : (up : Bool) (m : ℕ) → growth_cut up m 0 ≡ U
unfolding compound
cut_none up m = refl

-- one more year
pub grown_more : (up : Bool) (m t : ℕ) {g r : ℕ} → g ≡ growth_cut up m t → r ≡ min (round_ℕ up (g * m) rate_unit) cap → r ≡ growth_cut up m (t + 1)
grown_more up m t e r =
    r ∙ ap (λ (k : ℕ). min (round_ℕ up (k * m) rate_unit) cap) e ∙ sym (cut_more up m t) ∙ ap (growth_cut up m) (sym (add-one t))
