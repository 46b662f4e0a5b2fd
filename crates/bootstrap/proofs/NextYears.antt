-- The next years, one by one: a year's verdict, and what is then left to be worked.
use mathlib.Core.Path.{◌≡◌, refl, ap, subst⁻¹, ◌∙◌}
use mathlib.Core.Bool.{Bool, true, false}
use mathlib.Core.List.{List, [], ◌∷◌, ◌++◌}
use Prim.Native.Nat.{ℕ, zero, suc, ◌+◌, ◌-◌, ◌*◌, ◌/◌, ◌≤◌, ◌<◌}
use native.Mathlib.Nat.{mul-le-mul}
use native.Mathlib.Omega.{arith}
use lib.Dec.{ltb, le→leb}
use lib.IntN.{ℤ, pos, nat_abs}
use lib.Signed.{le_z_yes, ◌≤ℤ◌}
use borrow.Author.Tests.{ltb-true, ltb-false, lt-ltb, le-ltb}
use Rattle.fraction.specs.Rounding.{U, ceil_div}
use Rattle.method.specs.Units.{Pair, SignedPair, pair}
use Rattle.method.specs.Grounds.{Ground, Outcome, refused, done, ◌>>=◌}
use Rattle.method.specs.Quotes.{annuity, par_low, par_high, next_year, quoted_year}
use Rattle.method.proofs.TrialLaws.{down_up}
use Rattle.method.proofs.QuotesLaws.{inside_none, inside_more, quoted_next}
use Rattle.method.proofs.Outcome.{bind_assoc, split}
use Rattle.method.proofs.QuotesBounds.{par_ordered}
use Rattle.bootstrap.specs.Years.{next_factor, next_years}

-- ---- the definition, a year at a time

bind_done_right : {A : Type 0} (o : Outcome A) → o ≡ (o >>= done)
bind_done_right (refused g) = refl
bind_done_right (done a) = refl

module _ (t x : Pair) (r : ℤ) (ps : List Pair) where
  pub last_by_par : next_years t x 1 r ps ≡ quoted_year r ps
  last_by_par = ap (λ (o : Outcome (List Pair)). o >>= quoted_year r) (inside_none ◌/◌ ceil_div t.low t.high x.low x.high ps)

  one_more : (left : ℕ) → 0 < left →
      let n = next_factor (ltb 1 left) t x r (annuity ps) in
      next_years t x left r ps ≡ (next_year ps n.low n.high >>= next_years (pair (nat_abs n.low) (nat_abs n.high)) x (left - 1) r)
  one_more zero h = absurd (omega arith)
  one_more (suc zero) h = last_by_par ∙ quoted_next r ps ∙ bind_done_right (next_year ps (par_low r (annuity ps)) (par_high r (annuity ps)))
  one_more (suc (suc k)) h =
      let left : suc (suc k) - 1 ≡ suc k = omega arith in
      let l = t.low * x.low / U in
      let u = ceil_div (t.high * x.high) U in
      rw (lt-ltb 1 (suc (suc k)) (omega arith), left)
      (ap (λ (o : Outcome (List Pair)). o >>= quoted_year r) (inside_more ◌/◌ ceil_div t.low t.high x.low x.high ps k) ∙
      bind_assoc (next_year ps (pos l) (pos u)) _ (quoted_year r))

-- ---- a low stays at most its high

pub next_ordered : (inside : Bool) (t x : Pair) (r : ℤ) (a : Pair) → t.low ≤ t.high → x.low ≤ x.high → a.low ≤ a.high →
    let n = next_factor inside t x r a in
    n.low ≤ℤ n.high
next_ordered true t x r a ht hx ha = le_z_yes (le→leb _ _ (down_up.holds _ _ (mul-le-mul ht hx)))
next_ordered false t x r a ht hx ha = par_ordered r a ha

pub as_ordered : {n m : SignedPair} → n ≡ m → m.low ≤ℤ m.high → n.low ≤ℤ n.high
as_ordered e h = subst⁻¹ (λ (p : SignedPair). p.low ≤ℤ p.high) e h

-- ---- a year, judged

-- the last of k years, or one inside, by how many are left
pub year_inside : (year k : ℕ) → year ≤ k → ltb year k ≡ ltb 1 (k + 1 - year)
year_inside year k h =
    split (ltb year k) (λ e. rw (e, lt-ltb 1 (k + 1 - year) (omega (arith, ltb-true year k e))) refl)
    (λ e. rw (e, le-ltb 1 (k + 1 - year) (omega (arith, ltb-false year k e))) refl)

-- the next of `left` years from t at x, whose low and high are n's
module _ (t x : Pair) (r : ℤ) (left : ℕ) (ps : List Pair) {n : SignedPair} (some : 0 < left) (is : n ≡ next_factor (ltb 1 left) t x r (annuity ps)) where
  abbrev others : List Pair → Outcome (List Pair)
  others = next_years (pair (nat_abs n.low) (nat_abs n.high)) x (left - 1) r

  whole : next_years t x left r ps ≡ (next_year ps n.low n.high >>= others)
  whole = rw is (one_more t x r ps left some)

  pub year_stops : {g : Ground} → refused g ≡ next_year ps n.low n.high → next_years t x left r ps ≡ refused g
  year_stops e = rw (← e) at whole

  pub year_goes : {p : Pair} → done (ps ++ p ∷ []) ≡ next_year ps n.low n.high → p ≡ pair (nat_abs n.low) (nat_abs n.high) →
      next_years t x left r ps ≡ next_years p x (left - 1) r (ps ++ p ∷ [])
  year_goes {p} e k = rw (← e, ← k) at whole
