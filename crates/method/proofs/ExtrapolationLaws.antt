-- Laws of the extrapolation: the cases of a year, and what keeps a low at most its high.
use mathlib.Core.Path.{◌≡◌, refl}
use mathlib.Core.List.{List, [], ◌∷◌, ◌++◌, append_assoc}
use Prim.Native.Nat.{ℕ, zero, suc, ◌+◌, ◌≤◌, ◌<◌, suc-le-suc}
use native.Mathlib.Nat.{mul-le-mul_right, le_trans}
use native.Mathlib.Omega.{arith}
use borrow.Author.Tests.{le-leb, lt-leb}
use lib.Dec.{leb→le}
use lib.IntN.{ℤ, pos, negsuc}
use lib.Signed.{◌≤ℤ◌}
use Rattle.fraction.specs.Fraction.{ℚ, nat_ℚ, ◌÷◌}
use Rattle.fraction.specs.Rounding.{U, Encloses}
use Rattle.fraction.proofs.Order.{≤ℚ-refl, ≈-sym, ≈-trans}
use Rattle.fraction.proofs.Product.{*ℚ-comm}
use Rattle.fraction.proofs.Integer.{nat_ℚ_mono, nat_ℚ_positive}
use Rattle.fraction.proofs.Quotient.{÷-*ℚ}
use Rattle.fraction.proofs.Rounding.{U-positive}
use Rattle.fraction.proofs.Enclosure.{between_ℤ, encloses_ordered, encloses-≈, encloses_ratio, encloses_scaled, nat_encloses}
use Rattle.method.specs.Units.{Pair, SignedPair, signed_pair}
use Rattle.method.specs.Grounds.{high_above_limit, Outcome, refused, done, ◌>>=◌}
use Rattle.method.specs.Quotes.{highest_factor}
use Rattle.method.specs.Series.{growth, growth_low, growth_high}
use Rattle.method.specs.Extrapolation.{forward, step_low, step_high, step_with, step, extrapolate_with}
use Rattle.method.specs.Extrapolation.{extrapolate, billionths, steps_with, steps, adjusted_years_with, adjusted_years}
use Rattle.method.specs.True.{billion}
use Rattle.method.proofs.Quotients.{shrinks, grows, down_below_up}
use Rattle.method.proofs.Growth.{growth_mono}
use Rattle.method.proofs.Forward.{Weighs, forward_encloses}

-- ---- a year is worked, or refused by ground 8

-- the years that are done, put before those that are left
abbrev pub after : List Pair → Outcome (List Pair) → Outcome (List Pair)
after ps (refused g) = refused g
after ps (done qs) = done (ps ++ qs)

pub after_none : (o : Outcome (List Pair)) → after [] o ≡ o
after_none (refused g) = refl
after_none (done qs) = refl

pub after-after : (ps qs : List Pair) (o : Outcome (List Pair)) → after ps (after qs o) ≡ after (ps ++ qs) o
after-after ps qs (refused g) = refl
after-after ps qs (done rs) = rw append_assoc

after_one : (p : Pair) (o : Outcome (List Pair)) → (o >>= (λ qs. done (p ∷ qs))) ≡ after (p ∷ []) o
after_one p (refused g) = refl
after_one p (done qs) = refl

module _ (l f : SignedPair) (κ : Pair) (κs : List Pair) (year : ℕ) (p : Pair) where
  pub year_worked : (step (forward l f κ) p).high ≤ highest_factor →
      extrapolate l f (κ ∷ κs) year p ≡ after (step (forward l f κ) p ∷ []) (extrapolate l f κs (year + 1) (step (forward l f κ) p))
  unfolding extrapolate_with
  year_worked h = rw (le-leb _ _ h) (after_one (step (forward l f κ) p) (extrapolate l f κs (year + 1) (step (forward l f κ) p)))

  pub year_refused : highest_factor < (step (forward l f κ) p).high → extrapolate l f (κ ∷ κs) year p ≡ refused (high_above_limit year)
  unfolding extrapolate_with
  year_refused h = rw (lt-leb _ _ h)

pub no_year_lem : (l f : SignedPair) (year : ℕ) (p : Pair) → extrapolate l f [] year p ≡ done []
unfolding extrapolate_with
no_year_lem l f year p = refl

-- ---- so is an adjusted year

module _ (a : ℤ) (p : Pair) (ps : List Pair) (year : ℕ) where
  abbrev taken : Pair
  taken = steps (signed_pair (billionths a) (billionths a)) year p

  pub adjusted_worked : taken.high ≤ highest_factor → adjusted_years a year (p ∷ ps) ≡ after (taken ∷ []) (adjusted_years a (year + 1) ps)
  unfolding adjusted_years_with
  adjusted_worked h = rw (le-leb _ _ h) (after_one taken (adjusted_years a (year + 1) ps))

  pub adjusted_refused : highest_factor < taken.high → adjusted_years a year (p ∷ ps) ≡ refused (high_above_limit year)
  unfolding adjusted_years_with
  adjusted_refused h = rw (lt-leb _ _ h)

pub none_adjusted : (a : ℤ) (year : ℕ) → adjusted_years a year [] ≡ done []
unfolding adjusted_years_with
none_adjusted a year = refl

-- ---- what keeps the low at most the high

between : {a b : ℕ} → a ≤ b → Encloses (pos a) (pos b) (nat_ℚ a)
between {a} h = nat_encloses (≤ℚ-refl (nat_ℚ a)) (nat_ℚ_mono h)

ordered : {a b : ℕ} {x : ℚ} → Encloses (pos a) (pos b) x → a ≤ b
ordered {a} {b} h = leb→le a b (encloses_ordered h).le

pub growth_ordered : (y z : ℕ) → y ≤ z → growth_low y ≤ growth_high z
growth_ordered y z h = omega (arith, growth_mono down_below_up h)

-- a year's step, at an ordered forward
pub step_ordered : (f : SignedPair) (p : Pair) → f.low ≤ℤ f.high → p.low ≤ p.high → (step f p).low ≤ (step f p).high
unfolding step_with growth
step_ordered f p hf hp = go f.low f.high hf
  where
    go : (a b : ℤ) → a ≤ℤ b → step_low b p.low ≤ step_high a p.high
    go (pos a) (pos b) h =
        ordered (encloses_ratio (omega arith) (omega arith) (between (mul-le-mul_right U hp)) (between (growth_ordered a b (leb→le a b h.le))))
    go (negsuc a) (pos b) h =
        let fallen = (shrinks p.low {e = growth_high b} U-positive (omega arith)).0 in
        let risen = (grows p.high {e = growth_high (suc a)} U-positive (omega arith)).1 in
        le_trans fallen (le_trans hp risen)
    go (pos a) (negsuc b) h = absurd h.le
    go (negsuc a) (negsuc b) h = ordered (encloses_scaled U-positive (between hp) (between (growth_ordered (suc b) (suc a) (suc-le-suc (leb→le b a h.le)))))

-- t of them
pub steps_ordered : (f : SignedPair) (t : ℕ) (p : Pair) → f.low ≤ℤ f.high → p.low ≤ p.high → (steps f t p).low ≤ (steps f t p).high
unfolding steps_with
steps_ordered f zero p hf hp = hp
steps_ordered f (suc t) p hf hp = steps_ordered f t (step f p) hf (step_ordered f p hf hp)

-- and a year's forward, between ordered ones
pub forward_ordered : (l f : SignedPair) (κ : Pair) → κ.low ≤ κ.high → κ.high ≤ U → l.low ≤ℤ l.high → f.low ≤ℤ f.high →
    (forward l f κ).low ≤ℤ (forward l f κ).high
forward_ordered l f κ o u hl hf = encloses_ordered (forward_encloses l f κ (between_ℤ hl) (between_ℤ hf) weighs)
  where
    weighs : Weighs κ (nat_ℚ κ.low ÷ billion)
    weighs = record { at_most_U = u; weight = encloses-≈ (≈-sym (≈-trans (*ℚ-comm _ _) (÷-*ℚ (nat_ℚ κ.low) (nat_ℚ_positive U-positive)))) (between o) }
