-- Laws of the halving: its steps, what it keeps of its ends, and that a low x is never above a high x.
use mathlib.Core.Path.{◌≡◌, refl, ap, ap₂, ◌∙◌}
use mathlib.Core.Bool.{Bool, true, false, cond, not}
use Prim.Native.Nat.{ℕ, zero, suc, ◌+◌, ◌*◌, ◌-◌, ◌/◌, ◌^◌, ◌≤◌, ◌<◌}
use native.Mathlib.Nat.{mul-le-mul, mul-le-mul_left, pow-lt-pow_left}
use native.Mathlib.Omega.{arith}
use lib.Dec.{ltb}
use lib.IntN.{ℤ, pos, negsuc}
use borrow.Author.Tests.{lt-ltb, le-ltb, ltb-true, ltb-false, leb-true, not-false}
use Rattle.method.specs.Units.{Pair, pair, rate_unit, par_value}
use Rattle.method.specs.Quotes.{Gap, surely_not_above, surely_not_below, halve, low_x, high_x, lower_end, upper_end}
use Rattle.method.proofs.Outcome.{split}
use Rattle.method.proofs.TrialLaws.{down_up, total_ordered, last_strict, last_scaled, total-scaled}

-- ---- a step

abbrev pub middle : ℕ → ℕ → ℕ
middle lo hi = lo + (hi - lo) / 2

module _ (rises : ℕ → Bool) where
  pub halve-ends : (n lo hi : ℕ) → hi - lo ≤ 1 → halve rises n lo hi ≡ pair lo hi
  unfolding halve
  halve-ends zero lo hi h = refl
  halve-ends (suc n) lo hi h = rw (le-ltb 1 (hi - lo) h)

  pub halve_rises : (n lo hi : ℕ) → 1 < hi - lo → rises (middle lo hi) ≡ true → halve rises (suc n) lo hi ≡ halve rises n (middle lo hi) hi
  unfolding halve
  halve_rises n lo hi h r = rw (lt-ltb 1 (hi - lo) h, r)

  pub halve-falls : (n lo hi : ℕ) → 1 < hi - lo → rises (middle lo hi) ≡ false → halve rises (suc n) lo hi ≡ halve rises n lo (middle lo hi)
  unfolding halve
  halve-falls n lo hi h r = rw (lt-ltb 1 (hi - lo) h, r)

-- ---- what each step keeps of the ends, the halving keeps

cond_cases : {A : Type 0} (P : A → Type 0) (b : Bool) {x y : A} → (b ≡ true → P x) → (b ≡ false → P y) → P (cond b x y)
cond_cases P true f g = f refl
cond_cases P false f g = g refl

module _ (rises : ℕ → Bool) (Kept : Pair → Type 0)
    (up : (lo hi : ℕ) → 1 < hi - lo → rises (middle lo hi) ≡ true → Kept (pair lo hi) → Kept (pair (middle lo hi) hi))
    (down : (lo hi : ℕ) → 1 < hi - lo → rises (middle lo hi) ≡ false → Kept (pair lo hi) → Kept (pair lo (middle lo hi))) where
  pub halve_keeps : (n lo hi : ℕ) → Kept (pair lo hi) → Kept (halve rises n lo hi)
  unfolding halve
  halve_keeps zero lo hi k = k
  halve_keeps (suc n) lo hi k =
      cond_cases Kept (ltb 1 (hi - lo))
      (λ t.
      let wide = ltb-true 1 (hi - lo) t in
      cond_cases Kept (rises (middle lo hi))
      (λ r. halve_keeps n (middle lo hi) hi (up lo hi wide r k))
      (λ r. halve_keeps n lo (middle lo hi) (down lo hi wide r k)))
      (λ t. k)

pub record Within (lo hi : ℕ) (p : Pair) : Type 0 where
  pub above : lo ≤ p.low
  pub ordered : p.low ≤ p.high
  pub below : p.high ≤ hi

pub halve-within : (rises : ℕ → Bool) (n lo hi : ℕ) → lo ≤ hi → Within lo hi (halve rises n lo hi)
halve-within rises n lo hi h =
    halve_keeps rises (Within lo hi)
    (λ l u w r k. record { above = omega (arith, k.above); ordered = omega arith; below = k.below })
    (λ l u w r k. record { above = k.above; ordered = omega arith; below = omega (arith, k.below) })
    n lo hi (record { above = omega arith; ordered = h; below = omega arith })

-- the lower end passes throughout, the upper fails throughout
pub halve_low_passes : (rises : ℕ → Bool) (n lo hi : ℕ) → rises lo ≡ true → rises (halve rises n lo hi).low ≡ true
halve_low_passes rises = halve_keeps rises (λ p. rises p.low ≡ true) (λ l u w r k. r) (λ l u w r k. k)

pub halve_high_fails : (rises : ℕ → Bool) (n lo hi : ℕ) → rises hi ≡ false → rises (halve rises n lo hi).high ≡ false
halve_high_fails rises = halve_keeps rises (λ p. rises p.high ≡ false) (λ l u w r k. k) (λ l u w r k. r)

-- with as many halvings as the ends are apart, they come to stand 1 apart
pub halve-meets : (rises : ℕ → Bool) (n lo hi : ℕ) → lo < hi → hi - lo ≤ n → (halve rises n lo hi).high ≡ (halve rises n lo hi).low + 1
unfolding halve
halve-meets rises zero lo hi h d = absurd (omega arith)
halve-meets rises (suc n) lo hi h d =
    let Met : Pair → Type 0 = λ p. p.high ≡ p.low + 1 in
    cond_cases Met (ltb 1 (hi - lo))
    (λ t.
    let wide = ltb-true 1 (hi - lo) t in
    cond_cases Met (rises (middle lo hi))
    (λ r. halve-meets rises n (middle lo hi) hi (omega arith) (omega arith))
    (λ r. halve-meets rises n lo (middle lo hi) (omega arith) (omega arith)))
    (λ t. omega (arith, ltb-false 1 (hi - lo) t))

-- the lower end passes unless it is the first, the upper fails unless it is the last
pub halve_low_turned : (rises : ℕ → Bool) (n lo hi : ℕ) → lo < (halve rises n lo hi).low → rises (halve rises n lo hi).low ≡ true
halve_low_turned rises n lo hi =
    halve_keeps rises (λ p. lo < p.low → rises p.low ≡ true) (λ l u w r k h. r) (λ l u w r k h. k h) n lo hi (λ h. absurd (omega arith))

pub halve_high_turned : (rises : ℕ → Bool) (n lo hi : ℕ) → (halve rises n lo hi).high < hi → rises (halve rises n lo hi).high ≡ false
halve_high_turned rises n lo hi =
    halve_keeps rises (λ p. p.high < hi → rises p.high ≡ false) (λ l u w r k h. k h) (λ l u w r k h. r) n lo hi (λ h. absurd (omega arith))

-- ---- a test that holds up to somewhere and not beyond: the halving stops where it turns

abbrev pub Falls : (ℕ → Bool) → Type 0
Falls rises = (a b : ℕ) → a ≤ b → rises b ≡ true → rises a ≡ true

module _ (rises : ℕ → Bool) (falls : Falls rises) (lo hi : ℕ) (apart : lo < hi) where
  abbrev ends : Pair
  ends = halve rises (hi - lo) lo hi

  pub ends_met : ends.high ≡ ends.low + 1
  ends_met = halve-meets rises (hi - lo) lo hi apart (omega arith)

  turned_twice : (a b : ℕ) → a ≤ b → rises b ≡ true → rises a ≡ false → ⊥
  turned_twice a b h passes fails = let z : ◌≡◌ {A = ℕ} 0 1 = cc (falls a b h passes) in omega arith

  -- none that passes lies above the lower end
  pub halve_last : (k : ℕ) → k < hi → rises k ≡ true → k ≤ ends.low
  halve_last k below passes =
      let above : ends.low < k → ⊥ =
      λ h. turned_twice ends.high k (omega (arith, ends_met)) passes (halve_high_turned rises (hi - lo) lo hi (omega (arith, ends_met))) in
      omega (arith, above)

  -- none that fails lies below the upper
  pub halve-first : (k : ℕ) → lo < k → rises k ≡ false → ends.high ≤ k
  halve-first k above fails =
      let below : k < ends.high → ⊥ =
      λ h. turned_twice k ends.low (omega (arith, ends_met)) (halve_low_turned rises (hi - lo) lo hi (omega (arith, ends_met))) fails in
      omega (arith, below)

  -- so it stops at no other place
  pub halve_is : (m : ℕ) → lo ≤ m → m < hi → (lo < m → rises m ≡ true) → (m + 1 < hi → rises (m + 1) ≡ false) → ends ≡ pair m (m + 1)
  halve_is m from below here next =
      let within = halve-within rises (hi - lo) lo hi (omega arith) in
      let at_least : m ≤ ends.low =
      split (ltb lo m) (λ q. halve_last m below (here (ltb-true lo m q))) (λ q. omega (arith, ltb-false lo m q)) in
      let at_most : ends.high ≤ m + 1 =
      split (ltb (m + 1) hi) (λ q. halve-first (m + 1) (omega arith) (next (ltb-true (m + 1) hi q))) (λ q. omega (arith, ltb-false (m + 1) hi q)) in
      let low : ends.low ≡ m = omega (arith, ends_met) in
      ap₂ pair low (ends_met ∙ ap (λ (k : ℕ). k + 1) low)

-- ---- the low and the high x

pub low_x-within : (g : Gap) → (lower_end ≤ low_x g) × (low_x g ≤ upper_end)
unfolding low_x
low_x-within g = omega (arith, halve-within (surely_not_above g) (upper_end - lower_end) lower_end upper_end (omega arith))

pub high_x-within : (g : Gap) → (lower_end ≤ high_x g) × (high_x g ≤ upper_end)
unfolding high_x
high_x-within g = omega (arith, halve-within (λ x. not (surely_not_below g x)) (upper_end - lower_end) lower_end upper_end (omega arith))

pub low_x_passes : (g : Gap) → surely_not_above g lower_end ≡ true → surely_not_above g (low_x g) ≡ true
unfolding low_x
low_x_passes g h = halve_low_passes (surely_not_above g) _ _ _ h

pub high_x_passes : (g : Gap) → surely_not_below g upper_end ≡ true → surely_not_below g (high_x g) ≡ true
unfolding high_x
high_x_passes g h = not-false _ (halve_high_fails (λ x. not (surely_not_below g x)) _ _ _ (ap not h))

-- ---- what is surely not above par lies at or below what is surely not below

pub record InOrder (g : Gap) : Type 0 where
  pub annuity : g.annuity.low ≤ g.annuity.high
  pub start : g.start.low ≤ g.start.high
  pub positive : 0 < g.start.high
  pub years : 0 < g.years

-- at a rate of 0 or more all grows with x: a larger x would end higher
crossing_up : (r al ah sl sh tl th : ℕ) → al ≤ ah → sl ≤ sh → tl < th →
    r * (ah + sh) + rate_unit * th ≤ par_value → par_value ≤ r * (al + sl) + rate_unit * tl → ⊥
crossing_up r al ah sl sh tl th a s t above below = omega (arith, mul-le-mul_left r a, mul-le-mul_left r s)

-- below 0, with p < q the powers of the two x: the larger x has its Tk at least q / p times as high, its S at most
crossing_down : (r p q al ah sl sh tl th : ℕ) → p < q → al ≤ ah → p * sl ≤ q * sh → q * tl ≤ p * th →
    rate_unit * th ≤ par_value + r * (al + sl) → par_value + r * (ah + sh) ≤ rate_unit * tl → ⊥
crossing_down r p q al ah sl sh tl th pq a s t above below =
    omega (arith, mul-le-mul_left p above, mul-le-mul_left q below, mul-le-mul_left r s, mul-le-mul_left r (mul-le-mul {n₁ = p} {n₂ = q} (omega arith) a))

abbrev gap : ℤ → ℕ → Pair → Pair → Gap
gap r k a t = record { rate = r; years = k; annuity = a; start = t }

not_both : (r : ℤ) (k : ℕ) (a t : Pair) (x y : ℕ) → InOrder (gap r k a t) → y < x →
    surely_not_above (gap r k a t) x ≡ true → surely_not_below (gap r k a t) y ≡ true → ⊥
unfolding surely_not_above surely_not_below
not_both r zero a t x y o yx above below = absurd (omega (arith, o.years))
not_both (pos r) (suc k) a t x y o yx above below =
    let less : y ≤ x = omega arith in
    crossing_up r _ _ _ _ _ _ o.annuity
    (total_ordered down_up o.start less (suc k)) (last_strict o.start o.positive yx k)
    (leb-true _ _ above) (leb-true _ _ below)
not_both (negsuc r) (suc k) a t x y o yx above below =
    crossing_down (suc r) (y ^ suc k) (x ^ suc k) _ _ _ _ _ _ (pow-lt-pow_left yx (λ e. omega (arith, e))) o.annuity
    (total-scaled o.start x y (omega arith) (suc k)) (last_scaled o.start y x (suc k))
    (leb-true _ _ above) (leb-true _ _ below)

pub crossing : (g : Gap) (x y : ℕ) → InOrder g → surely_not_above g x ≡ true → surely_not_below g y ≡ true → x ≤ y
crossing g x y o above below =
    let no : y < x → ⊥ = λ yx. not_both g.rate g.years g.annuity g.start x y o yx above below in omega (arith, no)

pub low_x-≤-high_x : (g : Gap) → InOrder g → surely_not_above g lower_end ≡ true → surely_not_below g upper_end ≡ true → low_x g ≤ high_x g
low_x-≤-high_x g o low high = crossing g _ _ o (low_x_passes g low) (high_x_passes g high)
