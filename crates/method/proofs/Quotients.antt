-- Rounded quotients as the series take them: what they enclose, and that they grow with what is divided.
use mathlib.Core.Bool.{Bool, true, false}
use mathlib.Core.List.{[], ◌∷◌}
use mathlib.Core.Path.{◌≡◌, sym, ap, ◌∙◌}
use Prim.Native.Nat.{ℕ, zero, suc, ◌+◌, ◌*◌, ◌-◌, ◌/◌, ◌%◌, ◌≤◌, ◌<◌}
use native.Mathlib.Nat.{mul-pos, zero-lt-suc, div-zero, le-div_iff_mul-le, div-lt_iff_lt-mul, div-mul-le_self, le_refl, le_trans}
use native.Mathlib.Nat.{mul-add-div_right, div-add-mod', mul-le-mul_left, div-le_of_le-mul, lt-div-mul-add}
use native.Mathlib.Omega.{arith}
use lib.IntN.{pos}
use Rattle.fraction.specs.Fraction.{ℚ, ◌≈◌, ◌≤ℚ◌, nat_ℚ, ◌+ℚ◌, ◌-ℚ◌, ◌*ℚ◌, ◌÷◌, recip}
use Rattle.fraction.specs.Rounding.{ceil_div, round_ℕ, Encloses}
use Rattle.fraction.proofs.Order.{≤ℚ-refl, ≤ℚ-antisym, ≤ℚ-≈-trans, ≈-≤ℚ-trans, ≈-sym, ≈-trans}
use Rattle.fraction.proofs.Product.{*ℚ-comm, *ℚ-assoc, *ℚ-cong, *ℚ-cong-left, *ℚ-cong-right, *ℚ-one}
use Rattle.fraction.proofs.Quotient.{*ℚ-recip, ÷-*ℚ, ÷-unique, ÷-cong-left, ≤-÷, ÷-≤}
use Rattle.fraction.proofs.Integer.{nat_ℚ_positive, nat_ℚ_mono, natℚ-+, natℚ-*, natℚ-∸}
use Rattle.fraction.proofs.Enclosure.{nat_encloses}
use Rattle.fraction.proofs.Ring.{var, ⊖, ◌⊕◌, ◌⊗◌}
use Rattle.fraction.proofs.RingFraction.{ring_ℚ}

pub nat_exact : (a : ℕ) → Encloses (pos a) (pos a) (nat_ℚ a)
nat_exact a = nat_encloses (≤ℚ-refl (nat_ℚ a)) (≤ℚ-refl (nat_ℚ a))

-- divided by a product: by one factor after the other
pub ÷-product : (x : ℚ) {a b : ℕ} → 0 < a → 0 < b → x ÷ nat_ℚ (a * b) ≈ (x ÷ nat_ℚ a) ÷ nat_ℚ b
÷-product x {a} {b} h k =
    let q : ℚ = (x ÷ nat_ℚ a) ÷ nat_ℚ b in
    ≈-sym
    (÷-unique (nat_ℚ_positive (mul-pos h k))
    (≈-trans (*ℚ-cong-right q (≈-trans (natℚ-* a b) (*ℚ-comm (nat_ℚ a) (nat_ℚ b))))
    (≈-trans (≈-sym (*ℚ-assoc q (nat_ℚ b) (nat_ℚ a)))
    (≈-trans (*ℚ-cong-left (nat_ℚ a) (÷-*ℚ (x ÷ nat_ℚ a) (nat_ℚ_positive k))) (÷-*ℚ x (nat_ℚ_positive h))))))

pub ratio-≤ : (a c : ℕ) {b d : ℕ} → 0 < b → 0 < d → a * d ≤ c * b → nat_ℚ a ÷ nat_ℚ b ≤ℚ nat_ℚ c ÷ nat_ℚ d
ratio-≤ a c {b} {d} h k l =
    ÷-≤ (nat_ℚ_positive h)
    (≤ℚ-≈-trans
    (≤-÷ (nat_ℚ_positive k) (≈-≤ℚ-trans (≈-sym (natℚ-* a d)) (≤ℚ-≈-trans (nat_ℚ_mono l) (natℚ-* c b))))
    (ring_ℚ (nat_ℚ c ∷ nat_ℚ b ∷ recip (nat_ℚ d) ∷ []) ((var 0 ⊗ var 1) ⊗ var 2) ((var 0 ⊗ var 2) ⊗ var 1) tt))

pub same_ratio : (a c : ℕ) {b d : ℕ} → 0 < b → 0 < d → a * d ≡ c * b → nat_ℚ a ÷ nat_ℚ b ≈ nat_ℚ c ÷ nat_ℚ d
same_ratio a c h k e = ≤ℚ-antisym (ratio-≤ a c h k (omega arith)) (ratio-≤ c a k h (omega arith))

pub ratio-+ : (a b d : ℕ) → nat_ℚ a ÷ nat_ℚ d +ℚ nat_ℚ b ÷ nat_ℚ d ≈ nat_ℚ (a + b) ÷ nat_ℚ d
ratio-+ a b d =
    ≈-trans (ring_ℚ (nat_ℚ a ∷ nat_ℚ b ∷ recip (nat_ℚ d) ∷ []) (var 0 ⊗ var 2 ⊕ var 1 ⊗ var 2) ((var 0 ⊕ var 1) ⊗ var 2) tt)
    (÷-cong-left (nat_ℚ d) (≈-sym (natℚ-+ a b)))

pub ratio_minus : (a b d : ℕ) → b ≤ a → nat_ℚ a ÷ nat_ℚ d -ℚ nat_ℚ b ÷ nat_ℚ d ≈ nat_ℚ (a - b) ÷ nat_ℚ d
ratio_minus a b d h =
    ≈-trans (ring_ℚ (nat_ℚ a ∷ nat_ℚ b ∷ recip (nat_ℚ d) ∷ []) (var 0 ⊗ var 2 ⊕ ⊖ (var 1 ⊗ var 2)) ((var 0 ⊕ ⊖ (var 1)) ⊗ var 2) tt)
    (÷-cong-left (nat_ℚ d) (≈-sym (natℚ-∸ h)))

pub ratio-* : (a c : ℕ) {b d : ℕ} → 0 < b → 0 < d → (nat_ℚ a ÷ nat_ℚ b) *ℚ (nat_ℚ c ÷ nat_ℚ d) ≈ nat_ℚ (a * c) ÷ nat_ℚ (b * d)
ratio-* a c {b} {d} h k =
    let lhs : ℚ = (nat_ℚ a ÷ nat_ℚ b) *ℚ (nat_ℚ c ÷ nat_ℚ d) in
    ÷-unique (nat_ℚ_positive (mul-pos h k))
    (≈-trans (*ℚ-cong-right lhs (natℚ-* b d))
    (≈-trans
    (ring_ℚ (nat_ℚ a ∷ nat_ℚ b ∷ recip (nat_ℚ b) ∷ nat_ℚ c ∷ nat_ℚ d ∷ recip (nat_ℚ d) ∷ [])
    (((var 0 ⊗ var 2) ⊗ (var 3 ⊗ var 5)) ⊗ (var 1 ⊗ var 4))
    ((var 0 ⊗ var 3) ⊗ ((var 1 ⊗ var 2) ⊗ (var 4 ⊗ var 5)))
    tt)
    (≈-trans
    (*ℚ-cong (≈-sym (natℚ-* a c)) (≈-trans (*ℚ-cong (*ℚ-recip (nat_ℚ_positive h)) (*ℚ-recip (nat_ℚ_positive k))) (*ℚ-one (nat_ℚ 1))))
    (*ℚ-one (nat_ℚ (a * c))))))

pub ceil_div-≤ : {a m d : ℕ} → 0 < d → a ≤ m * d → ceil_div a d ≤ m
ceil_div-≤ {a} {m} {d} h l =
    let next : ceil_div a d < suc m = (div-lt_iff_lt-mul h).1 (omega arith) in
    omega arith

-- up, a quotient covers what was divided
pub ceil_div_covers : (a d : ℕ) → 0 < d → a ≤ ceil_div a d * d
ceil_div_covers a d h = omega (arith, lt-div-mul-add {a = a + (d - 1)} h)

-- it falls with its divisor
pub div_anti : {a b c e : ℕ} → a ≤ b → 0 < c → c ≤ e → a / e ≤ b / c
div_anti {a} {b} {c} {e} h p k = (le-div_iff_mul-le p).1 (le_trans (mul-le-mul_left (a / e) k) (le_trans (div-mul-le_self a e) h))

pub ceil_div_anti : {a b c e : ℕ} → a ≤ b → 0 < c → c ≤ e → ceil_div a e ≤ ceil_div b c
ceil_div_anti {a} {b} {c} {e} h p k =
    ceil_div-≤ (omega arith) (le_trans h (le_trans (ceil_div_covers b c p) (mul-le-mul_left (ceil_div b c) k)))

-- over d and times e, at least d: no more than there was; the other way about, no less
pub shrinks : (a : ℕ) {d e : ℕ} → 0 < d → d ≤ e → (a * d / e ≤ a) × (ceil_div (a * d) e ≤ a)
shrinks a {d} {e} p h =
    let whole = mul-le-mul_left a h in
    (div-le_of_le-mul e (omega (arith, whole)), ceil_div-≤ (omega arith) whole)

pub grows : (a : ℕ) {d e : ℕ} → 0 < d → d ≤ e → (a ≤ a * e / d) × (a ≤ ceil_div (a * e) d)
grows a p h =
    let whole = mul-le-mul_left a h in
    ((le-div_iff_mul-le p).1 whole, (le-div_iff_mul-le p).1 (omega (arith, whole)))

-- ---- over any divisor (over 0 the quotient is 0)

-- one way of rounding never gives more than another does for as much or more
pub record Below (round round' : ℕ → ℕ → ℕ) : Type 0 where
  pub below : {a b : ℕ} (d : ℕ) → a ≤ b → round a d ≤ round' b d

div_mono : {a b : ℕ} (d : ℕ) → a ≤ b → a / d ≤ b / d
div_mono {a} {b} zero h = omega (arith, div-zero a, div-zero b)
div_mono {a} {b} (suc d) h = (le-div_iff_mul-le (zero-lt-suc d)).1 (le_trans (div-mul-le_self a (suc d)) h)

pub down_below_down : Below ◌/◌ ◌/◌
down_below_down = record { below = div_mono }

pub up_below_up : Below ceil_div ceil_div
up_below_up = record { below = λ d h. div_mono d (omega arith) }

pub down_below_up : Below ◌/◌ ceil_div
down_below_up = record { below = λ d h. div_mono d (omega arith) }

-- neither side passes a bound that the exact quotient keeps
pub round-≤ : (up : Bool) {a m d : ℕ} → 0 < d → a ≤ m * d → round_ℕ up a d ≤ m
round-≤ true h l = ceil_div-≤ h l
round-≤ false {a} {m} {d} h l = le_trans (down_below_up.below d (le_refl a)) (ceil_div-≤ h l)

-- ---- a product over d, part by part: the whole ds of one factor need no rounding. One law for down and up

module _ (up : Bool) {d : ℕ} (h : 0 < d) where
  round_split : (x y : ℕ) → round_ℕ up (x * d + y) d ≡ x + round_ℕ up y d
  round_split = by_side up
    where
      by_side : (up : Bool) (x y : ℕ) → round_ℕ up (x * d + y) d ≡ x + round_ℕ up y d
      by_side false x y = mul-add-div_right h x y
      by_side true x y =
          let e : x * d + y + (d - 1) ≡ x * d + (y + (d - 1)) = omega arith in
          ap (λ (k : ℕ). k / d) e ∙ mul-add-div_right h x (y + (d - 1))

  pub split_product : (a m : ℕ) → round_ℕ up (a * m) d ≡ a / d * m + round_ℕ up (a % d * m) d
  split_product a m = ap (λ (k : ℕ). round_ℕ up k d) parts ∙ round_split (a / d * m) (a % d * m)
    where
      whole_and_rest : (q r : ℕ) → (q * d + r) * m ≡ q * m * d + r * m
      whole_and_rest q r = omega arith

      parts : a * m ≡ a / d * m * d + a % d * m
      parts = ap (λ (k : ℕ). k * m) (sym (div-add-mod' a d)) ∙ whole_and_rest (a / d) (a % d)
