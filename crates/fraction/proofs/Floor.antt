-- Floor and ceiling of an integer over a positive natural: each is the nearest integer on its side.
use mathlib.Core.Path.{◌≡◌, refl, ap, sym, ◌∙◌}
use Prim.Native.Nat.{ℕ, zero, suc, ◌+◌, ◌-◌, ◌/◌, ◌<◌}
use native.Mathlib.Nat.{div-mul-le_self, lt-div-mul-add, zero-div, add-div_right, div-eq_of_lt}
use native.Mathlib.Omega.{arith}
use lib.Dec.{le→leb}
use lib.IntN.{ℤ, pos, negsuc, neg_ℤ, ◌*ℤ◌}
use lib.Signed.{◌≤ℤ◌}
use Rattle.fraction.specs.Fraction.{◌≈◌, ◌≤ℚ◌, ◌<ℚ◌, nat_ℚ, int_ℚ, neg_ℚ, ◌+ℚ◌, ◌-ℚ◌, ◌*ℚ◌, ◌÷◌}
use Rattle.fraction.specs.Rounding.{floor, ceiling, ceil_div}
use Rattle.fraction.proofs.Order.{≤ℚ-trans, ≤ℚ-<ℚ-trans, <ℚ-≤ℚ-trans, ≤ℚ-≈-trans, ≈-≤ℚ-trans, ≈→≤, ≈→≥, ≈-sym, ≈-trans, ≈-refl}
use Rattle.fraction.proofs.Sum.{neg_ℚ_anti, neg_ℚ_strict, neg_ℚ_cong, neg_ℚ-neg_ℚ, negℚ-+ℚ, +ℚ-cong}
use Rattle.fraction.proofs.Product.{negℚ-*ℚ, *ℚ-comm, *ℚ-cong-left}
use Rattle.fraction.proofs.Integer.{nat_ℚ_positive, int_ℚ-pos, int_ℚ_neg, intℚ-*, int_ℚ_mono, int_ℚ_reflects, ≤ℤ-antisym}
use Rattle.fraction.proofs.Quotient.{≤-÷, ÷-<, ÷-unique, ÷-mono-left}

-- ---- floor

floor_times : (z : ℤ) (d : ℕ) → 0 < d → int_ℚ (floor z d) *ℚ nat_ℚ d ≤ℚ int_ℚ z
unfolding int_ℚ nat_ℚ ◌*ℚ◌
floor_times (pos a) d h = omega (arith, div-mul-le_self a d)
floor_times (negsuc a) d h = omega (arith, lt-div-mul-add {a = a} h)

next_times : (z : ℤ) (d : ℕ) → 0 < d → int_ℚ z <ℚ (int_ℚ (floor z d) +ℚ nat_ℚ 1) *ℚ nat_ℚ d
unfolding int_ℚ nat_ℚ ◌*ℚ◌ ◌+ℚ◌
next_times (pos a) d h = omega (arith, lt-div-mul-add {a = a} h)
next_times (negsuc a) d h = omega (arith, div-mul-le_self a d)

pub floor-≤ : (z : ℤ) {d : ℕ} → 0 < d → int_ℚ (floor z d) ≤ℚ int_ℚ z ÷ nat_ℚ d
floor-≤ z {d} h = ≤-÷ (nat_ℚ_positive h) (floor_times z d h)

pub floor-within_1 : (z : ℤ) {d : ℕ} → 0 < d → int_ℚ z ÷ nat_ℚ d <ℚ int_ℚ (floor z d) +ℚ nat_ℚ 1
floor-within_1 z {d} h = ÷-< (nat_ℚ_positive h) (next_times z d h)

-- ---- ceiling, by negation

neg_quotient : (z : ℤ) (d : ℕ) → int_ℚ z ÷ nat_ℚ d ≈ neg_ℚ (int_ℚ (neg_ℤ z) ÷ nat_ℚ d)
neg_quotient z d =
    ≈-trans (≈-sym (neg_ℚ-neg_ℚ (int_ℚ z ÷ nat_ℚ d)))
    (neg_ℚ_cong (≈-trans (≈-sym (negℚ-*ℚ (int_ℚ z) _)) (*ℚ-cong-left _ (≈-sym (int_ℚ_neg z)))))

pub ceiling-≥ : (z : ℤ) {d : ℕ} → 0 < d → int_ℚ z ÷ nat_ℚ d ≤ℚ int_ℚ (ceiling z d)
ceiling-≥ z {d} h =
    ≈-≤ℚ-trans (neg_quotient z d)
    (≤ℚ-≈-trans (neg_ℚ_anti (floor-≤ (neg_ℤ z) h)) (≈-sym (int_ℚ_neg (floor (neg_ℤ z) d))))

pub ceiling-within_1 : (z : ℤ) {d : ℕ} → 0 < d → int_ℚ (ceiling z d) -ℚ nat_ℚ 1 <ℚ int_ℚ z ÷ nat_ℚ d
ceiling-within_1 z {d} h =
    ≤ℚ-<ℚ-trans
    (≈→≤ (≈-trans (+ℚ-cong (int_ℚ_neg (floor (neg_ℤ z) d)) (≈-refl _)) (≈-sym (negℚ-+ℚ (int_ℚ (floor (neg_ℤ z) d)) (nat_ℚ 1)))))
    (<ℚ-≤ℚ-trans (neg_ℚ_strict (floor-within_1 (neg_ℤ z) h)) (≈→≥ (neg_quotient z d)))

-- ---- no integer lies between

within-1→≤ℤ : (a b : ℤ) → int_ℚ a <ℚ int_ℚ b +ℚ nat_ℚ 1 → a ≤ℤ b
unfolding int_ℚ nat_ℚ ◌+ℚ◌
within-1→≤ℤ (pos a) (pos b) h = record { le = le→leb a b (omega arith) }
within-1→≤ℤ (pos a) (negsuc b) h = absurd (omega arith)
within-1→≤ℤ (negsuc a) (pos b) h = record { le = tt }
within-1→≤ℤ (negsuc a) (negsuc b) h = record { le = le→leb b a (omega arith) }

within-1→≥ℤ : (a b : ℤ) → int_ℚ b -ℚ nat_ℚ 1 <ℚ int_ℚ a → b ≤ℤ a
unfolding int_ℚ nat_ℚ ◌+ℚ◌ neg_ℚ
within-1→≥ℤ (pos a) (pos b) h = record { le = le→leb b a (omega arith) }
within-1→≥ℤ (pos a) (negsuc b) h = record { le = tt }
within-1→≥ℤ (negsuc a) (pos b) h = absurd (omega arith)
within-1→≥ℤ (negsuc a) (negsuc b) h = record { le = le→leb a b (omega arith) }

pub floor_greatest : (w z : ℤ) {d : ℕ} → 0 < d → int_ℚ w ≤ℚ int_ℚ z ÷ nat_ℚ d → w ≤ℤ floor z d
floor_greatest w z {d} h k = within-1→≤ℤ w (floor z d) (≤ℚ-<ℚ-trans k (floor-within_1 z h))

pub ceiling_least : (w z : ℤ) {d : ℕ} → 0 < d → int_ℚ z ÷ nat_ℚ d ≤ℚ int_ℚ w → ceiling z d ≤ℤ w
ceiling_least w z {d} h k = within-1→≥ℤ w (ceiling z d) (<ℚ-≤ℚ-trans (ceiling-within_1 z h) k)

-- so each grows with what is divided
pub floor_mono : {a b : ℤ} {d : ℕ} → 0 < d → a ≤ℤ b → floor a d ≤ℤ floor b d
floor_mono {a} {b} {d} p h = floor_greatest (floor a d) b p (≤ℚ-trans (floor-≤ a p) (÷-mono-left (nat_ℚ d) (int_ℚ_mono h)))

pub ceiling_mono : {a b : ℤ} {d : ℕ} → 0 < d → a ≤ℤ b → ceiling a d ≤ℤ ceiling b d
ceiling_mono {a} {b} {d} p h = ceiling_least (ceiling b d) a p (≤ℚ-trans (÷-mono-left (nat_ℚ d) (int_ℚ_mono h)) (ceiling-≥ b p))

-- ---- of a multiple: the number itself

multiple-over : (a : ℤ) {d : ℕ} → 0 < d → int_ℚ a ≈ int_ℚ (pos d *ℤ a) ÷ nat_ℚ d
multiple-over a {d} h =
    ÷-unique (nat_ℚ_positive h)
    (≈-trans (*ℚ-comm (int_ℚ a) (nat_ℚ d)) (≈-trans (*ℚ-cong-left (int_ℚ a) (≈-sym (int_ℚ-pos d))) (≈-sym (intℚ-* (pos d) a))))

pub floor-multiple : (a : ℤ) {d : ℕ} → 0 < d → floor (pos d *ℤ a) d ≡ a
floor-multiple a {d} h =
    let z = pos d *ℤ a in
    let over = multiple-over a h in
    ≤ℤ-antisym (floor z d) a (int_ℚ_reflects _ a (≤ℚ-trans (floor-≤ z h) (≈→≥ over))) (floor_greatest a z h (≈→≤ over))

pub ceiling-multiple : (a : ℤ) {d : ℕ} → 0 < d → ceiling (pos d *ℤ a) d ≡ a
ceiling-multiple a {d} h =
    let z = pos d *ℤ a in
    let over = multiple-over a h in
    ≤ℤ-antisym (ceiling z d) a (ceiling_least a z h (≈→≥ over)) (int_ℚ_reflects a _ (≤ℚ-trans (≈→≤ over) (ceiling-≥ z h)))

-- ---- on naturals

pub floor-pos : (a d : ℕ) → floor (pos a) d ≡ pos (a / d)
floor-pos a d = refl

pub ceil_div-suc : (n d : ℕ) → 0 < d → ceil_div (suc n) d ≡ suc (n / d)
ceil_div-suc n d h =
    let e : suc n + (d - 1) ≡ n + d = omega arith in
    ap (λ (k : ℕ). k / d) e ∙ add-div_right n h ∙ omega arith

pub ceil_div-zero : (d : ℕ) → 0 < d → ceil_div 0 d ≡ 0
ceil_div-zero d h = div-eq_of_lt (omega arith)

pub ceiling-pos : (a d : ℕ) → 0 < d → ceiling (pos a) d ≡ pos (ceil_div a d)
ceiling-pos zero d h = ap (λ (k : ℕ). neg_ℤ (pos k)) (zero-div d) ∙ ap pos (sym (ceil_div-zero d h))
ceiling-pos (suc n) d h = ap pos (sym (ceil_div-suc n d h))
