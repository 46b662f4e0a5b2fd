-- The last liquid forward rate and the year's forward: each computed pair encloses the true number, and each is a weighted
-- mean, so it is no larger than what it is the mean of.
use mathlib.Core.Path.{◌≡◌, ap, subst⁻¹, subst₂, subst₃}
use mathlib.Core.Bool.{Bool, true, false, not, cond}
use mathlib.Core.List.{List, [], ◌∷◌}
use Prim.Native.Nat.{ℕ, zero, suc, ◌+◌, ◌*◌, ◌-◌, ◌≤◌, ◌<◌, suc-le-suc}
use native.Mathlib.Nat.{add-zero, mul-pos, le_trans, zero-lt-suc, not-suc-le-zero, le_of_suc-le-suc}
use native.Mathlib.Omega.{arith}
use lib.Dec.{T, le→leb, nleb→lt, lit<}
use lib.IntN.{ℤ, pos, negsuc, ◌+ℤ◌, ◌*ℤ◌, *ℤ_comm, +ℤ_assoc, +ℤ_idr}
use lib.ListN.{length, get_or}
use lib.Signed.{le_z, ◌≤ℤ◌, ≤ℤ_refl}
use Rattle.fraction.specs.Fraction.{ℚ, ◌≈◌, ◌≤ℚ◌, nat_ℚ, recip, ◌+ℚ◌, ◌-ℚ◌, ◌*ℚ◌, ◌÷◌}
use Rattle.fraction.specs.Rounding.{U, floor, ceiling, whole_sum, Encloses}
use Rattle.fraction.proofs.Order.{≈-refl, ≈-sym, ≈-trans, ≤ℚ-trans}
use Rattle.fraction.proofs.Sum.{+ℚ-cong}
use Rattle.fraction.proofs.Product.{*ℚ-assoc, zero-*ℚ, one-*ℚ, *ℚ-cong, *ℚ-cong-left, *ℚ-cong-right}
use Rattle.fraction.proofs.Integer.{nat_ℚ_positive, nat_ℚ_reflects, natℚ-+, natℚ-*, int_ℚ_mono}
use Rattle.fraction.proofs.Quotient.{*ℚ-recip, ÷-*ℚ, ÷-unique, ÷-cong-left}
use Rattle.fraction.proofs.Ring.{var, con, ⊖, ◌⊕◌, ◌⊗◌}
use Rattle.fraction.proofs.RingFraction.{ring_ℚ}
use Rattle.fraction.proofs.Floor.{floor-multiple, ceiling-multiple}
use Rattle.fraction.proofs.Rounding.{U-positive}
use Rattle.fraction.proofs.Enclosure.{encloses-≈, encloses-+, encloses_times, encloses-÷, Term, lows, highs}
use Rattle.fraction.proofs.Enclosure.{values, encloses_weighted, nat_below, nat_above, blend_low, blend_high}
use Rattle.method.specs.Units.{Pair, pair, SignedPair, signed_pair}
use Rattle.method.specs.Sheet.{total}
use Rattle.method.specs.Extrapolation.{llfr_numerator, llfr, blend, smaller, larger, forward, κ_pairs}
use Rattle.method.specs.True.{billion, years_total, years_sum, mean_forward, gap_years_from20, market_forwards, weighted, last_liquid_forward}
use Rattle.method.proofs.Entries.{spelled_out}
use Rattle.method.proofs.Size.{Bounded, Within, bounded-+, bounded_times, bounded_floor, bounded_ceiling}

-- ---- means, weights of any number

-- the method paper's weights V/ΣV times forwards are one sum of products over ΣV
pub weighted_sum : (vs : List ℕ) (all : ℚ) (fs : List ℚ) → weighted vs all fs ≈ years_sum vs fs ÷ all
unfolding weighted years_sum
weighted_sum [] all fs = ≈-sym (zero-*ℚ (recip all))
weighted_sum (v ∷ vs) all [] = ≈-sym (zero-*ℚ (recip all))
weighted_sum (v ∷ vs) all (f ∷ fs) =
    ≈-trans (+ℚ-cong (≈-refl _) (weighted_sum vs all fs))
    (ring_ℚ (nat_ℚ v ∷ recip all ∷ f ∷ years_sum vs fs ∷ [])
    ((var 0 ⊗ var 1) ⊗ var 2 ⊕ var 3 ⊗ var 1) ((var 0 ⊗ var 2 ⊕ var 3) ⊗ var 1) tt)

-- and so over c × ΣV, where a numerator is c times that sum
pub weighted-over : (c : ℕ) (vs : List ℕ) (fs : List ℚ) {x : ℚ} → 0 < c → 0 < years_total vs → x ≈ nat_ℚ c *ℚ years_sum vs fs →
    x ÷ nat_ℚ (c * years_total vs) ≈ weighted vs (nat_ℚ (years_total vs)) fs
weighted-over c vs fs h k e = ≈-sym (÷-unique (nat_ℚ_positive (mul-pos h k)) (≈-trans scaled (≈-sym e)))
  where
    t : ℚ
    t = nat_ℚ (years_total vs)

    y : ℚ
    y = years_sum vs fs

    scaled : weighted vs t fs *ℚ nat_ℚ (c * years_total vs) ≈ nat_ℚ c *ℚ y
    scaled =
        ≈-trans (*ℚ-cong (weighted_sum vs t fs) (natℚ-* c (years_total vs)))
        (≈-trans (ring_ℚ (y ∷ recip t ∷ nat_ℚ c ∷ t ∷ []) ((var 0 ⊗ var 1) ⊗ (var 2 ⊗ var 3)) (var 2 ⊗ ((var 0 ⊗ var 1) ⊗ var 3)) tt)
        (*ℚ-cong-right (nat_ℚ c) (÷-*ℚ y (nat_ℚ_positive k))))

-- a mean in other words: c means are d × s
pub mean_is : (ks : List ℕ) (fs : List ℚ) (c d s : ℚ) → 0 < years_total ks →
    (d *ℚ s) *ℚ nat_ℚ (years_total ks) ≈ c *ℚ years_sum ks fs → d *ℚ s ≈ c *ℚ mean_forward ks fs
unfolding mean_forward
mean_is ks fs c d s h e =
    ≈-trans (÷-unique (nat_ℚ_positive h) e) (*ℚ-assoc c (years_sum ks fs) (recip (nat_ℚ (years_total ks))))

-- ---- the last liquid forward rate

-- what stands for a gap's forward past the end of a list
abbrev pub zero_pair : SignedPair
zero_pair = signed_pair (pos 0) (pos 0)

module _ (v1 v2 v3 v4 v5 : ℕ) (f1 f2 f3 f4 f5 : ℚ) where
  -- that numerator, without rounding
  unfoldable pub numerator : ℚ
  numerator =
      nat_ℚ v1 *ℚ (nat_ℚ 12 *ℚ f1)
      +ℚ nat_ℚ v2 *ℚ (nat_ℚ 12 *ℚ f2)
      +ℚ nat_ℚ v3 *ℚ (nat_ℚ 6 *ℚ (f2 +ℚ f3))
      +ℚ nat_ℚ v4 *ℚ (nat_ℚ 3 *ℚ (f2 +ℚ f3 +ℚ nat_ℚ 2 *ℚ f4))
      +ℚ nat_ℚ v5 *ℚ (nat_ℚ 2 *ℚ (f2 +ℚ f3 +ℚ nat_ℚ 2 *ℚ f4 +ℚ nat_ℚ 2 *ℚ f5))

  -- as a sum of products, the weights first
  weighted_numerator :
      nat_ℚ (12 * v1) *ℚ f1
      +ℚ (nat_ℚ (12 * v2) *ℚ f2
      +ℚ (nat_ℚ (6 * v3) *ℚ (f2 +ℚ f3)
      +ℚ (nat_ℚ (3 * v4) *ℚ (f2 +ℚ f3 +ℚ nat_ℚ 2 *ℚ f4)
      +ℚ (nat_ℚ (2 * v5) *ℚ (f2 +ℚ f3 +ℚ nat_ℚ 2 *ℚ f4 +ℚ nat_ℚ 2 *ℚ f5)
      +ℚ nat_ℚ 0))))
      ≈ numerator
  unfolding numerator
  weighted_numerator =
      ≈-trans
      (+ℚ-cong (weight 12 v1 _) (+ℚ-cong (weight 12 v2 _) (+ℚ-cong (weight 6 v3 _) (+ℚ-cong (weight 3 v4 _) (+ℚ-cong (weight 2 v5 _) (≈-refl (nat_ℚ 0)))))))
      (ring_ℚ (product v1 12 f1 ∷ product v2 12 f2 ∷ product v3 6 to30 ∷ product v4 3 to40 ∷ product v5 2 to50 ∷ [])
      (var 0 ⊕ (var 1 ⊕ (var 2 ⊕ (var 3 ⊕ (var 4 ⊕ con 0)))))
      (var 0 ⊕ var 1 ⊕ var 2 ⊕ var 3 ⊕ var 4)
      tt)
    where
      product : ℕ → ℕ → ℚ → ℚ
      product v c x = nat_ℚ v *ℚ (nat_ℚ c *ℚ x)

      to30 : ℚ
      to30 = f2 +ℚ f3

      to40 : ℚ
      to40 = to30 +ℚ nat_ℚ 2 *ℚ f4

      to50 : ℚ
      to50 = to40 +ℚ nat_ℚ 2 *ℚ f5

      weight : (c v : ℕ) (x : ℚ) → nat_ℚ (c * v) *ℚ x ≈ nat_ℚ v *ℚ (nat_ℚ c *ℚ x)
      weight c v x =
          ≈-trans (*ℚ-cong-left x (natℚ-* c v)) (ring_ℚ (nat_ℚ c ∷ nat_ℚ v ∷ x ∷ []) ((var 0 ⊗ var 1) ⊗ var 2) (var 1 ⊗ (var 0 ⊗ var 2)) tt)

  -- it is twelve times the volumes' sum of products with the method paper's means over years from 20
  numerator_is : numerator ≈ nat_ℚ 12 *ℚ years_sum (v1 ∷ v2 ∷ v3 ∷ v4 ∷ v5 ∷ []) (market_forwards (f1 ∷ f2 ∷ f3 ∷ f4 ∷ f5 ∷ []))
  unfolding numerator market_forwards gap_years_from20 years_sum years_total
  numerator_is =
      ≈-trans
      (+ℚ-cong (+ℚ-cong (+ℚ-cong (+ℚ-cong (≈-refl _) (times v2 to25)) (times v3 to30)) (times v4 to40)) (times v5 to50))
      (ring_ℚ
      (nat_ℚ v1 ∷ nat_ℚ v2 ∷ nat_ℚ v3 ∷ nat_ℚ v4 ∷ nat_ℚ v5 ∷
      f1 ∷ mean (5 ∷ []) ∷ mean (5 ∷ 5 ∷ []) ∷ mean (5 ∷ 5 ∷ 10 ∷ []) ∷ mean (5 ∷ 5 ∷ 10 ∷ 10 ∷ []) ∷ [])
      (var 0 ⊗ (con 12 ⊗ var 5) ⊕ var 1 ⊗ (con 12 ⊗ var 6) ⊕ var 2 ⊗ (con 12 ⊗ var 7) ⊕ var 3 ⊗ (con 12 ⊗ var 8) ⊕ var 4 ⊗ (con 12 ⊗ var 9))
      (con 12 ⊗ (var 0 ⊗ var 5 ⊕ (var 1 ⊗ var 6 ⊕ (var 2 ⊗ var 7 ⊕ (var 3 ⊗ var 8 ⊕ (var 4 ⊗ var 9 ⊕ con 0))))))
      tt)
    where
      from20 : List ℚ
      from20 = f2 ∷ f3 ∷ f4 ∷ f5 ∷ []

      mean : List ℕ → ℚ
      mean ks = mean_forward ks from20

      times : (v : ℕ) {x y : ℚ} → x ≈ y → nat_ℚ v *ℚ x ≈ nat_ℚ v *ℚ y
      times v e = *ℚ-cong-right (nat_ℚ v) e

      to25 : nat_ℚ 12 *ℚ f2 ≈ nat_ℚ 12 *ℚ mean (5 ∷ [])
      to25 =
          mean_is (5 ∷ []) from20 (nat_ℚ 12) (nat_ℚ 12) _ (lit< tt)
          (ring_ℚ (f2 ∷ []) ((con 12 ⊗ var 0) ⊗ con 5) (con 12 ⊗ (con 5 ⊗ var 0 ⊕ con 0)) tt)

      to30 : nat_ℚ 6 *ℚ (f2 +ℚ f3) ≈ nat_ℚ 12 *ℚ mean (5 ∷ 5 ∷ [])
      to30 =
          mean_is (5 ∷ 5 ∷ []) from20 (nat_ℚ 12) (nat_ℚ 6) _ (lit< tt)
          (ring_ℚ (f2 ∷ f3 ∷ []) ((con 6 ⊗ (var 0 ⊕ var 1)) ⊗ con 10) (con 12 ⊗ (con 5 ⊗ var 0 ⊕ (con 5 ⊗ var 1 ⊕ con 0))) tt)

      to40 : nat_ℚ 3 *ℚ (f2 +ℚ f3 +ℚ nat_ℚ 2 *ℚ f4) ≈ nat_ℚ 12 *ℚ mean (5 ∷ 5 ∷ 10 ∷ [])
      to40 =
          mean_is (5 ∷ 5 ∷ 10 ∷ []) from20 (nat_ℚ 12) (nat_ℚ 3) _ (lit< tt)
          (ring_ℚ (f2 ∷ f3 ∷ f4 ∷ [])
          ((con 3 ⊗ (var 0 ⊕ var 1 ⊕ con 2 ⊗ var 2)) ⊗ con 20)
          (con 12 ⊗ (con 5 ⊗ var 0 ⊕ (con 5 ⊗ var 1 ⊕ (con 10 ⊗ var 2 ⊕ con 0))))
          tt)

      to50 : nat_ℚ 2 *ℚ (f2 +ℚ f3 +ℚ nat_ℚ 2 *ℚ f4 +ℚ nat_ℚ 2 *ℚ f5) ≈ nat_ℚ 12 *ℚ mean (5 ∷ 5 ∷ 10 ∷ 10 ∷ [])
      to50 =
          mean_is (5 ∷ 5 ∷ 10 ∷ 10 ∷ []) from20 (nat_ℚ 12) (nat_ℚ 2) _ (lit< tt)
          (ring_ℚ (f2 ∷ f3 ∷ f4 ∷ f5 ∷ [])
          ((con 2 ⊗ (var 0 ⊕ var 1 ⊕ con 2 ⊗ var 2 ⊕ con 2 ⊗ var 3)) ⊗ con 30)
          (con 12 ⊗ (con 5 ⊗ var 0 ⊕ (con 5 ⊗ var 1 ⊕ (con 10 ⊗ var 2 ⊕ (con 10 ⊗ var 3 ⊕ con 0)))))
          tt)

-- the numerator of SPECIFICATION 5.1 as one sum of products
numerator_sum : (v1 v2 v3 v4 v5 : ℕ) (a1 a2 a3 a4 a5 : ℤ) →
    llfr_numerator (v1 ∷ v2 ∷ v3 ∷ v4 ∷ v5 ∷ []) (a1 ∷ a2 ∷ a3 ∷ a4 ∷ a5 ∷ []) ≡
    whole_sum
    (record { weight = pos (12 * v1); value = a1 }
    ∷ record { weight = pos (12 * v2); value = a2 }
    ∷ record { weight = pos (6 * v3); value = a2 +ℤ a3 }
    ∷ record { weight = pos (3 * v4); value = a2 +ℤ a3 +ℤ pos 2 *ℤ a4 }
    ∷ record { weight = pos (2 * v5); value = a2 +ℤ a3 +ℤ pos 2 *ℤ a4 +ℤ pos 2 *ℤ a5 }
    ∷ [])
unfolding llfr_numerator whole_sum
numerator_sum v1 v2 v3 v4 v5 a1 a2 a3 a4 a5 = simp (+ℤ_assoc, +ℤ_idr)

abbrev term : (w : ℕ) {a b : ℤ} {x : ℚ} → Encloses a b x → Term
term w {a} {b} {x} h = record { weight = w; low = a; high = b; value = x; holds = h }

pub llfr_encloses : (v1 v2 v3 v4 v5 : ℕ) {g1 g2 g3 g4 g5 : SignedPair} {f1 f2 f3 f4 f5 : ℚ} → 0 < total (v1 ∷ v2 ∷ v3 ∷ v4 ∷ v5 ∷ []) →
    Encloses g1.low g1.high f1 → Encloses g2.low g2.high f2 → Encloses g3.low g3.high f3 →
    Encloses g4.low g4.high f4 → Encloses g5.low g5.high f5 →
    Encloses (llfr (v1 ∷ v2 ∷ v3 ∷ v4 ∷ v5 ∷ []) (g1 ∷ g2 ∷ g3 ∷ g4 ∷ g5 ∷ [])).low (llfr (v1 ∷ v2 ∷ v3 ∷ v4 ∷ v5 ∷ []) (g1 ∷ g2 ∷ g3 ∷ g4 ∷ g5 ∷ [])).high
    (last_liquid_forward (v1 ∷ v2 ∷ v3 ∷ v4 ∷ v5 ∷ []) (f1 ∷ f2 ∷ f3 ∷ f4 ∷ f5 ∷ []))
unfolding llfr last_liquid_forward total years_total lows highs values
llfr_encloses v1 v2 v3 v4 v5 {g1} {g2} {g3} {g4} {g5} {f1} {f2} {f3} {f4} {f5} h h1 h2 h3 h4 h5 =
    let to30 = encloses-+ h2 h3 in
    let to40 = encloses-+ to30 (encloses_times 2 h4) in
    let to50 = encloses-+ to40 (encloses_times 2 h5) in
    let terms = term (12 * v1) h1 ∷ term (12 * v2) h2 ∷ term (6 * v3) to30 ∷ term (3 * v4) to40 ∷ term (2 * v5) to50 ∷ [] in
    let rounded = encloses_weighted terms (mul-pos {m = 12} (lit< tt) h) in
    let low_sum = numerator_sum v1 v2 v3 v4 v5 g1.low g2.low g3.low g4.low g5.low in
    let high_sum = numerator_sum v1 v2 v3 v4 v5 g1.high g2.high g3.high g4.high g5.high in
    encloses-≈
    (weighted-over 12 (v1 ∷ v2 ∷ v3 ∷ v4 ∷ v5 ∷ []) (market_forwards (f1 ∷ f2 ∷ f3 ∷ f4 ∷ f5 ∷ [])) (lit< tt) h
    (≈-trans (weighted_numerator v1 v2 v3 v4 v5 f1 f2 f3 f4 f5) (numerator_is v1 v2 v3 v4 v5 f1 f2 f3 f4 f5)))
    (rw (low_sum, high_sum) rounded)

-- a sum of products whose weights sum to 12 × ΣV
numerator_bound : (v1 v2 v3 v4 v5 : ℕ) {a1 a2 a3 a4 a5 : ℤ} {M : ℕ} → Bounded M a1 → Bounded M a2 → Bounded M a3 → Bounded M a4 → Bounded M a5 →
    Bounded (M * (12 * total (v1 ∷ v2 ∷ v3 ∷ v4 ∷ v5 ∷ []))) (llfr_numerator (v1 ∷ v2 ∷ v3 ∷ v4 ∷ v5 ∷ []) (a1 ∷ a2 ∷ a3 ∷ a4 ∷ a5 ∷ []))
unfolding llfr_numerator total
numerator_bound v1 v2 v3 v4 v5 h1 h2 h3 h4 h5 =
    let to30 = bounded-+ h2 h3 in
    let to40 = bounded-+ to30 (bounded_times 2 h4) in
    let to50 = bounded-+ to40 (bounded_times 2 h5) in
    let to20 = bounded-+ (bounded_times (12 * v1) h1) (bounded_times (12 * v2) h2) in
    omega (arith, bounded-+ (bounded-+ (bounded-+ to20 (bounded_times (6 * v3) to30)) (bounded_times (3 * v4) to40)) (bounded_times (2 * v5) to50))

pub llfr_bound : (v1 v2 v3 v4 v5 : ℕ) {g1 g2 g3 g4 g5 : SignedPair} {M : ℕ} → 0 < total (v1 ∷ v2 ∷ v3 ∷ v4 ∷ v5 ∷ []) →
    Within M g1 → Within M g2 → Within M g3 → Within M g4 → Within M g5 → Within M (llfr (v1 ∷ v2 ∷ v3 ∷ v4 ∷ v5 ∷ []) (g1 ∷ g2 ∷ g3 ∷ g4 ∷ g5 ∷ []))
unfolding llfr
llfr_bound v1 v2 v3 v4 v5 h h1 h2 h3 h4 h5 =
    let d = mul-pos {m = 12} (lit< tt) h in
    let low = numerator_bound v1 v2 v3 v4 v5 h1.low_within h2.low_within h3.low_within h4.low_within h5.low_within in
    let high = numerator_bound v1 v2 v3 v4 v5 h1.high_within h2.high_within h3.high_within h4.high_within h5.high_within in
    record { low_within = bounded_floor d low; high_within = bounded_ceiling d high }

-- the same of lists of five, entry by entry
pub llfr_encloses_at : (vs : List ℕ) (gs : List SignedPair) (fs : List ℚ) → length vs ≡ 5 → length gs ≡ 5 → length fs ≡ 5 → 0 < total vs →
    ((i : ℕ) → i < 5 → Encloses (get_or gs i zero_pair).low (get_or gs i zero_pair).high (get_or fs i (nat_ℚ 0))) →
    Encloses (llfr vs gs).low (llfr vs gs).high (last_liquid_forward vs fs)
llfr_encloses_at vs gs fs lv lg lf h k =
    let volumes = spelled_out 0 vs lv in
    subst₃ (λ (v : List ℕ) (g : List SignedPair) (x : List ℚ). Encloses (llfr v g).low (llfr v g).high (last_liquid_forward v x))
    volumes (spelled_out zero_pair gs lg) (spelled_out (nat_ℚ 0) fs lf)
    (llfr_encloses _ _ _ _ _ (subst⁻¹ (λ (v : List ℕ). 0 < total v) volumes h) (k 0 (lit< tt)) (k 1 (lit< tt)) (k 2 (lit< tt)) (k 3 (lit< tt)) (k 4 (lit< tt)))

pub llfr_bound_at : (vs : List ℕ) (gs : List SignedPair) {M : ℕ} → length vs ≡ 5 → length gs ≡ 5 → 0 < total vs →
    ((i : ℕ) → i < 5 → Within M (get_or gs i zero_pair)) → Within M (llfr vs gs)
llfr_bound_at vs gs {M} lv lg h k =
    let volumes = spelled_out 0 vs lv in
    subst₂ (λ (v : List ℕ) (g : List SignedPair). Within M (llfr v g)) volumes (spelled_out zero_pair gs lg)
    (llfr_bound _ _ _ _ _ (subst⁻¹ (λ (v : List ℕ). 0 < total v) volumes h) (k 0 (lit< tt)) (k 1 (lit< tt)) (k 2 (lit< tt)) (k 3 (lit< tt)) (k 4 (lit< tt)))

-- ---- one volume: LLFR is the forward just before the smoothing year

one_numerator : (v : ℕ) (a : ℤ) → llfr_numerator (v ∷ []) (a ∷ []) ≡ pos (12 * v) *ℤ a
unfolding llfr_numerator
one_numerator v a = simp +ℤ_idr

pub llfr_one : (v : ℕ) → 0 < v → (g : SignedPair) → llfr (v ∷ []) (g ∷ []) ≡ g
unfolding llfr total
llfr_one v h g =
    let d = mul-pos {m = 12} (lit< tt) h in
    rw (one_numerator v g.low, one_numerator v g.high, add-zero v, floor-multiple g.low d, ceiling-multiple g.high d)

-- its weight is one
pub true_one : (v : ℕ) → 0 < v → (f : ℚ) → f ≈ last_liquid_forward (v ∷ []) (f ∷ [])
unfolding last_liquid_forward market_forwards weighted years_total
true_one v h f =
    rw (add-zero v)
    (≈-sym
    (≈-trans (ring_ℚ ((nat_ℚ v ÷ nat_ℚ v) ∷ f ∷ []) (var 0 ⊗ var 1 ⊕ con 0) (var 0 ⊗ var 1) tt)
    (≈-trans (*ℚ-cong-left f (*ℚ-recip (nat_ℚ_positive h))) (one-*ℚ f))))

module _ (vs : List ℕ) (gs : List SignedPair) (lv : length vs ≡ 1) (lg : length gs ≡ 1) (traded : 0 < total vs) where
  abbrev volume : ℕ
  volume = get_or vs 0 0

  abbrev alone : SignedPair
  alone = get_or gs 0 zero_pair

  one_traded : 0 < volume
  unfolding total
  one_traded = let h = subst⁻¹ (λ (v : List ℕ). 0 < total v) (spelled_out 0 vs lv) traded in omega arith

  pub llfr_alone : llfr vs gs ≡ alone
  llfr_alone =
      subst₂ (λ (v : List ℕ) (g : List SignedPair). llfr v g ≡ alone) (spelled_out 0 vs lv) (spelled_out zero_pair gs lg) (llfr_one volume one_traded alone)

  pub llfr_encloses_one : (fs : List ℚ) → length fs ≡ 1 → Encloses alone.low alone.high (get_or fs 0 (nat_ℚ 0)) →
      Encloses (llfr vs gs).low (llfr vs gs).high (last_liquid_forward vs fs)
  llfr_encloses_one fs lf e =
      rw llfr_alone
      (subst₂ (λ (v : List ℕ) (x : List ℚ). Encloses alone.low alone.high (last_liquid_forward v x)) (spelled_out 0 vs lv) (spelled_out (nat_ℚ 0) fs lf)
      (encloses-≈ (true_one volume one_traded (get_or fs 0 (nat_ℚ 0))) e))

-- ---- the year's forward

le_z_no : (a b : ℤ) → T (not (le_z a b)) → b ≤ℤ a
le_z_no (pos a) (pos b) t = record { le = le→leb b a (omega (arith, nleb→lt a b t)) }
le_z_no (pos a) (negsuc b) t = record { le = tt }
le_z_no (negsuc a) (pos b) t = absurd t
le_z_no (negsuc a) (negsuc b) t = record { le = le→leb a b (omega (arith, nleb→lt b a t)) }

-- what the choice of the smaller or the larger yields lies on its side of both
cond_below : (c : Bool) {a b : ℤ} → (T c → a ≤ℤ b) → (T (not c) → b ≤ℤ a) → (cond c a b ≤ℤ a) × (cond c a b ≤ℤ b)
cond_below true {a} h k = (≤ℤ_refl a, h tt)
cond_below false {b = b} h k = (k tt, ≤ℤ_refl b)

cond_above : (c : Bool) {a b : ℤ} → (T c → a ≤ℤ b) → (T (not c) → b ≤ℤ a) → (a ≤ℤ cond c b a) × (b ≤ℤ cond c b a)
cond_above true {b = b} h k = (h tt, ≤ℤ_refl b)
cond_above false {a} h k = (≤ℤ_refl a, k tt)

pub smaller_below : (a b : ℤ) → (smaller a b ≤ℤ a) × (smaller a b ≤ℤ b)
smaller_below a b = cond_below (le_z a b) (λ t. record { le = t }) (le_z_no a b)

pub larger_above : (a b : ℤ) → (a ≤ℤ larger a b) × (b ≤ℤ larger a b)
larger_above a b = cond_above (le_z a b) (λ t. record { le = t }) (le_z_no a b)

-- the blend at κ is on the line x + (y - x) × κ / U
blend_is : (κ : ℕ) → κ ≤ U → (x y : ℚ) → (nat_ℚ (U - κ) *ℚ x +ℚ nat_ℚ κ *ℚ y) ÷ billion ≈ x +ℚ ((y -ℚ x) ÷ billion) *ℚ nat_ℚ κ
blend_is κ h x y =
    ≈-trans
    (ring_ℚ (nat_ℚ (U - κ) ∷ nat_ℚ κ ∷ x ∷ y ∷ recip billion ∷ [])
    ((var 0 ⊗ var 2 ⊕ var 1 ⊗ var 3) ⊗ var 4)
    (((var 0 ⊕ var 1) ⊗ var 4) ⊗ var 2 ⊕ ((var 3 ⊕ ⊖ (var 2)) ⊗ var 4) ⊗ var 1)
    tt)
    (+ℚ-cong (≈-trans (*ℚ-cong-left x whole) (one-*ℚ x)) (≈-refl _))
  where
    is_U : U - κ + κ ≡ U
    is_U = omega arith

    whole : (nat_ℚ (U - κ) +ℚ nat_ℚ κ) ÷ billion ≈ nat_ℚ 1
    whole = ≈-trans (÷-cong-left billion (rw is_U at (≈-sym (natℚ-+ (U - κ) κ)))) (*ℚ-recip (nat_ℚ_positive U-positive))

-- the line in k, where κ is U × k
line_is : (x q k : ℚ) → x +ℚ (q ÷ billion) *ℚ (billion *ℚ k) ≈ x +ℚ q *ℚ k
line_is x q k =
    +ℚ-cong (≈-refl x)
    (≈-trans (ring_ℚ (q ∷ recip billion ∷ billion ∷ k ∷ []) ((var 0 ⊗ var 1) ⊗ (var 2 ⊗ var 3)) ((var 2 ⊗ var 1) ⊗ (var 0 ⊗ var 3)) tt)
    (≈-trans (*ℚ-cong-left (q *ℚ k) (*ℚ-recip (nat_ℚ_positive U-positive))) (one-*ℚ (q *ℚ k))))

-- the smaller of two lows and the larger of two highs enclose a line between the two
line_encloses : (p q : ℚ) {a b c e : ℤ} {s t κ : ℚ} → s ≤ℚ κ → κ ≤ℚ t → Encloses a b (p +ℚ q *ℚ s) → Encloses c e (p +ℚ q *ℚ t) →
    Encloses (smaller a c) (larger b e) (p +ℚ q *ℚ κ)
line_encloses p q {a} {b} {c} {e} l u h k =
    let lows = smaller_below a c in
    let highs = larger_above b e in
    record {
      below = blend_low p q l u (≤ℚ-trans (int_ℚ_mono lows.0) h.below) (≤ℚ-trans (int_ℚ_mono lows.1) k.below);
      above = blend_high p q l u (≤ℚ-trans h.above (int_ℚ_mono highs.0)) (≤ℚ-trans k.above (int_ℚ_mono highs.1));
    }

pub encloses_weight : (w : ℕ) {a b : ℤ} {x : ℚ} → Encloses a b x → Encloses (a *ℤ pos w) (b *ℤ pos w) (nat_ℚ w *ℚ x)
encloses_weight w {a} {b} {x} h =
    subst₂ (λ (l u : ℤ). Encloses l u (nat_ℚ w *ℚ x)) (*ℤ_comm (pos w) a) (*ℤ_comm (pos w) b) (encloses_times w h)

blend_encloses : (κ : ℕ) {a b c e : ℤ} {x y : ℚ} → κ ≤ U → Encloses a b x → Encloses c e y →
    Encloses (floor (blend a c κ) U) (ceiling (blend b e κ) U) (x +ℚ ((y -ℚ x) ÷ billion) *ℚ nat_ℚ κ)
blend_encloses κ {x = x} {y = y} h hx hy =
    encloses-≈ (blend_is κ h x y) (encloses-÷ U-positive (encloses-+ (encloses_weight (U - κ) hx) (encloses_weight κ hy)))

-- a pair of a weight k: U × k lies from low to high, and the high is at most U
pub record Weighs (κ : Pair) (k : ℚ) : Type 0 where
  pub at_most_U : κ.high ≤ U
  pub weight : Encloses (pos κ.low) (pos κ.high) (billion *ℚ k)

pub weight_ordered : {κ : Pair} {k : ℚ} → Weighs κ k → κ.low ≤ κ.high
weight_ordered {κ} w = nat_ℚ_reflects κ.low κ.high (≤ℚ-trans (nat_below w.weight) (nat_above w.weight))

-- a table's pairs K and K + 1, entry by entry
pub κ_pairs_weigh : (k : ℕ → ℚ) (ks : List ℕ) → ((i : ℕ) → i < length ks → Weighs (pair (get_or ks i 0) (get_or ks i 0 + 1)) (k i)) →
    (i : ℕ) → i < length (κ_pairs ks) → Weighs (get_or (κ_pairs ks) i (pair 0 0)) (k i)
unfolding κ_pairs
κ_pairs_weigh k [] h i l = absurd (not-suc-le-zero l)
κ_pairs_weigh k (c ∷ ks) h zero l = h 0 (zero-lt-suc _)
κ_pairs_weigh k (c ∷ ks) h (suc i) l = κ_pairs_weigh (λ j. k (suc j)) ks (λ j m. h (suc j) (suc-le-suc m)) i (le_of_suc-le-suc l)

pub forward_encloses : (l f : SignedPair) (κ : Pair) {x y k : ℚ} → Encloses l.low l.high x → Encloses f.low f.high y → Weighs κ k →
    Encloses (forward l f κ).low (forward l f κ).high (x +ℚ (y -ℚ x) *ℚ k)
unfolding forward
forward_encloses l f κ {x} {k = k} hx hy w =
    encloses-≈ (line_is x _ k)
    (line_encloses x _ (nat_below w.weight) (nat_above w.weight)
    (blend_encloses κ.low (le_trans (weight_ordered w) w.at_most_U) hx hy) (blend_encloses κ.high w.at_most_U hx hy))

-- its size

blend_bound : (κ : ℕ) {a b : ℤ} {M : ℕ} → κ ≤ U → Bounded M a → Bounded M b → Bounded (M * U) (blend a b κ)
blend_bound κ {a} {b} {M} h ha hb =
    rw (*ℤ_comm a (pos (U - κ)), *ℤ_comm b (pos κ), ← weights (U - κ) (omega arith)) (bounded-+ (bounded_times (U - κ) ha) (bounded_times κ hb))
  where
    weights : (w : ℕ) → w + κ ≡ U → w * M + κ * M ≡ M * U
    weights w e = omega (arith, ap (λ (t : ℕ). t * M) e)

bounded_cond : (c : Bool) {a b : ℤ} {M : ℕ} → Bounded M a → Bounded M b → Bounded M (cond c a b)
bounded_cond true h k = h
bounded_cond false h k = k

bounded_smaller : {a b : ℤ} {M : ℕ} → Bounded M a → Bounded M b → Bounded M (smaller a b)
bounded_smaller {a} {b} h k = bounded_cond (le_z a b) h k

bounded_larger : {a b : ℤ} {M : ℕ} → Bounded M a → Bounded M b → Bounded M (larger a b)
bounded_larger {a} {b} h k = bounded_cond (le_z a b) k h

pub forward_bound_lem : (l f : SignedPair) (κ : Pair) {M : ℕ} → κ.low ≤ κ.high → κ.high ≤ U → Within M l → Within M f → Within M (forward l f κ)
unfolding forward
forward_bound_lem l f κ {M} o u hl hf =
    record {
      low_within = bounded_smaller (down κ.low (le_trans o u)) (down κ.high u);
      high_within = bounded_larger (up κ.low (le_trans o u)) (up κ.high u);
    }
  where
    down : (k : ℕ) → k ≤ U → Bounded M (floor (blend l.low f.low k) U)
    down k h = bounded_floor U-positive (blend_bound k h hl.low_within hf.low_within)

    up : (k : ℕ) → k ≤ U → Bounded M (ceiling (blend l.high f.high k) U)
    up k h = bounded_ceiling U-positive (blend_bound k h hl.high_within hf.high_within)
