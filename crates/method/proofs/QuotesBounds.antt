-- Bounds on what the quotes yield: each factor and each yearly factor in its range, and low at most high; how many years and gaps there are.
use mathlib.Core.Path.{◌≡◌, refl, ap, sym, subst, ◌∙◌}
use mathlib.Core.Bool.{Bool, true, false, cond, ◌&&◌}
use mathlib.Core.List.{List, [], ◌∷◌, ◌++◌}
use Prim.Native.Nat.{ℕ, zero, suc, ◌+◌, ◌*◌, ◌-◌, ◌/◌, ◌≤◌, ◌<◌}
use native.Mathlib.Nat.{mul-le-mul, div-zero, zero-lt-suc}
use native.Mathlib.Omega.{arith}
use lib.Dec.{T, eqb, leb, ltb, leb→le, le→leb}
use lib.IntN.{ℤ, pos, negsuc, nat_abs}
use lib.ListN.{length, length-append, take, drop, get_or}
use lib.Signed.{le_z, non_neg, ◌≤ℤ◌, ≤ℤ_refl, le_z_yes}
use borrow.Author.Tests.{leb-true, ltb-true, eq-eqb, ne_eqb}
use Rattle.fraction.specs.Fraction.{ℚ, nat_ℚ, int_ℚ, ◌-ℚ◌, ◌*ℚ◌, ◌÷◌}
use Rattle.fraction.specs.Rounding.{U, floor, ceiling, ceil_div, Encloses}
use Rattle.fraction.proofs.Enclosure.{encloses_exact, encloses_ordered, encloses_widen, encloses_minus}
use Rattle.fraction.proofs.Enclosure.{encloses_times_non_negative, encloses_times_non_positive, encloses-÷}
use Rattle.method.specs.Units.{Pair, pair, par_value}
use Rattle.method.specs.Grounds.{done}
use Rattle.method.specs.Sheet.{total}
use Rattle.method.specs.Quotes.{Gap, annuity, trial, last_of, surely_not_above, surely_not_below, low_x, high_x, lower_end, upper_end}
use Rattle.method.specs.Quotes.{highest_factor, par_numerator, par_denominator, par_low, par_high, next_year, quoted_year, inside_years}
use Rattle.method.specs.Quotes.{Bootstrap, last_year, gap_after, gap_years, Quote, years_to, bootstrap_from, quotes_of, bootstrap}
use Rattle.method.proofs.TrialLaws.{Ordered, down_up}
use Rattle.method.proofs.HalvingLaws.{InOrder, low_x-within, high_x-within, low_x-≤-high_x}
use Rattle.method.proofs.Outcome.{done_injective, bind_done, both_true}
use Rattle.method.proofs.QuotesLaws.{quoted_next, inside_none, inside_more, next_done, inside, ends_pass, gap_inverse}
use Rattle.method.proofs.QuotesLaws.{par_inverse, years_cases, from_none, from_cons, quotes_none, quotes_more, bootstrap_from_lem}
use Rattle.method.specs.Ranges.{Each, none, more, Factor, YearlyFactor, gaps_with, climbs}

-- ---- a property of every pair

module _ {P : Pair → Type 0} where
  pub each_snoc : {ps : List Pair} (p : Pair) → Each P ps → P p → Each P (ps ++ p ∷ [])
  each_snoc p none h = more h none
  each_snoc p (more q e) h = more q (each_snoc p e h)

  pub each_at : {ps : List Pair} (k : ℕ) (d : Pair) → Each P ps → k < length ps → P (get_or ps k d)
  each_at k d none h = absurd (omega arith)
  each_at zero d (more q e) h = q
  each_at (suc k) d (more q e) h = each_at k d e (omega arith)

  pub each_take : {ps : List Pair} (k : ℕ) → Each P ps → Each P (take k ps)
  each_take zero e = none
  each_take (suc k) none = none
  each_take (suc k) (more p e) = more p (each_take k e)

  pub each_drop : {ps : List Pair} (k : ℕ) → Each P ps → Each P (drop k ps)
  each_drop zero e = e
  each_drop (suc k) none = none
  each_drop (suc k) (more p e) = each_drop k e

-- ---- A, and the factor by par

pub annuity_ordered : {ps : List Pair} → Each Factor ps → (annuity ps).low ≤ (annuity ps).high
unfolding annuity total
annuity_ordered none = omega arith
annuity_ordered (more f e) = omega (arith, annuity_ordered e)

pub annuity_at_most : {ps : List Pair} → Each Factor ps → (annuity ps).high ≤ length ps * highest_factor
unfolding annuity total
annuity_at_most none = omega arith
annuity_at_most (more f e) = omega (arith, annuity_at_most e)

pub last_year_factor : {ps : List Pair} → Each Factor ps → Factor (last_year ps)
unfolding last_year
last_year_factor none = record { least = omega arith; ordered = omega arith; greatest = omega arith }
last_year_factor (more f none) = f
last_year_factor (more f (more g e)) = last_year_factor (more g e)

-- par encloses what it is exactly, at every A that the sums enclose
par_numerator_lem : (r : ℤ) (a : Pair) {x : ℚ} → Encloses (pos a.low) (pos a.high) x →
    Encloses (par_numerator r (cond (non_neg r) a.high a.low)) (par_numerator r (cond (non_neg r) a.low a.high))
    (int_ℚ (pos par_value) -ℚ int_ℚ r *ℚ x)
unfolding int_ℚ
par_numerator_lem (pos r) a h = encloses_minus (encloses_exact (pos par_value)) (encloses_times_non_negative (pos r) (omega arith) h)
par_numerator_lem (negsuc r) a h = encloses_minus (encloses_exact (pos par_value)) (encloses_times_non_positive (negsuc r) (omega arith) h)

pub par_encloses : (r : ℤ) (a : Pair) {x : ℚ} → 0 < par_denominator r → Encloses (pos a.low) (pos a.high) x →
    Encloses (par_low r a) (par_high r a) ((int_ℚ (pos par_value) -ℚ int_ℚ r *ℚ x) ÷ nat_ℚ (par_denominator r))
par_encloses r a d h = encloses-÷ d (par_numerator_lem r a h)

-- over 0 too, where both quotients are by definition next to 0
floor-≤-ceiling : {a b : ℤ} {x : ℚ} (d : ℕ) → Encloses a b x → floor a d ≤ℤ ceiling b d
floor-≤-ceiling (suc d) h = encloses_ordered (encloses-÷ (zero-lt-suc d) h)
floor-≤-ceiling {a} {b} zero h = over_zero a b (encloses_ordered h)
  where
    over_zero : (a b : ℤ) → a ≤ℤ b → floor a 0 ≤ℤ ceiling b 0
    over_zero (pos a) (pos zero) h = rw (div-zero a) (le_z_yes tt)
    over_zero (pos a) (pos (suc b)) h = rw (div-zero a, div-zero b) (le_z_yes tt)
    over_zero (pos a) (negsuc b) h = absurd h.le
    over_zero (negsuc a) (pos zero) h = le_z_yes tt
    over_zero (negsuc a) (pos (suc b)) h = le_z_yes tt
    over_zero (negsuc a) (negsuc b) h = rw (div-zero (suc b)) (le_z_yes tt)

pub par_ordered : (r : ℤ) (a : Pair) → a.low ≤ a.high → par_low r a ≤ℤ par_high r a
par_ordered r a h =
    floor-≤-ceiling (par_denominator r)
    (par_numerator_lem r a (encloses_widen (≤ℤ_refl (pos a.low)) (le_z_yes (le→leb a.low a.high h)) (encloses_exact (pos a.low))))

-- ---- the next year

pub judged : (low high : ℤ) → low ≤ℤ high → le_z (pos 1) low ≡ true → le_z high (pos highest_factor) ≡ true → Factor (pair (nat_abs low) (nat_abs high))
judged (pos l) (pos h) o least greatest = record { least = leb-true 1 l least; ordered = leb→le l h o.le; greatest = leb-true h highest_factor greatest }
judged (pos l) (negsuc h) o least greatest = absurd o.le
judged (negsuc l) h o least greatest = absurd (subst T (sym least) tt)

module _ (ps : List Pair) (low high : ℤ) {qs : List Pair} where
  pub next_bounded : low ≤ℤ high → Each Factor ps → next_year ps low high ≡ done qs → Each Factor qs
  next_bounded o e d =
      let j = next_done ps low high d in
      rw j.factors (each_snoc _ e (judged low high o j.least j.greatest))

  pub next_length : next_year ps low high ≡ done qs → length qs ≡ length ps + 1
  next_length d = rw (next_done ps low high d).factors (length-append ps _)

module _ (r : ℤ) (ps : List Pair) {qs : List Pair} (d : quoted_year r ps ≡ done qs) where
  pub quoted_bounded : Each Factor ps → Each Factor qs
  quoted_bounded e = next_bounded ps _ _ (par_ordered r (annuity ps) (annuity_ordered e)) e (sym (quoted_next r ps) ∙ d)

  pub quoted_length : length qs ≡ length ps + 1
  quoted_length = next_length ps (par_low r (annuity ps)) (par_high r (annuity ps)) (sym (quoted_next r ps) ∙ d)

-- ---- the years inside a gap, for any roundings in order

module _ {f g : ℕ → ℕ → ℕ} {x y : ℕ} where
  pub inside_bounded : Ordered f g → x ≤ y → (k s t : ℕ) (ps : List Pair) {qs : List Pair} → s ≤ t →
      inside_years (trial f s x k) (trial g t y k) ps ≡ done qs → Each Factor ps → Each Factor qs
  inside_bounded o xy zero s t ps st d e = rw (← done_injective (sym (inside_none f g s t x y ps) ∙ d)) e
  inside_bounded o xy (suc k) s t ps st d e =
      let l = f (s * x) U in
      let h = g (t * y) U in
      let (rs, next, rest) = bind_done (next_year ps (pos l) (pos h)) (inside_years (trial f l x k) (trial g h y k)) (sym (inside_more f g s t x y ps k) ∙ d) in
      let lh : l ≤ h = o.holds _ _ (mul-le-mul st xy) in
      inside_bounded o xy k l h rs lh rest (next_bounded ps (pos l) (pos h) (le_z_yes (le→leb l h lh)) e next)

pub inside_length : (f g : ℕ → ℕ → ℕ) (x y k s t : ℕ) (ps : List Pair) {qs : List Pair} →
    inside_years (trial f s x k) (trial g t y k) ps ≡ done qs → length qs ≡ length ps + k
inside_length f g x y zero s t ps d = rw (← done_injective (sym (inside_none f g s t x y ps) ∙ d)) (omega arith)
inside_length f g x y (suc k) s t ps d =
    let l = f (s * x) U in
    let h = g (t * y) U in
    let (rs, next, rest) = bind_done (next_year ps (pos l) (pos h)) (inside_years (trial f l x k) (trial g h y k)) (sym (inside_more f g s t x y ps k) ∙ d) in
    omega (arith, inside_length f g x y k l h rs rest, next_length ps (pos l) (pos h) next)

-- ---- a gap

pub yearly_factor : (g : Gap) → YearlyFactor (pair (low_x g) (high_x g))
yearly_factor g =
    let l = low_x-within g in
    let h = high_x-within g in
    record { low_least = l.0; low_greatest = l.1; high_least = h.0; high_greatest = h.1 }

pub gap_in_order : (k : ℕ) (r : ℤ) {ps : List Pair} → 0 < k → Each Factor ps → InOrder (gap_after ps k r)
gap_in_order k r h e =
    let f = last_year_factor e in
    record { annuity = annuity_ordered e; start = f.ordered; positive = omega (arith, f.least, f.ordered); years = h }

pub record Bounded (b : Bootstrap) : Type 0 where
  pub factors : Each Factor b.factors
  pub yearly : Each YearlyFactor b.yearly_factors

pub gap_inside_bounded : (k : ℕ) (r : ℤ) (ps : List Pair) {qs : List Pair} → ends_pass k r ps ≡ true → inside k r ps ≡ done qs → Each Factor ps → Each Factor qs
gap_inside_bounded zero r ps p d e = rw (← done_injective (sym (inside_none ◌/◌ ceil_div _ _ _ _ ps) ∙ d)) e
gap_inside_bounded (suc k) r ps p d e =
    let g = gap_after ps (suc k) r in
    let ends = both_true (surely_not_above g lower_end) (surely_not_below g upper_end) p in
    inside_bounded down_up (low_x-≤-high_x g (gap_in_order (suc k) r (zero-lt-suc k) e) ends.0 ends.1) (suc k - 1) _ _ ps (last_year_factor e).ordered d e

module _ (k : ℕ) (r : ℤ) (b : Bootstrap) {c : Bootstrap} (d : gap_years k r b ≡ done c) where
  pub gap_bounded : Bounded b → Bounded c
  gap_bounded e =
      let g = gap_inverse k r b d in
      record {
        factors = quoted_bounded r g.before g.last (gap_inside_bounded k r b.factors g.passes g.within e.factors);
        yearly = rw g.yearly (each_snoc _ e.yearly (yearly_factor _));
      }

  pub gap_length : 0 < k → length c.factors ≡ length b.factors + k
  gap_length h =
      let g = gap_inverse k r b d in
      omega (arith, quoted_length r g.before g.last, inside_length ◌/◌ ceil_div _ _ (k - 1) _ _ b.factors g.within)

  pub gap_count : length c.yearly_factors ≡ length b.yearly_factors + 1
  gap_count = rw (gap_inverse k r b d).yearly (length-append b.yearly_factors _)

-- ---- the quotes in order

pub years_bounded : (q : Quote) (b : Bootstrap) {c : Bootstrap} → years_to q b ≡ done c → Bounded b → Bounded c
years_bounded q b d e =
    years_cases q b
    (λ k next.
    let p = par_inverse q.rate b (sym next ∙ d) in
    record { factors = quoted_bounded q.rate b.factors p.0 e.factors; yearly = rw p.1 e.yearly })
    (λ k gap. gap_bounded _ q.rate b (sym gap ∙ d) e)

pub from_bounded : (qs : List Quote) (b : Bootstrap) {c : Bootstrap} → bootstrap_from qs b ≡ done c → Bounded b → Bounded c
from_bounded [] b d e = rw (← done_injective (sym (from_none b) ∙ d)) e
from_bounded (q ∷ qs) b d e =
    let (c, first, rest) = bind_done (years_to q b) (bootstrap_from qs) (sym (from_cons q qs b) ∙ d) in
    from_bounded qs c rest (years_bounded q b first e)

pub bootstrap_bounded : (qs : List Quote) {b : Bootstrap} → bootstrap qs ≡ done b → Bounded b
bootstrap_bounded qs d = from_bounded qs _ (sym (bootstrap_from_lem qs) ∙ d) (record { factors = none; yearly = none })

-- ---- how many years and gaps: maturities that climb from n years and g gaps

pub climbs_end : (n g : ℕ) → climbs n g [] ≡ true → (n ≤ 50) × (g ≤ 7)
unfolding climbs
climbs_end n g h = let (a, b) = both_true (leb n 50) (leb g 7) h in (leb-true n 50 a, leb-true g 7 b)

pub climbs_more : (n g m : ℕ) (ms : List ℕ) → climbs n g (m ∷ ms) ≡ true → (n < m) × (m - n ≤ 30) × (climbs m (gaps_with (m - n) g) ms ≡ true)
unfolding climbs
climbs_more n g m ms h =
    let (a, rest) = both_true (ltb n m) (leb (m - n) 30 && climbs m (gaps_with (m - n) g) ms) h in
    let (b, c) = both_true (leb (m - n) 30) (climbs m (gaps_with (m - n) g) ms) rest in
    (ltb-true n m a, leb-true (m - n) 30 b, c)

gaps_with-≥ : (k g : ℕ) → g ≤ gaps_with k g
gaps_with-≥ k g = go (eqb k 1)
  where
    go : (t : Bool) → g ≤ cond t g (g + 1)
    go true = omega arith
    go false = omega arith

pub climbs-within : (n g : ℕ) (ms : List ℕ) → climbs n g ms ≡ true → (n ≤ 50) × (g ≤ 7)
climbs-within n g [] h = climbs_end n g h
climbs-within n g (m ∷ ms) h =
    let (rises, short, rest) = climbs_more n g m ms h in
    omega (arith, climbs-within m (gaps_with (m - n) g) ms rest, gaps_with-≥ (m - n) g)

pub years_length : (q : Quote) (b : Bootstrap) {c : Bootstrap} → length b.factors < q.maturity → years_to q b ≡ done c →
    (length c.factors ≡ q.maturity) × (length c.yearly_factors ≡ gaps_with (q.maturity - length b.factors) (length b.yearly_factors))
years_length q b h d =
    years_cases q b
    (λ k next.
    let p = par_inverse q.rate b (sym next ∙ d) in
    (omega (arith, quoted_length q.rate b.factors p.0), rw (eq-eqb _ 1 k) (ap length p.1)))
    (λ k gap.
    let e = sym gap ∙ d in
    (omega (arith, gap_length _ q.rate b e (omega arith)), rw (ne_eqb _ 1 k) (gap_count _ q.rate b e)))

-- the gaps at the last of them
unfoldable pub gaps_from : ℕ → ℕ → List ℕ → ℕ
gaps_from n g [] = g
gaps_from n g (m ∷ ms) = gaps_from m (gaps_with (m - n) g) ms

-- the years end with the last maturity, and there are as many yearly factors as gaps
pub from_length : (ms : List ℕ) (rs : List ℤ) (b : Bootstrap) {c : Bootstrap} → length rs ≡ length ms →
    climbs (length b.factors) (length b.yearly_factors) ms ≡ true → bootstrap_from (quotes_of ms rs) b ≡ done c →
    (length c.factors ≡ last_of (length b.factors) ms) × (length c.yearly_factors ≡ gaps_from (length b.factors) (length b.yearly_factors) ms)
unfolding last_of gaps_from
from_length [] rs b same climb d =
    let e = done_injective (sym (from_none b) ∙ (rw (quotes_none rs) at d)) in
    rw (← e) (refl, refl)
from_length (m ∷ ms) [] b same climb d = absurd (omega arith)
from_length (m ∷ ms) (r ∷ rs) b same climb d =
    let q : Quote = record { maturity = m; rate = r } in
    let steps = sym (from_cons q (quotes_of ms rs) b) ∙ (rw (quotes_more m ms r rs) at d) in
    let (c, first, rest) = bind_done (years_to q b) (bootstrap_from (quotes_of ms rs)) steps in
    let (rises, short, climbs) = climbs_more _ _ m ms climb in
    let (years, gaps) = years_length q b rises first in
    rw (years, gaps) at (from_length ms rs c (omega arith) (rw (years, gaps) climbs) rest)

pub bootstrap-length : (ms : List ℕ) (rs : List ℤ) {b : Bootstrap} → length rs ≡ length ms → climbs 0 0 ms ≡ true → bootstrap (quotes_of ms rs) ≡ done b →
    (length b.factors ≡ last_of 0 ms) × (length b.yearly_factors ≡ gaps_from 0 0 ms)
bootstrap-length ms rs same climb d = from_length ms rs _ same climb (sym (bootstrap_from_lem _) ∙ d)
