-- The liquid part: the factors of the quotes, and the yearly factors of their gaps, enclose the true ones of every order.
-- For any list of rising maturities and any rates above -100,000.
use mathlib.Core.Path.{◌≡◌, refl, ap, sym, subst}
use mathlib.Core.Bool.{true, false, cond, ◌&&◌}
use mathlib.Core.List.{List, [], ◌∷◌, ◌++◌, zip_with, append_assoc, append-nil}
use Prim.Native.Nat.{ℕ, zero, suc, ◌-◌, ◌<◌}
use native.Mathlib.Omega.{arith}
use borrow.Author.Tests.{eqb-true, leb-true}
use lib.Dec.{eqb, leb→le, T}
use lib.IntN.{ℤ, pos, negsuc, nat_abs}
use lib.ListN.{length, length-append}
use lib.Signed.{le_z}
use Rattle.fraction.specs.Fraction.{ℚ, neg_part}
use Rattle.fraction.specs.Rounding.{Encloses}
use Rattle.fraction.proofs.Order.{≤ℚ-refl, ≈-sym}
use Rattle.fraction.proofs.Enclosure.{encloses-≈, encloses_ordered, nat_encloses}
use Rattle.method.specs.Units.{Pair, pair, pairs_of}
use Rattle.method.specs.Grounds.{done}
use Rattle.method.specs.Quotes.{Gap, Bootstrap, annuity, next_year, quoted_year, inside_years, last_year, gap_after, gap_years, par_year, years_to}
use Rattle.method.specs.Quotes.{bootstrap_from, quotes_of, bootstrap, lower_end, upper_end, highest_factor, surely_not_above, surely_not_below}
use Rattle.method.specs.True.{billion, between, sum_of, par_factor, multiple, chosen, last_factor, Liquid, to_maturity, liquid_from, liquid}
use Rattle.method.proofs.Outcome.{bind_done, done_injective, both_true}
use Rattle.method.proofs.Enclosed.{AllEnclosed, none, more, enclosed_snoc, enclosed_length, enclosed_sum}
use Rattle.method.proofs.QuotesLaws.{next_done, gap_inverse, par_inverse}
use Rattle.method.proofs.QuotesBounds.{each_snoc, last_year_factor, yearly_factor}
use Rattle.method.proofs.Par.{true_par_encloses}
use Rattle.method.proofs.Trial.{onward-zero, trial_encloses}
use Rattle.method.proofs.Gap.{PassesEnds, yearly_encloses}
use Rattle.method.proofs.Outcome.{split}
use Rattle.method.specs.Ranges.{Each, Factor, YearlyFactor}

-- years worked so far, beside the true ones
pub record YearsEnclosed (ps : List Pair) (xs : List ℚ) : Type 0 where
  pub enclosed : AllEnclosed ps xs
  pub in_range : Each Factor ps

-- ---- one year more

abbrev naturals : ℤ → ℤ → Pair
naturals low high = pair (nat_abs low) (nat_abs high)

natural_ends : (low high : ℤ) {x : ℚ} → le_z (pos 1) low ≡ true → le_z high (pos highest_factor) ≡ true → Encloses low high x →
    Encloses (pos (nat_abs low)) (pos (nat_abs high)) x × Factor (naturals low high)
natural_ends (pos a) (pos b) e f h =
    (h, record { least = leb-true 1 a e; ordered = leb→le a b (encloses_ordered h).le; greatest = leb-true b highest_factor f })
natural_ends (pos a) (negsuc b) e f h = absurd (encloses_ordered h).le
natural_ends (negsuc a) (pos b) e f h = absurd (subst T (sym e) tt)
natural_ends (negsuc a) (negsuc b) e f h = absurd (subst T (sym e) tt)

pub next_year_lem : (ps : List Pair) {xs : List ℚ} (low high : ℤ) {x : ℚ} {qs : List Pair} → next_year ps low high ≡ done qs →
    YearsEnclosed ps xs → Encloses low high x → YearsEnclosed qs (xs ++ x ∷ [])
next_year_lem ps {xs} low high {x} {qs} e h k =
    let j = next_done ps low high e in
    let ends = natural_ends low high j.least j.greatest k in
    rw j.factors (record { enclosed = enclosed_snoc h.enclosed ends.0; in_range = each_snoc _ h.in_range ends.1 })

-- ---- a quoted year by par

pub quoted_year_lem : (r : ℤ) → neg_part r < 100_000 → (ps : List Pair) {xs : List ℚ} {qs : List Pair} → quoted_year r ps ≡ done qs →
    YearsEnclosed ps xs → YearsEnclosed qs (xs ++ par_factor r (sum_of xs) ∷ [])
unfolding quoted_year annuity
quoted_year_lem r hr ps e h = next_year_lem ps _ _ e h (true_par_encloses r (annuity ps) hr (enclosed_sum h.enclosed))

-- ---- the years inside a gap

same_years : {ps qs : List Pair} (xs : List ℚ) → done ps ≡ done qs → YearsEnclosed ps xs → YearsEnclosed qs (xs ++ [])
same_years xs e h = rw (append-nil xs) (subst (λ (ys : List Pair). YearsEnclosed ys xs) (done_injective e) h)

pub inside_years_lem : (ls hs : List ℕ) {ys : List ℚ} → AllEnclosed (pairs_of ls hs) ys → (ps : List Pair) (xs : List ℚ) {qs : List Pair} →
    inside_years ls hs ps ≡ done qs → YearsEnclosed ps xs → YearsEnclosed qs (xs ++ ys)
unfolding inside_years zip_with
inside_years_lem [] hs none ps xs e h = same_years xs e h
inside_years_lem (l ∷ ls) [] none ps xs e h = same_years xs e h
inside_years_lem (l ∷ ls) (u ∷ hs) (more {x = y} {xs = ys} k r) ps xs {qs} e h =
    let b = bind_done (next_year ps (pos l) (pos u)) (inside_years ls hs) e in
    subst (λ (zs : List ℚ). YearsEnclosed qs zs) (append_assoc xs (y ∷ []) ys)
    (inside_years_lem ls hs r b.0 (xs ++ y ∷ []) b.2 (next_year_lem ps (pos l) (pos u) b.1 h k))

-- ---- the last year

pub last_year_lem : {ps : List Pair} {xs : List ℚ} → AllEnclosed ps xs → Encloses (pos (last_year ps).low) (pos (last_year ps).high) (last_factor xs)
unfolding last_year last_factor
last_year_lem none = nat_encloses (≤ℚ-refl billion) (≤ℚ-refl billion)
last_year_lem (more h none) = h
last_year_lem (more h (more k r)) = last_year_lem (more k r)

-- ---- on to a quote's maturity

pub record LiquidEnclosed (b : Bootstrap) (l : Liquid) : Type 0 where
  pub years : YearsEnclosed b.factors l.factors
  pub yearly : AllEnclosed b.yearly_factors l.yearly
  pub yearly_in_range : Each YearlyFactor b.yearly_factors

same_bootstrap : {b c : Bootstrap} {l : Liquid} → done b ≡ done c → LiquidEnclosed b l → LiquidEnclosed c l
same_bootstrap {l = l} e h = subst (λ (d : Bootstrap). LiquidEnclosed d l) (done_injective e) h

passes_ends : (g : Gap) → (surely_not_above g lower_end && surely_not_below g upper_end) ≡ true → PassesEnds g
passes_ends g e = let t = both_true (surely_not_above g lower_end) (surely_not_below g upper_end) e in record { lower = t.0; upper = t.1 }

between-length : (t x : ℚ) (k j : ℕ) → length (between t x j k) ≡ k
unfolding between
between-length t x zero j = refl
between-length t x (suc k) j = ap suc (between-length t x k (suc j))

-- the true years of a gap of k years
abbrev gap_true : ℕ → ℕ → ℤ → List ℚ → ℚ
gap_true n k r xs = multiple n (chosen n r (sum_of xs) (last_factor xs) k)

abbrev inside_true : ℕ → ℕ → ℤ → List ℚ → List ℚ
inside_true n k r xs = xs ++ between (last_factor xs) (gap_true n k r xs) 1 (k - 1)

pub gap_years_lem : (n k : ℕ) → 0 < k → (r : ℤ) → neg_part r < 100_000 → (b : Bootstrap) (l : Liquid) {c : Bootstrap} →
    gap_years k r b ≡ done c → LiquidEnclosed b l →
    LiquidEnclosed c
    (record {
      factors = inside_true n k r l.factors ++ par_factor r (sum_of (inside_true n k r l.factors)) ∷ [];
      yearly = l.yearly ++ gap_true n k r l.factors ∷ [];
    })
unfolding annuity
gap_years_lem n k hk r hr b l {c} e h =
    let ps = b.factors in
    let g = gap_after ps k r in
    let d = gap_inverse k r b e in
    let last = last_year_lem h.years.enclosed in
    let sum = enclosed_sum h.years.enclosed in
    let x = yearly_encloses n (k - 1) g (passes_ends g d.passes) (omega arith) sum last (last_year_factor h.years.in_range).least in
    let years = trial_encloses (last_factor l.factors) x (k - 1) 0 (last_year ps).low (last_year ps).high (encloses-≈ (≈-sym (onward-zero _ _)) last) in
    record {
      years = quoted_year_lem r hr d.before d.last (inside_years_lem _ _ years ps l.factors d.within h.years);
      yearly = rw d.yearly (enclosed_snoc h.yearly x);
      yearly_in_range = rw d.yearly (each_snoc _ h.yearly_in_range (yearly_factor g));
    }

pub par_year_lem : (r : ℤ) → neg_part r < 100_000 → (b : Bootstrap) (l : Liquid) {c : Bootstrap} → par_year r b ≡ done c → LiquidEnclosed b l →
    LiquidEnclosed c (record { factors = l.factors ++ par_factor r (sum_of l.factors) ∷ []; yearly = l.yearly })
par_year_lem r hr b l {c} e h =
    let (quoted, yearly) = par_inverse r b e in
    record { years = quoted_year_lem r hr b.factors quoted h.years; yearly = rw yearly h.yearly; yearly_in_range = rw yearly h.yearly_in_range }

-- either way it is the true step to that maturity

next_true : ℤ → Liquid → Liquid
next_true r l = record { factors = l.factors ++ par_factor r (sum_of l.factors) ∷ []; yearly = l.yearly }

gap_true_to : ℕ → ℕ → ℤ → Liquid → Liquid
gap_true_to n k r l =
    record {
      factors = inside_true n k r l.factors ++ par_factor r (sum_of (inside_true n k r l.factors)) ∷ [];
      yearly = l.yearly ++ gap_true n k r l.factors ∷ [];
    }

to_next : (n m : ℕ) (r : ℤ) (l : Liquid) → m - length l.factors ≡ 1 → next_true r l ≡ to_maturity n m r l
unfolding to_maturity next_true between
to_next n m r l e = rw (e, append-nil l.factors)

to_gap : (n m : ℕ) (r : ℤ) (l : Liquid) → eqb (m - length l.factors) 1 ≡ false → gap_true_to n (m - length l.factors) r l ≡ to_maturity n m r l
unfolding to_maturity gap_true_to
to_gap n m r l e = rw e

pub years_to_lem : (n m : ℕ) (r : ℤ) → neg_part r < 100_000 → (b : Bootstrap) (l : Liquid) {c : Bootstrap} → length l.factors < m →
    years_to (record { maturity = m; rate = r }) b ≡ done c → LiquidEnclosed b l → LiquidEnclosed c (to_maturity n m r l)
unfolding years_to next_true gap_true_to
years_to_lem n m r hr b l {c} hm e h =
    split (eqb k 1)
    (λ q. subst (λ (t : Liquid). LiquidEnclosed c t) (to_next n m r l (eqb-true k 1 q)) (par_year_lem r hr b l (rw q at worked) h))
    (λ q. subst (λ (t : Liquid). LiquidEnclosed c t) (to_gap n m r l q) (gap_years_lem n k (omega arith) r hr b l (rw q at worked) h))
  where
    k : ℕ
    k = m - length l.factors

    worked : cond (eqb k 1) (par_year r b) (gap_years k r b) ≡ done c
    worked = subst (λ (j : ℕ). cond (eqb (m - j) 1) (par_year r b) (gap_years (m - j) r b) ≡ done c) (enclosed_length h.years.enclosed) e

true-length : (n m : ℕ) (r : ℤ) (l : Liquid) → length l.factors < m → length (to_maturity n m r l).factors ≡ m
unfolding to_maturity
true-length n m r l h = simp (length-append, between-length) (omega arith)

-- ---- every quote in turn

abbrev pub Rising : ℕ → List ℕ → Type 0
Rising m [] = Unit {0}
Rising m (x ∷ xs) = (m < x) × Rising x xs

abbrev pub RatesAbove : List ℤ → Type 0
RatesAbove [] = Unit {0}
RatesAbove (r ∷ rs) = (neg_part r < 100_000) × RatesAbove rs

pub bootstrap_from_lem : (n : ℕ) (ms : List ℕ) (rs : List ℤ) (b : Bootstrap) (l : Liquid) {c : Bootstrap} → Rising (length l.factors) ms → RatesAbove rs →
    bootstrap_from (quotes_of ms rs) b ≡ done c → LiquidEnclosed b l → LiquidEnclosed c (liquid_from n ms rs l)
unfolding bootstrap_from quotes_of liquid_from
bootstrap_from_lem n [] rs b l hm hr e h = same_bootstrap e h
bootstrap_from_lem n (m ∷ ms) [] b l hm hr e h = same_bootstrap e h
bootstrap_from_lem n (m ∷ ms) (r ∷ rs) b l hm hr e h =
    let step = bind_done (years_to (record { maturity = m; rate = r }) b) (bootstrap_from (quotes_of ms rs)) e in
    bootstrap_from_lem n ms rs step.0 (to_maturity n m r l) (rw (true-length n m r l hm.0) hm.1) hr.1 step.2
    (years_to_lem n m r hr.0 b l hm.0 step.1 h)

pub bootstrap_encloses : (n : ℕ) (ms : List ℕ) (rs : List ℤ) {b : Bootstrap} → Rising 0 ms → RatesAbove rs →
    bootstrap (quotes_of ms rs) ≡ done b → LiquidEnclosed b (liquid n ms rs)
unfolding bootstrap liquid
bootstrap_encloses n ms rs hm hr e =
    bootstrap_from_lem n ms rs _ _ hm hr e
    (record { years = record { enclosed = none; in_range = Each.none }; yearly = none; yearly_in_range = Each.none })
