-- The factors from the quotes, case by case: each case of a definition as an equation.
use mathlib.Core.Path.{◌≡◌, refl, ap, sym, ◌∙◌}
use mathlib.Core.Bool.{Bool, true, false, ◌&&◌}
use mathlib.Core.List.{List, [], ◌∷◌, ◌++◌, map}
use Prim.Native.Nat.{ℕ, suc, ◌+◌, ◌*◌, ◌-◌, ◌/◌}
use native.Mathlib.Omega.{arith}
use lib.Dec.{eqb}
use lib.IntN.{ℤ, pos, nat_abs}
use lib.ListN.{length}
use lib.Signed.{le_z}
use borrow.Author.Tests.{eq-eqb, ne_eqb, eqb-true, eqb-false}
use Rattle.fraction.specs.Rounding.{U, ceil_div}
use Rattle.method.specs.Units.{Pair, pair}
use Rattle.method.specs.Grounds.{low_below_one, high_above_limit, end_fails_test, Outcome, refused, done, ◌>>=◌, demand}
use Rattle.method.specs.Sheet.{total}
use Rattle.method.specs.Quotes.{annuity, trial, surely_not_above, surely_not_below, low_x, high_x, lower_end, upper_end}
use Rattle.method.specs.Quotes.{highest_factor, par_low, par_high, next_year, quoted_year, inside_years, Bootstrap, last_year}
use Rattle.method.specs.Quotes.{gap_after, gap_years, Quote, par_year, years_to, bootstrap_from, quotes_of, bootstrap}
use Rattle.method.proofs.Outcome.{done_injective, bind_done, bind_assoc, demand_done}

-- ---- a year more: A and the last year

pub total_snoc : (ns : List ℕ) (n : ℕ) → total (ns ++ n ∷ []) ≡ total ns + n
unfolding total
total_snoc [] n = omega arith
total_snoc (m ∷ ns) n = omega (arith, total_snoc ns n)

pub map_snoc : {A B : Type 0} (f : A → B) (xs : List A) (x : A) → map f (xs ++ x ∷ []) ≡ map f xs ++ f x ∷ []
map_snoc f [] x = refl
map_snoc f (y ∷ xs) x = ap (λ l. f y ∷ l) (map_snoc f xs x)

pub annuity_none : annuity [] ≡ pair 0 0
unfolding annuity total
annuity_none = refl

pub annuity_more : (ps : List Pair) (p : Pair) → annuity (ps ++ p ∷ []) ≡ pair ((annuity ps).low + p.low) ((annuity ps).high + p.high)
unfolding annuity
annuity_more ps p =
    let low_sum = total_snoc (map (λ p. p.low) ps) p.low in
    let high_sum = total_snoc (map (λ p. p.high) ps) p.high in
    rw (map_snoc (λ p. p.low) ps p, map_snoc (λ p. p.high) ps p, low_sum, high_sum)

pub last_year_none : last_year [] ≡ pair U U
unfolding last_year
last_year_none = refl

pub last_year_more : (ps : List Pair) (p : Pair) → last_year (ps ++ p ∷ []) ≡ p
unfolding last_year
last_year_more [] p = refl
last_year_more (q ∷ []) p = refl
last_year_more (q ∷ r ∷ ps) p = last_year_more (r ∷ ps) p

-- ---- the next year, judged

module _ (ps : List Pair) (low high : ℤ) where
  pub next_below_one : le_z (pos 1) low ≡ false → next_year ps low high ≡ refused (low_below_one (length ps + 1))
  next_below_one l = rw l

  pub next_above_limit : le_z (pos 1) low ≡ true → le_z high (pos highest_factor) ≡ false → next_year ps low high ≡ refused (high_above_limit (length ps + 1))
  next_above_limit l h = rw (l, h)

  pub next_joins : le_z (pos 1) low ≡ true → le_z high (pos highest_factor) ≡ true → next_year ps low high ≡ done (ps ++ pair (nat_abs low) (nat_abs high) ∷ [])
  next_joins l h = rw (l, h)

pub quoted_next : (r : ℤ) (ps : List Pair) → quoted_year r ps ≡ next_year ps (par_low r (annuity ps)) (par_high r (annuity ps))
unfolding quoted_year
quoted_next r ps = refl

-- ---- the years inside a gap

module _ (f g : ℕ → ℕ → ℕ) (s t x y : ℕ) (ps : List Pair) where
  pub inside_none : inside_years (trial f s x 0) (trial g t y 0) ps ≡ done ps
  unfolding inside_years trial
  inside_none = refl

  pub inside_more : (k : ℕ) →
      inside_years (trial f s x (suc k)) (trial g t y (suc k)) ps ≡
      (next_year ps (pos (f (s * x) U)) (pos (g (t * y) U)) >>= inside_years (trial f (f (s * x) U) x k) (trial g (g (t * y) U) y k))
  unfolding inside_years trial
  inside_more k = refl

-- ---- a gap

abbrev pub inside : ℕ → ℤ → List Pair → Outcome (List Pair)
inside k r ps =
    let t = last_year ps in
    let g = gap_after ps k r in
    inside_years (trial ◌/◌ t.low (low_x g) (k - 1)) (trial ceil_div t.high (high_x g) (k - 1)) ps

abbrev pub ends_pass : ℕ → ℤ → List Pair → Bool
ends_pass k r ps = let g = gap_after ps k r in surely_not_above g lower_end && surely_not_below g upper_end

module _ (k : ℕ) (r : ℤ) (b : Bootstrap) where
  pub gap_fails : ends_pass k r b.factors ≡ false → gap_years k r b ≡ refused (end_fails_test (length b.factors + k))
  unfolding gap_years
  gap_fails e = rw e

  pub gap_passes : ends_pass k r b.factors ≡ true →
      let g = gap_after b.factors k r in
      gap_years k r b ≡
      ((inside k r b.factors >>= quoted_year r) >>= λ factors.
      done (record { factors = factors; yearly_factors = b.yearly_factors ++ pair (low_x g) (high_x g) ∷ [] }))
  unfolding gap_years
  gap_passes e = rw e (sym (bind_assoc (inside k r b.factors) (quoted_year r) _))

-- ---- a quote: the next year by par, or a gap

pub par_year_lem : (r : ℤ) (b : Bootstrap) →
    par_year r b ≡ (quoted_year r b.factors >>= λ factors. done (record { factors = factors; yearly_factors = b.yearly_factors }))
unfolding par_year
par_year_lem r b = refl

module _ (q : Quote) (b : Bootstrap) where
  pub years_next : q.maturity - length b.factors ≡ 1 → years_to q b ≡ par_year q.rate b
  unfolding years_to
  years_next e = rw (eq-eqb _ 1 e)

  pub years_gap : (q.maturity - length b.factors ≡ 1 → ⊥) → years_to q b ≡ gap_years (q.maturity - length b.factors) q.rate b
  unfolding years_to
  years_gap e = rw (ne_eqb _ 1 e)

-- ---- the quotes in order

pub quotes_none : (rs : List ℤ) → quotes_of [] rs ≡ []
unfolding quotes_of
quotes_none rs = refl

pub quotes_more : (m : ℕ) (ms : List ℕ) (r : ℤ) (rs : List ℤ) → quotes_of (m ∷ ms) (r ∷ rs) ≡ record { maturity = m; rate = r } ∷ quotes_of ms rs
unfolding quotes_of
quotes_more m ms r rs = refl

pub quotes_length : (ms : List ℕ) (rs : List ℤ) → length rs ≡ length ms → length (quotes_of ms rs) ≡ length ms
unfolding quotes_of
quotes_length [] rs e = refl
quotes_length (m ∷ ms) [] e = e
quotes_length (m ∷ ms) (r ∷ rs) e = ap suc (quotes_length ms rs (omega arith))

pub from_none : (b : Bootstrap) → bootstrap_from [] b ≡ done b
unfolding bootstrap_from
from_none b = refl

pub from_cons : (q : Quote) (qs : List Quote) (b : Bootstrap) → bootstrap_from (q ∷ qs) b ≡ (years_to q b >>= bootstrap_from qs)
unfolding bootstrap_from
from_cons q qs b = refl

pub bootstrap_from_lem : (qs : List Quote) → bootstrap qs ≡ bootstrap_from qs (record { factors = []; yearly_factors = [] })
unfolding bootstrap
bootstrap_from_lem qs = refl

-- ---- and back: what a walk that was not refused has done

pub record Joined (ps : List Pair) (low high : ℤ) (qs : List Pair) : Type 0 where
  pub least : le_z (pos 1) low ≡ true
  pub greatest : le_z high (pos highest_factor) ≡ true
  pub factors : qs ≡ ps ++ pair (nat_abs low) (nat_abs high) ∷ []

pub next_done : (ps : List Pair) (low high : ℤ) {qs : List Pair} → next_year ps low high ≡ done qs → Joined ps low high qs
next_done ps low high e =
    let joined = done (ps ++ pair (nat_abs low) (nat_abs high) ∷ []) in
    let year = length ps + 1 in
    let (l, f) = demand_done (le_z (pos 1) low) (low_below_one year) (λ _. demand (le_z high (pos highest_factor)) (high_above_limit year) >>= λ _. joined) e in
    let (h, d) = demand_done (le_z high (pos highest_factor)) (high_above_limit year) (λ _. joined) f in
    record { least = l; greatest = h; factors = sym (done_injective d) }

pub record GapDone (k : ℕ) (r : ℤ) (b c : Bootstrap) : Type 0 where
  pub before : List Pair
  pub passes : ends_pass k r b.factors ≡ true
  pub within : inside k r b.factors ≡ done before
  pub last : quoted_year r before ≡ done c.factors
  pub yearly : let g = gap_after b.factors k r in c.yearly_factors ≡ b.yearly_factors ++ pair (low_x g) (high_x g) ∷ []

pub gap_inverse : (k : ℕ) (r : ℤ) (b : Bootstrap) {c : Bootstrap} → gap_years k r b ≡ done c → GapDone k r b c
unfolding gap_years
gap_inverse k r b {c} e =
    let (passes, f) = demand_done (ends_pass k r ps) (end_fails_test (length ps + k)) (λ _. inside k r ps >>= λ before. quoted_year r before >>= finish) e in
    let (before, within, h) = bind_done (inside k r ps) (λ before. quoted_year r before >>= finish) f in
    let (factors, last, d) = bind_done (quoted_year r before) finish h in
    let all = done_injective d in
    record {
      before = before;
      passes = passes;
      within = within;
      last = last ∙ ap (λ (b : Bootstrap). done b.factors) all;
      yearly = sym (ap (λ (b : Bootstrap). b.yearly_factors) all);
    }
  where
    ps : List Pair
    ps = b.factors

    finish : List Pair → Outcome Bootstrap
    finish factors =
        let g = gap_after ps k r in
        done (record { factors = factors; yearly_factors = b.yearly_factors ++ pair (low_x g) (high_x g) ∷ [] })

pub par_inverse : (r : ℤ) (b : Bootstrap) {c : Bootstrap} → par_year r b ≡ done c →
    (quoted_year r b.factors ≡ done c.factors) × (c.yearly_factors ≡ b.yearly_factors)
unfolding par_year
par_inverse r b {c} e =
    let (factors, quoted, d) = bind_done (quoted_year r b.factors) (λ factors. done (record { factors = factors; yearly_factors = b.yearly_factors })) e in
    let all = done_injective d in
    (quoted ∙ ap (λ (b : Bootstrap). done b.factors) all, sym (ap (λ (b : Bootstrap). b.yearly_factors) all))

-- a quote's maturity is the next year, or it is the end of a gap
pub years_cases : {P : Type 0} (q : Quote) (b : Bootstrap) →
    let k = q.maturity - length b.factors in
    (k ≡ 1 → years_to q b ≡ par_year q.rate b → P) → ((k ≡ 1 → ⊥) → years_to q b ≡ gap_years k q.rate b → P) → P
years_cases {P} q b next gap = go (eqb (q.maturity - length b.factors) 1) refl
  where
    go : (t : Bool) → eqb (q.maturity - length b.factors) 1 ≡ t → P
    go true e = let k = eqb-true _ 1 e in next k (years_next q b k)
    go false e = let k = eqb-false _ 1 e in gap k (years_gap q b k)
