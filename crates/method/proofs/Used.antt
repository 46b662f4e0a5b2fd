-- The quotes that are used. They are the ones that the true curve picks by maturity; whichever the volumes drop, they climb to at most
-- 50 years with gaps of at most 30; and the x of each stretch between two quotes encloses the true curve's.
use mathlib.Core.Path.{◌≡◌, refl, ap, ap₂, sym, subst, ◌∙◌}
use mathlib.Core.Bool.{Bool, true, false, cond}
use mathlib.Core.List.{List, [], ◌∷◌, ◌++◌, map, zip_with}
use Prim.Native.Nat.{ℕ, zero, suc, ◌+◌, ◌-◌, ◌≤◌, ◌<◌}
use native.Mathlib.Nat.{suc-add}
use native.Mathlib.Omega.{arith}
use borrow.Author.Tests.{le-leb, lt-leb, lt-ltb, ne_eqb}
use lib.Dec.{ltb, lit≤}
use lib.IntN.{ℤ}
use lib.ListN.{length, take, drop, get_or, replicate, length-map, length-drop, length-append, length-replicate, get_or-replicate, get_or-append, get_or-map}
use lib.Seq.{drop-nil, length-take-le, get_or-append-add, get_or-drop}
use Rattle.fraction.specs.Fraction.{ℚ}
use Rattle.fraction.specs.Rounding.{U}
use Rattle.fraction.proofs.Order.{≤ℚ-refl}
use Rattle.fraction.proofs.Enclosure.{nat_encloses}
use Rattle.method.specs.Units.{Pair, pair, pairs_of}
use Rattle.method.specs.Sheet.{Profile, euro, from_ten, from_fifteen, quote_count, smoothing_index, volume_count}
use Rattle.method.specs.Sheet.{maturities, quoted_maturities, volume_maturities, smoothing_year, Numbers}
use Rattle.method.specs.Grounds.{done}
use Rattle.method.specs.Quotes.{last_of, used, kept, Bootstrap, Quote, quotes_of, bootstrap}
use Rattle.method.specs.Ranges.{Each, none, more, climbs}
use Rattle.method.specs.Curve.{used_by, used_quotes, spread}
use Rattle.method.specs.True.{billion, smoothed_from, volumes_at, traded_at, is_used, beside, yearly_to}
use Rattle.method.proofs.Enclosed as enclosed
use Rattle.method.proofs.Enclosed.{AllEnclosed, enclosed_drop}
use Rattle.method.proofs.Entries.{spelled_out}
use Rattle.method.proofs.Slots.{smoothing_inside, some_volume, quoted_count, volume_count_lem}
use Rattle.method.proofs.QuotesBounds.{climbs_more, gaps_from, bootstrap-length}
use Rattle.method.proofs.Liquid.{Rising, RatesAbove}

-- ---- what is kept

-- one entry more
pub kept_next : {A : Type 0} (us : List Bool) (xs : List A) (i : ℕ) (d : A) → i < length us → i < length xs →
    kept (take (suc i) us) (take (suc i) xs) ≡ kept (take i us) (take i xs) ++ cond (get_or us i false) (get_or xs i d ∷ []) []
unfolding kept
kept_next [] xs i d h k = absurd (omega arith)
kept_next (u ∷ us) [] i d h k = absurd (omega arith)
kept_next (u ∷ us) (x ∷ xs) zero d h k = refl
kept_next (true ∷ us) (x ∷ xs) (suc i) d h k = ap (λ (ys : List _). x ∷ ys) (kept_next us xs i d (omega arith) (omega arith))
kept_next (false ∷ us) (x ∷ xs) (suc i) d h k = kept_next us xs i d (omega arith) (omega arith)

pub kept_at : {A : Type 0} (P : A → Type 0) (us : List Bool) (xs : List A) (d : A) → P d → ((i : ℕ) → P (get_or xs i d)) → (i : ℕ) → P (get_or (kept us xs) i d)
unfolding kept
kept_at P [] xs d p f i = p
kept_at P (u ∷ us) [] d p f i = p
kept_at P (true ∷ us) (x ∷ xs) d p f zero = f zero
kept_at P (true ∷ us) (x ∷ xs) d p f (suc i) = kept_at P us xs d p (λ j. f (suc j)) i
kept_at P (false ∷ us) (x ∷ xs) d p f i = kept_at P us xs d p (λ j. f (suc j)) i

pub kept-length : {A B : Type 0} (us : List Bool) (xs : List A) (ys : List B) → length xs ≡ length ys → length (kept us xs) ≡ length (kept us ys)
unfolding kept
kept-length [] xs ys e = refl
kept-length (u ∷ us) [] [] e = refl
kept-length (u ∷ us) [] (y ∷ ys) e = absurd (omega arith)
kept-length (u ∷ us) (x ∷ xs) [] e = absurd (omega arith)
kept-length (true ∷ us) (x ∷ xs) (y ∷ ys) e = ap suc (kept-length us xs ys (omega arith))
kept-length (false ∷ us) (x ∷ xs) (y ∷ ys) e = kept-length us xs ys (omega arith)

-- maturities and rates apart, or together
pub kept_quotes : (us : List Bool) (ms : List ℕ) (rs : List ℤ) → kept us (quotes_of ms rs) ≡ quotes_of (kept us ms) (kept us rs)
unfolding kept quotes_of
kept_quotes [] ms rs = refl
kept_quotes (u ∷ us) [] rs = refl
kept_quotes (u ∷ us) (m ∷ ms) [] = sym (no_rates_lem (kept (u ∷ us) (m ∷ ms)))
  where
    no_rates_lem : (ms : List ℕ) → quotes_of ms [] ≡ []
    no_rates_lem [] = refl
    no_rates_lem (m ∷ ms) = refl
kept_quotes (true ∷ us) (m ∷ ms) (r ∷ rs) = ap (λ (qs : List Quote). record { maturity = m; rate = r } ∷ qs) (kept_quotes us ms rs)
kept_quotes (false ∷ us) (m ∷ ms) (r ∷ rs) = kept_quotes us ms rs

pub kept_above : (us : List Bool) (rs : List ℤ) → RatesAbove rs → RatesAbove (kept us rs)
unfolding kept
kept_above [] rs h = tt
kept_above (u ∷ us) [] h = tt
kept_above (true ∷ us) (r ∷ rs) h = (h.0, kept_above us rs h.1)
kept_above (false ∷ us) (r ∷ rs) h = kept_above us rs h.1

-- the first are kept where they stand
pub kept-front : {A : Type 0} (k : ℕ) (us : List Bool) (xs : List A) (i : ℕ) (d : A) → i < k → get_or (kept (replicate k true ++ us) xs) i d ≡ get_or xs i d
unfolding kept
kept-front zero us xs i d h = absurd (omega arith)
kept-front (suc k) us [] i d h = refl
kept-front (suc k) us (x ∷ xs) zero d h = refl
kept-front (suc k) us (x ∷ xs) (suc i) d h = kept-front k us xs i d (omega arith)

-- every mark set: nothing is dropped
pub kept_all : {A : Type 0} (xs : List A) → kept (replicate (length xs) true) xs ≡ xs
unfolding kept
kept_all [] = refl
kept_all (x ∷ xs) = ap (λ (ys : List _). x ∷ ys) (kept_all xs)

-- ---- the true curve's quotes are the same

beside-kept : {A : Type 0} (p : ℕ → Bool) (ms : List ℕ) (xs : List A) → beside p ms xs ≡ kept (map p ms) xs
unfolding beside kept
beside-kept p [] xs = refl
beside-kept p (m ∷ ms) [] = refl
beside-kept p (m ∷ ms) (x ∷ xs) = ap (λ (rest : List _). cond (p m) (x ∷ rest) rest) (beside-kept p ms xs)

-- marks that are not set keep nothing
kept_none : {A : Type 0} (us : List Bool) (k : ℕ) (xs : List A) → kept (us ++ replicate k false) xs ≡ kept us xs
unfolding kept
kept_none [] zero xs = refl
kept_none [] (suc k) [] = refl
kept_none [] (suc k) (x ∷ xs) = kept_none [] k xs
kept_none (u ∷ us) k [] = refl
kept_none (u ∷ us) k (x ∷ xs) = ap (λ (rest : List _). cond u (x ∷ rest) rest) (kept_none us k xs)

-- nor does what is past the marks
kept-take : {A : Type 0} (us : List Bool) (xs : List A) → kept us (take (length us) xs) ≡ kept us xs
unfolding kept
kept-take [] xs = refl
kept-take (u ∷ us) [] = refl
kept-take (u ∷ us) (x ∷ xs) = ap (λ (rest : List _). cond u (x ∷ rest) rest) (kept-take us xs)

-- by maturity, or by place; past a market's quotes none is used
pub used_same : (p : Profile) (vs : List ℕ) → length vs ≡ volume_count p →
    map (is_used p vs) maturities ≡ used (smoothing_index p) vs ++ replicate (17 - quote_count p) false
unfolding is_used traded_at used maturities smoothed_from volumes_at
used_same euro vs h = subst (λ (v : List ℕ). map (is_used euro v) maturities ≡ used 12 v ++ []) (spelled_out 0 vs h) refl
used_same from_ten vs h = subst (λ (v : List ℕ). map (is_used from_ten v) maturities ≡ used 9 v ++ replicate 7 false) (spelled_out 0 vs h) refl
used_same from_fifteen vs h = subst (λ (v : List ℕ). map (is_used from_fifteen v) maturities ≡ used 11 v ++ replicate 5 false) (spelled_out 0 vs h) refl

pub beside-used : {A : Type 0} (p : Profile) (vs : List ℕ) (xs : List A) → length vs ≡ volume_count p →
    beside (is_used p vs) maturities xs ≡ kept (used (smoothing_index p) vs) xs
beside-used p vs xs h =
    beside-kept (is_used p vs) maturities xs ∙ ap (λ (us : List Bool). kept us xs) (used_same p vs h) ∙ kept_none _ (17 - quote_count p) xs

-- a mark for each quote
pub used-count : (p : Profile) (vs : List ℕ) → length vs ≡ volume_count p → length (used (smoothing_index p) vs) ≡ quote_count p
unfolding used
used-count p vs h =
    let marks : List Bool = map (ltb 0) (drop 1 vs) in
    let past = length-map (drop 1 vs) (ltb 0) ∙ length-drop 1 vs in
    omega (
      arith,
      length-append (replicate (suc (smoothing_index p)) true) marks,
      length-replicate (suc (smoothing_index p)) true,
      past,
      smoothing_inside p,
      some_volume p,
    )

-- the market's maturities alone have a mark
pub used-maturities : (p : Profile) (vs : List ℕ) → length vs ≡ volume_count p →
    kept (used (smoothing_index p) vs) maturities ≡ kept (used (smoothing_index p) vs) (quoted_maturities p)
unfolding quoted_maturities
used-maturities p vs h =
    let us = used (smoothing_index p) vs in
    sym (kept-take us maturities) ∙ ap (λ (k : ℕ). kept us (take k maturities)) (used-count p vs h)

-- ---- the x of each stretch

yearly_none : (k : ℕ) (es : List ℕ) → yearly_to k es [] ≡ billion
unfolding yearly_to
yearly_none k [] = refl
yearly_none k (e ∷ es) = refl

-- a gap that ends before k years is not theirs
yearly_on : (k e : ℕ) (es : List ℕ) → e < k → (xs : List ℚ) → yearly_to k (e ∷ es) xs ≡ yearly_to k es (drop 1 xs)
unfolding yearly_to
yearly_on k e es h [] = sym (yearly_none k es)
yearly_on k e es h (x ∷ xs) = rw (lt-leb k e h) refl

rising_from : {n m : ℕ} (ms : List ℕ) → n ≤ m → Rising m ms → Rising n ms
rising_from [] h r = tt
rising_from (k ∷ ms) h r = (omega (arith, r.0), r.1)

pub yearlies_on : (e : ℕ) (es : List ℕ) (xs : List ℚ) (ms : List ℕ) → Rising e ms →
    map (λ m. yearly_to m (e ∷ es) xs) ms ≡ map (λ m. yearly_to m es (drop 1 xs)) ms
yearlies_on e es xs [] r = refl
yearlies_on e es xs (m ∷ ms) r =
    ap₂ (λ (y : ℚ) (ys : List ℚ). y ∷ ys) (yearly_on m e es r.0 xs) (yearlies_on e es xs ms (rising_from ms (omega (arith, r.0)) r.1))

-- the first gap that is left is the one to be taken
yearly_first : (us : List Bool) (ms : List ℕ) (m : ℕ) (x : ℚ) (xs : List ℚ) → Rising m ms → 0 < length (kept us ms) → yearly_to m (kept us ms) (x ∷ xs) ≡ x
unfolding kept yearly_to
yearly_first [] ms m x xs r h = absurd (omega arith)
yearly_first (u ∷ us) [] m x xs r h = absurd (omega arith)
yearly_first (true ∷ us) (k ∷ ms) m x xs r h = rw (le-leb m k (omega (arith, r.0))) refl
yearly_first (false ∷ us) (k ∷ ms) m x xs r h = yearly_first us ms m x xs (rising_from ms (omega (arith, r.0)) r.1) h

pub spread_encloses : (us : List Bool) (ms : List ℕ) (n : ℕ) → Rising n ms → length us ≡ length ms → {ys : List Pair} {xs : List ℚ} →
    AllEnclosed ys xs → length ys ≡ length (kept us ms) → AllEnclosed (spread (pair U U) us ys) (map (λ m. yearly_to m (kept us ms) xs) ms)
unfolding spread kept yearly_to
spread_encloses [] [] n r l e c = enclosed.none
spread_encloses [] (m ∷ ms) n r l e c = absurd (omega arith)
spread_encloses (u ∷ us) [] n r l e c = absurd (omega arith)
spread_encloses (true ∷ us) (m ∷ ms) n r l enclosed.none c = absurd (omega arith)
spread_encloses (true ∷ us) (m ∷ ms) n r l (enclosed.more {x = x} {xs = xs} h e) c =
    rw (le-leb m m (omega arith), yearlies_on m (kept us ms) (x ∷ xs) ms r.1)
    (enclosed.more h (spread_encloses us ms m r.1 (omega arith) e (omega arith)))
spread_encloses (false ∷ us) (m ∷ ms) n r l enclosed.none c =
    let one = nat_encloses (≤ℚ-refl billion) (≤ℚ-refl billion) in
    rw (yearly_none m (kept us ms)) (enclosed.more one (spread_encloses us ms m r.1 (omega arith) enclosed.none c))
spread_encloses (false ∷ us) (m ∷ ms) n r l (enclosed.more {x = x} {xs = xs} h e) c =
    rw (yearly_first us ms m x xs r.1 (omega arith))
    (enclosed.more h (spread_encloses us ms m r.1 (omega arith) (enclosed.more h e) c))

pub spread-length : {A : Type 0} (d : A) (us : List Bool) (xs : List A) → length (spread d us xs) ≡ length us
unfolding spread
spread-length d [] xs = refl
spread-length d (u ∷ us) [] = ap suc (spread-length d us [])
spread-length d (u ∷ us) (x ∷ xs) = ap suc (spread-length d us _)

pub spread_each : {P : Pair → Type 0} (d : Pair) (us : List Bool) {ps : List Pair} → P d → Each P ps → Each P (spread d us ps)
unfolding spread
spread_each d [] h e = none
spread_each d (u ∷ us) h none = more h (spread_each d us h none)
spread_each d (true ∷ us) h (more p e) = more p (spread_each d us h e)
spread_each d (false ∷ us) h (more p e) = more p (spread_each d us h (more p e))

-- one stretch has the first x
pub spread_one : {A : Type 0} (d : A) (us : List Bool) → length us ≡ 1 → (xs : List A) → spread d us xs ≡ get_or xs 0 d ∷ []
unfolding spread
spread_one d us one xs = subst (λ (u : List Bool). spread d u xs ≡ get_or xs 0 d ∷ []) (spelled_out false us one) (alone xs)
  where
    alone : (ys : List _) → spread d (get_or us 0 false ∷ []) ys ≡ get_or ys 0 d ∷ []
    alone [] = refl
    alone (y ∷ ys) = refl

-- lows and highs apart, or together
pub spread_pairs : (a b : ℕ) (us : List Bool) (ls hs : List ℕ) → length ls ≡ length hs →
    pairs_of (spread a us ls) (spread b us hs) ≡ spread (pair a b) us (pairs_of ls hs)
unfolding spread zip_with
spread_pairs a b [] ls hs e = refl
spread_pairs a b (u ∷ us) [] [] e = ap (λ (ps : List Pair). pair a b ∷ ps) (spread_pairs a b us [] [] refl)
spread_pairs a b (u ∷ us) [] (h ∷ hs) e = absurd (omega arith)
spread_pairs a b (u ∷ us) (l ∷ ls) [] e = absurd (omega arith)
spread_pairs a b (true ∷ us) (l ∷ ls) (h ∷ hs) e = ap (λ (ps : List Pair). pair l h ∷ ps) (spread_pairs a b us ls hs (omega arith))
spread_pairs a b (false ∷ us) (l ∷ ls) (h ∷ hs) e = ap (λ (ps : List Pair). pair l h ∷ ps) (spread_pairs a b us (l ∷ ls) (h ∷ hs) e)

-- from gap i on: its x, then the next gap's where the quote after it is used
pub spread_from : {A : Type 0} (d : A) (u : Bool) (us : List Bool) (i : ℕ) (xs : List A) →
    spread d (u ∷ us) (drop i xs) ≡ get_or xs i d ∷ spread d us (drop (cond u (i + 1) i) xs)
unfolding spread
spread_from d u us i [] = rw (drop-nil i, drop-nil (cond u (i + 1) i)) refl
spread_from d true us zero (x ∷ xs) = refl
spread_from d false us zero (x ∷ xs) = refl
spread_from d true us (suc i) (x ∷ xs) = rw (suc-add i 1) (spread_from d true us i xs)
spread_from d false us (suc i) (x ∷ xs) = spread_from d false us i xs

-- every quote used: each has its own gap
pub spread_all : {A : Type 0} (d : A) (xs : List A) → spread d (replicate (length xs) true) xs ≡ xs
unfolding spread
spread_all d [] = refl
spread_all d (x ∷ xs) = ap (λ (ys : List _). x ∷ ys) (spread_all d xs)

-- ---- they climb: to 20 all quotes do; beyond, each is at least two years on, so that whichever are left each ends a gap

abbrev Spaced : ℕ → List ℕ → Type 0
Spaced n [] = Unit {0}
Spaced n (m ∷ ms) = (n + 2 ≤ m) × (m ≤ 50) × Spaced m ms

spaced_from : {n m : ℕ} (ms : List ℕ) → n ≤ m → Spaced m ms → Spaced n ms
spaced_from [] h s = tt
spaced_from (k ∷ ms) h s = (omega (arith, s.0), s.1, s.2)

record Later (n g : ℕ) (ms : List ℕ) : Type 0 where
  climb : climbs n g ms ≡ true
  count : gaps_from n g ms ≡ g + length ms
  last : n ≤ last_of n ms

module _ {n g : ℕ} (least : 20 ≤ n) (most : n ≤ 50) where
  later_none : g ≤ 7 → Later n g []
  unfolding climbs gaps_from last_of
  later_none h = record { climb = rw (le-leb n 50 most, le-leb g 7 h); count = omega arith; last = omega arith }

  later_more : (m : ℕ) (ms : List ℕ) → n + 2 ≤ m → m ≤ 50 → Later m (g + 1) ms → Later n g (m ∷ ms)
  unfolding climbs gaps_from last_of
  later_more m ms far within l =
      let gap = ne_eqb (m - n) 1 (λ e. omega arith) in
      record {
        climb = rw (lt-ltb n m (omega arith), le-leb (m - n) 30 (omega arith), gap) l.climb;
        count = rw gap (omega (arith, l.count));
        last = omega (arith, l.last);
      }

kept_later : (us : List Bool) (ms : List ℕ) {n g : ℕ} → 20 ≤ n → n ≤ 50 → Spaced n ms → g + length ms ≤ 7 → Later n g (kept us ms)
unfolding kept
kept_later [] ms least most s h = later_none least most (omega arith)
kept_later (u ∷ us) [] least most s h = later_none least most (omega arith)
kept_later (true ∷ us) (m ∷ ms) least most s h =
    later_more least most m (kept us ms) s.0 s.1 (kept_later us ms (omega (arith, s.0)) s.1 s.2 (omega arith))
kept_later (false ∷ us) (m ∷ ms) least most s h =
    kept_later us ms least most (spaced_from ms (omega (arith, s.0)) s.2) (omega arith)

abbrev pub used_maturities : Profile → List ℕ → List ℕ
used_maturities p vs = kept (used (smoothing_index p) vs) (quoted_maturities p)

-- the maturities at which the gaps from the smoothing year's on end
abbrev pub later_ends : Profile → List ℕ → List ℕ
later_ends p vs = kept (drop (smoothing_index p) (used (smoothing_index p) vs)) (volume_maturities p)

pub climbs_rise : (n g : ℕ) (ms : List ℕ) → climbs n g ms ≡ true → Rising n ms
climbs_rise n g [] h = tt
climbs_rise n g (m ∷ ms) h = let (rises, short, rest) = climbs_more n g m ms h in (rises, climbs_rise m _ ms rest)

-- the euro, or a market whose last quote is the smoothing year's
pub by_market : (P : Profile → Type 0) → P euro → ((p : Profile) → suc (smoothing_index p) ≡ quote_count p → P p) → (p : Profile) → P p
by_market P e f euro = e
by_market P e f from_ten = f from_ten refl
by_market P e f from_fifteen = f from_fifteen refl

quoted_climb : (p : Profile) → climbs 0 0 (quoted_maturities p) ≡ true
unfolding climbs maturities quoted_maturities
quoted_climb euro = refl
quoted_climb from_ten = refl
quoted_climb from_fifteen = refl

quoted_last : (p : Profile) → smoothing_year p ≤ last_of 0 (quoted_maturities p)
unfolding last_of maturities quoted_maturities smoothing_year
quoted_last euro = lit≤ tt
quoted_last from_ten = lit≤ tt
quoted_last from_fifteen = lit≤ tt

-- marks for all, whatever follows them
all_kept : {A : Type 0} (xs : List A) (us : List Bool) → kept (replicate (length xs) true ++ us) xs ≡ xs
unfolding kept
all_kept [] [] = refl
all_kept [] (u ∷ us) = refl
all_kept (x ∷ xs) us = ap (λ (ys : List _). x ∷ ys) (all_kept xs us)

module _ (vs : List ℕ) where
  -- such a market uses every quote
  pub all_used : (p : Profile) → suc (smoothing_index p) ≡ quote_count p → used_maturities p vs ≡ quoted_maturities p
  unfolding used
  all_used p e =
      let ms = quoted_maturities p in
      subst (λ (k : ℕ). kept (replicate k true ++ map (ltb 0) (drop 1 vs)) ms ≡ ms) (quoted_count p ∙ sym e) (all_kept ms _)

  -- the euro past 20
  beyond : Later 20 3 (kept (map (ltb 0) (drop 1 vs)) (25 ∷ 30 ∷ 40 ∷ 50 ∷ []))
  beyond = kept_later _ (25 ∷ 30 ∷ 40 ∷ 50 ∷ []) (lit≤ tt) (lit≤ tt) (omega arith) (lit≤ tt)

  euro_climb : climbs 0 0 (used_maturities euro vs) ≡ true
  unfolding climbs used kept maturities quoted_maturities
  euro_climb = beyond.climb

  euro_last : smoothing_year euro ≤ last_of 0 (used_maturities euro vs)
  unfolding last_of used kept maturities quoted_maturities smoothing_year
  euro_last = beyond.last

  pub euro_gaps : gaps_from 0 0 (used_maturities euro vs) ≡ 2 + length (later_ends euro vs)
  unfolding gaps_from used kept maturities quoted_maturities volume_maturities
  euro_gaps = omega (arith, beyond.count)

  pub euro_ends : drop 10 (used_maturities euro vs) ≡ 12 ∷ 15 ∷ later_ends euro vs
  unfolding used kept maturities quoted_maturities volume_maturities
  euro_ends = refl

  pub used_climb : (p : Profile) → climbs 0 0 (used_maturities p vs) ≡ true
  used_climb = by_market _ euro_climb (λ p e. rw (all_used p e) (quoted_climb p))

  pub used_last : (p : Profile) → smoothing_year p ≤ last_of 0 (used_maturities p vs)
  used_last = by_market _ euro_last (λ p e. rw (all_used p e) (quoted_last p))

-- ---- what they yield: the years to the smoothing year and maybe more, and a yearly factor for each gap

module _ (s : Numbers) {b : Bootstrap} (d : bootstrap (used_quotes s) ≡ done b) where
  abbrev pub used_rates : List ℤ
  used_rates = kept (used_by s) s.rates

  pub used_apart : bootstrap (quotes_of (used_maturities s.profile s.volumes) used_rates) ≡ done b
  used_apart = rw (← kept_quotes (used_by s) (quoted_maturities s.profile) s.rates) d

  module _ (quotes : length s.rates ≡ quote_count s.profile) where
    pub lengths :
        let ms = used_maturities s.profile s.volumes in
        (length b.factors ≡ last_of 0 ms) × (length b.yearly_factors ≡ gaps_from 0 0 ms)
    lengths =
        let ms = quoted_maturities s.profile in
        bootstrap-length _ used_rates (kept-length (used_by s) s.rates ms (quotes ∙ sym (quoted_count s.profile)))
        (used_climb s.volumes s.profile) used_apart

    pub to_smoothing_year : smoothing_year s.profile ≤ length b.factors
    to_smoothing_year = rw lengths.0 (used_last s.volumes s.profile)

    pub quoted_length : length (take (smoothing_year s.profile) b.factors) ≡ smoothing_year s.profile
    quoted_length = length-take-le (smoothing_year s.profile) b.factors to_smoothing_year

-- a mark for each volume
pub as_many_marks : (p : Profile) (vs : List ℕ) → length vs ≡ volume_count p →
    length (drop (smoothing_index p) (used (smoothing_index p) vs)) ≡ length (volume_maturities p)
as_many_marks p vs h =
    length-drop (smoothing_index p) (used (smoothing_index p) vs) ∙ omega (arith, used-count p vs h, volume_count_lem p)

-- ---- the marks by their place

module _ (s : ℕ) (vs : List ℕ) where
  pub used_to : (i : ℕ) → i ≤ s → get_or (used s vs) i false ≡ true
  unfolding used
  used_to i h =
      let all = replicate (suc s) true in
      let long = length-replicate (suc s) true in
      get_or-append all (map (ltb 0) (drop 1 vs)) false i (omega (arith, long)) ∙ get_or-replicate (suc s) i true false (omega arith)

  pub used_past : (j : ℕ) → get_or (used s vs) (suc s + j) false ≡ ltb 0 (get_or vs (1 + j) 0)
  unfolding used
  used_past j =
      let all = replicate (suc s) true in
      let marks = map (ltb 0) (drop 1 vs) in
      ap (λ (k : ℕ). get_or (all ++ marks) (k + j) false) (sym (length-replicate (suc s) true))
      ∙ get_or-append-add all marks j false
      ∙ get_or-map (ltb 0) (drop 1 vs) j 0
      ∙ ap (ltb 0) (get_or-drop 1 vs j 0)
