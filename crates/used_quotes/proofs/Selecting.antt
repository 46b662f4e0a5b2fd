-- The quotes so far, one more, and all.
use mathlib.Core.Path.{◌≡◌, refl, sym, ap, subst₂, ◌∙◌}
use mathlib.Core.Bool.{Bool, true, false, cond}
use mathlib.Core.List.{List, [], ◌∷◌, ◌++◌, map, append-nil}
use Prim.Native.Nat.{ℕ, zero, suc, ◌+◌, ◌-◌, ◌≤◌, ◌<◌}
use native.Mathlib.Nat.{zero-add, suc-add}
use native.Mathlib.Numerals.{add-one}
use native.Mathlib.Omega.{arith}
use lib.IntN.{ℤ, pos}
use lib.Dec.{ltb}
use lib.ListN.{length, take, drop, get_or, set, replicate, length-map, length-drop, length-append, length-replicate, length-set}
use lib.Seq.{take-suc-set}
use lib.Signed.{mag}
use Rattle.method.specs.Sheet.{maturities, Profile, quote_count, smoothing_index, volume_count, quoted_maturities}
use Rattle.method.specs.Quotes.{used, kept, quotes_of}
use Rattle.method.proofs.Slots.{smoothing_inside, some_volume}
use Rattle.method.proofs.Used.{kept_next, kept_at, kept_quotes, used_climb}
use Rattle.bootstrap.specs.declared.Quotes.{Quotes}
use Rattle.bootstrap.specs.Liquids.{as_quotes, QuotesClimb}

-- the quotes among the first i that the marks keep; the smoothing year is quote s
pub record Selected (s : ℕ) (volumes : List ℕ) (rates : List ℤ) (q : Quotes) (i : ℕ) : Type 0 where
  pub within : i ≤ 17
  pub five : length volumes ≡ 5
  pub seventeen : length rates ≡ 17
  pub long_maturities : length q.maturities ≡ 17
  pub long_rates : length q.rates ≡ 17
  pub room : q.count ≤ i
  pub maturities_are : take q.count q.maturities ≡ kept (take i (used s volumes)) (take i maturities)
  pub rates_are : take q.count q.rates ≡ kept (take i (used s volumes)) (take i rates)

marks : (s : ℕ) (volumes : List ℕ) → length volumes ≡ 5 → length (used s volumes) ≡ s + 5
unfolding used
marks s volumes five =
    let past : List Bool = map (ltb 0) (drop 1 volumes) in
    omega
    (arith, length-append (replicate (suc s) true) past, length-replicate (suc s) true, length-map (drop 1 volumes) (ltb 0), length-drop 1 volumes, five)

pub selected_none : (s : ℕ) (volumes : List ℕ) (rates : List ℤ) (q : Quotes) → length volumes ≡ 5 → length rates ≡ 17 →
    length q.maturities ≡ 17 → length q.rates ≡ 17 → q.count ≡ 0 → Selected s volumes rates q 0
unfolding kept
selected_none s volumes rates q five seventeen long-ms long-rs e =
    record {
      within = omega arith;
      five = five;
      seventeen = seventeen;
      long_maturities = long-ms;
      long_rates = long-rs;
      room = omega arith;
      maturities_are = rw e refl;
      rates_are = rw e refl;
    }

module _ {s : ℕ} {volumes : List ℕ} {rates : List ℤ} {q : Quotes} {i : ℕ} (at : Selected s volumes rates q i) (h : i < 17) (marked : i < s + 5) where
  next_marked : {A : Type 0} (xs : List A) (d : A) {u : Bool} → length xs ≡ 17 → get_or (used s volumes) i false ≡ u →
      let us = used s volumes in
      kept (take (i + 1) us) (take (i + 1) xs) ≡ kept (take i us) (take i xs) ++ cond u (get_or xs i d ∷ []) []
  next_marked xs d long e = rw (add-one i, ← e) (kept_next (used s volumes) xs i d (omega (arith, marks s volumes at.five)) (omega arith))

  -- the quote is used, and joins
  pub selected_joins : (k m : ℕ) (r : ℤ) → k ≡ q.count →
      get_or (used s volumes) i false ≡ true → m ≡ get_or maturities i 0 → r ≡ get_or rates i (pos 0) →
      Selected s volumes rates (record { maturities = set q.maturities k m; rates = set q.rates k r; count = k + 1 }) (i + 1)
  unfolding maturities
  selected_joins k m r ek e em er =
      record {
        within = omega arith;
        five = at.five;
        seventeen = at.seventeen;
        long_maturities = length-set q.maturities k m ∙ at.long_maturities;
        long_rates = length-set q.rates k r ∙ at.long_rates;
        room = omega (arith, at.room);
        maturities_are =
            rw (next_marked maturities 0 refl e, ← at.maturities_are, add-one k, em, ek)
            (take-suc-set q.maturities q.count _ (omega (arith, at.room, at.long_maturities)));
        rates_are =
            rw (next_marked rates (pos 0) at.seventeen e, ← at.rates_are, add-one k, er, ek)
            (take-suc-set q.rates q.count _ (omega (arith, at.room, at.long_rates)));
      }

  -- it is not used
  pub selected_stays : get_or (used s volumes) i false ≡ false → Selected s volumes rates q (i + 1)
  unfolding maturities
  selected_stays e =
      record {
        within = omega arith;
        five = at.five;
        seventeen = at.seventeen;
        long_maturities = at.long_maturities;
        long_rates = at.long_rates;
        room = omega (arith, at.room);
        maturities_are = rw (next_marked maturities 0 refl e, append-nil _) at.maturities_are;
        rates_are = rw (next_marked rates (pos 0) at.seventeen e, append-nil _) at.rates_are;
      }

-- ---- as many as the market has

after_all : (k v : ℕ) (us : List Bool) → take (k + v) (replicate k true ++ us) ≡ replicate k true ++ take v us
after_all zero v us = rw (zero-add v) refl
after_all (suc k) v us = rw (suc-add k v) (ap (λ (bs : List Bool). true ∷ bs) (after_all k v us))

front_volumes : (v : ℕ) (vs : List ℕ) → take v (map (ltb 0) vs) ≡ map (ltb 0) (take v vs)
front_volumes zero vs = refl
front_volumes (suc v) [] = refl
front_volumes (suc v) (x ∷ vs) = ap (λ (bs : List Bool). ltb 0 x ∷ bs) (front_volumes v vs)

-- the first marks are those of the first volumes
front_marks : (s v : ℕ) (vs : List ℕ) → take (s + suc v) (used s vs) ≡ used s (take (suc v) vs)
unfolding used
front_marks s v vs =
    let next : s + suc v ≡ suc s + v = omega arith in
    let volumes : drop 1 (take (suc v) vs) ≡ take v (drop 1 vs) = rest v vs in
    rw (next, volumes) (after_all (suc s) v (map (ltb 0) (drop 1 vs)) ∙ ap (λ (bs : List Bool). replicate (suc s) true ++ bs) (front_volumes v (drop 1 vs)))
  where
    rest : (v : ℕ) (vs : List ℕ) → drop 1 (take (suc v) vs) ≡ take v (drop 1 vs)
    rest zero [] = refl
    rest (suc v) [] = refl
    rest v (x ∷ vs) = refl

market_marks : (p : Profile) (vs : List ℕ) → take (quote_count p) (used (smoothing_index p) vs) ≡ used (smoothing_index p) (take (volume_count p) vs)
market_marks p vs =
    let v : suc (volume_count p - 1) ≡ volume_count p = omega (arith, some_volume p) in
    let all : smoothing_index p + suc (volume_count p - 1) ≡ quote_count p = omega (arith, smoothing_inside p, some_volume p) in
    subst₂ (λ (q k : ℕ). take q (used (smoothing_index p) vs) ≡ used (smoothing_index p) (take k vs)) all v
    (front_marks (smoothing_index p) (volume_count p - 1) vs)

pub selected_all : (p : Profile) {volumes : List ℕ} {rates : List ℤ} {q : Quotes} → Selected (smoothing_index p) volumes rates q (quote_count p) →
    ((i : ℕ) → mag (get_or (take (quote_count p) rates) i (pos 0)) ≤ 12_000) →
    (as_quotes q
    ≡ kept (used (smoothing_index p) (take (volume_count p) volumes)) (quotes_of (quoted_maturities p) (take (quote_count p) rates)))
    × QuotesClimb q
unfolding quoted_maturities
selected_all p {volumes} {rates} {q} at small =
    let us = used (smoothing_index p) (take (volume_count p) volumes) in
    let marked = market_marks p volumes in
    let ms : take q.count q.maturities ≡ kept us (take (quote_count p) maturities) = rw marked at at.maturities_are in
    let rs : take q.count q.rates ≡ kept us (take (quote_count p) rates) = rw marked at at.rates_are in (
      rw (ms, rs) (sym (kept_quotes us (take (quote_count p) maturities) (take (quote_count p) rates))),
      record {
        within = omega (arith, at.room, at.within);
        climb = rw ms (used_climb (take (volume_count p) volumes) p);
        small = rw rs (kept_at (λ z. mag z ≤ 12_000) us (take (quote_count p) rates) (pos 0) (omega arith) small);
      },
    )
