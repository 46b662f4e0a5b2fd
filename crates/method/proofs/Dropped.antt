-- What a volume of 0 does, and what a dropped quote does not.
use mathlib.Core.Path.{◌≡◌, refl, ap, ap₂, sym, ◌∙◌}
use mathlib.Core.Bool.{Bool, true, false, false≢true}
use mathlib.Core.List.{List, [], ◌∷◌, map}
use Prim.Native.Nat.{ℕ, zero, suc, ◌+◌, ◌*◌, ◌≤◌, ◌<◌}
use native.Mathlib.Nat.{zero-lt-suc, mul-zero}
use native.Mathlib.Omega.{arith}
use borrow.Author.Tests.{lt-ltb}
use lib.Dec.{lit≤, lit<}
use lib.IntN.{ℤ, pos, ◌+ℤ◌, ◌*ℤ◌, zero-*ℤ}
use lib.ListN.{length, drop, get_or, length-map}
use lib.Seq.{get_or-drop}
use Rattle.fraction.specs.Rounding.{U, floor, ceiling}
use Rattle.method.specs.Units.{Pair, pair, SignedPair, signed_pair}
use Rattle.method.specs.Grounds.{Ground, refused, done}
use Rattle.method.specs.Sheet.{quote_count, smoothing_index, volume_count, quoted_maturities, volume_maturities, Numbers, total, read_sheet}
use Rattle.method.specs.Quotes.{used, kept, Bootstrap, bootstrap}
use Rattle.method.specs.Series.{gap_forward}
use Rattle.method.specs.Extrapolation.{at, llfr_numerator, llfr}
use Rattle.method.specs.Curve.{used_by, used_quotes, spread, gap_xs, liquid_of, factor_of}
use Rattle.method.specs.Curve.{extended_with, curve_of_with, curve_of, adjusted_curve_with, adjusted_curve}
use Rattle.method.specs.Curve.{adjusted_if, curves_of_with, curves_of, answer_with, answer}
use Rattle.method.proofs.Entries.{map_at}
use Rattle.method.proofs.Slots.{volume_count_lem}
use Rattle.method.proofs.Used.{kept_quotes, kept-front, used_to, used_past, spread-length, as_many_marks, lengths}
use Rattle.method.proofs.Stretches.{xs_count}

-- the smoothing year's volume drops no quote: it is a weight of LLFR and nothing else
pub only_a_weight : (i v w : ℕ) (vs : List ℕ) → used i (v ∷ vs) ≡ used i (w ∷ vs)
unfolding used
only_a_weight i v w vs = refl

abbrev pub with_rates : Numbers → List ℤ → Numbers
with_rates n rs =
    record {
      profile = n.profile;
      month = n.month;
      rates = rs;
      volumes = n.volumes;
      ultimate = n.ultimate;
      limit = n.limit;
      phase_in = n.phase_in;
      adjusts = n.adjusts;
      adjustment = n.adjustment;
    }

-- the smoothing year's rate is among the used
smoothing_rate_lem : (i : ℕ) (vs : List ℕ) (rs : List ℤ) → get_or (kept (used i vs) rs) i (pos 0) ≡ get_or rs i (pos 0)
unfolding used
smoothing_rate_lem i vs rs = kept-front (suc i) _ rs i (pos 0) (omega arith)

module _ (n : Numbers) (rs : List ℤ) (same : kept (used_by n) rs ≡ kept (used_by n) n.rates) where
  abbrev i : ℕ
  i = smoothing_index n.profile

  same_rate : get_or rs i (pos 0) ≡ get_or n.rates i (pos 0)
  same_rate =
      sym (smoothing_rate_lem i n.volumes rs) ∙ ap (λ (zs : List ℤ). get_or zs i (pos 0)) same ∙ smoothing_rate_lem i n.volumes n.rates

  same_liquid : liquid_of (with_rates n rs) ≡ liquid_of n
  unfolding liquid_of
  same_liquid =
      let ms = quoted_maturities n.profile in
      rw (kept_quotes (used_by n) ms rs, kept_quotes (used_by n) ms n.rates, same) refl

  same_plain : curve_of (with_rates n rs) ≡ curve_of n
  unfolding curve_of_with extended_with factor_of
  same_plain = rw (same_liquid, same_rate) refl

  same_adjusted : adjusted_curve (with_rates n rs) ≡ adjusted_curve n
  unfolding adjusted_curve_with extended_with factor_of
  same_adjusted = rw (same_liquid, same_rate) refl

  -- rates that agree on the used quotes give the same curves, or the same refusal: a dropped quote has no say
  pub no_say : curves_of (with_rates n rs) ≡ curves_of n
  unfolding curves_of_with
  no_say = rw (same_plain, same_if n.adjusts)
    where
      same_if : (t : Bool) → adjusted_if t (with_rates n rs) ≡ adjusted_if t n
      same_if true = rw same_adjusted
      same_if false = refl

-- but it is read: whatever the volumes, a sheet that fails one of 19 and 1 to 4 is turned down on it
pub still_tested : (s : List ℕ) {g : Ground} → read_sheet s ≡ refused g → answer s ≡ refused g
unfolding answer_with
still_tested s e = rw e refl

-- ---- past the last used quote there is no weight: LLFR is the same whatever stands there

some_kept : (us : List Bool) (ms : List ℕ) → length us ≡ length ms → (j : ℕ) → get_or us j false ≡ true → 0 < length (kept us ms)
unfolding kept
some_kept [] ms l j m = absurd (false≢true m)
some_kept (u ∷ us) [] l j m = absurd (omega arith)
some_kept (true ∷ us) (k ∷ ms) l j m = omega arith
some_kept (false ∷ us) (k ∷ ms) l zero m = absurd (false≢true m)
some_kept (false ∷ us) (k ∷ ms) l (suc j) m = some_kept us ms (omega arith) j m

-- up to a used quote nothing stands for a gap
spread_agrees : {A : Type 0} (d e z : A) (us : List Bool) (ms : List ℕ) (xs : List A) → length us ≡ length ms → length xs ≡ length (kept us ms) →
    (i j : ℕ) → i ≤ j → get_or us j false ≡ true → get_or (spread d us xs) i z ≡ get_or (spread e us xs) i z
unfolding spread kept
spread_agrees d e z [] ms xs l c i j h m = refl
spread_agrees d e z (u ∷ us) [] xs l c i j h m = absurd (omega arith)
spread_agrees d e z (u ∷ us) (k ∷ ms) [] l c i j h m = absurd (omega (arith, some_kept (u ∷ us) (k ∷ ms) l j m))
spread_agrees d e z (u ∷ us) (k ∷ ms) (x ∷ xs) l c zero j h m = refl
spread_agrees d e z (u ∷ us) (k ∷ ms) (x ∷ xs) l c (suc i) zero h m = absurd (omega arith)
spread_agrees d e z (true ∷ us) (k ∷ ms) (x ∷ xs) l c (suc i) (suc j) h m = spread_agrees d e z us ms xs (omega arith) (omega arith) i j (omega arith) m
spread_agrees d e z (false ∷ us) (k ∷ ms) (x ∷ xs) l c (suc i) (suc j) h m = spread_agrees d e z us ms (x ∷ xs) (omega arith) c i j (omega arith) m

weighed : (w v : ℕ) {g h : ℤ} → (0 < v → g ≡ h) → pos w *ℤ pos v *ℤ g ≡ pos w *ℤ pos v *ℤ h
weighed w zero {g} {h} e = none g ∙ sym (none h)
  where
    none : (g : ℤ) → pos w *ℤ pos 0 *ℤ g ≡ pos 0
    none g = ap (λ (k : ℕ). pos k *ℤ g) (mul-zero w) ∙ zero-*ℤ g
weighed w (suc v) e = ap (λ (z : ℤ). pos w *ℤ pos (suc v) *ℤ z) (e (zero-lt-suc v))

abbrev plus : ℤ → ℤ → ℤ
plus a b = a +ℤ b

pub numerator_same : (vs : List ℕ) (gs hs : List ℤ) →
    ((i j : ℕ) → i ≤ j → j < 5 → 0 < get_or vs j 0 → get_or gs i (pos 0) ≡ get_or hs i (pos 0)) → llfr_numerator vs gs ≡ llfr_numerator vs hs
unfolding llfr_numerator
numerator_same vs gs hs same =
    ap₂ plus (ap₂ plus (ap₂ plus (ap₂ plus
    (weighed 12 _ (same 0 0 (lit≤ tt) (lit< tt)))
    (weighed 12 _ (same 1 1 (lit≤ tt) (lit< tt))))
    (weighed 6 _ λ h. to30 2 (lit≤ tt) (lit< tt) h))
    (weighed 3 _ λ h. to40 3 (lit≤ tt) (lit< tt) h))
    (weighed 2 _ λ h. ap₂ plus (to40 4 (lit≤ tt) (lit< tt) h) (ap (λ (z : ℤ). pos 2 *ℤ z) (same 4 4 (lit≤ tt) (lit< tt) h)))
  where
    to30 : (j : ℕ) → 2 ≤ j → j < 5 → 0 < get_or vs j 0 → at gs 2 +ℤ at gs 3 ≡ at hs 2 +ℤ at hs 3
    to30 j l k h = ap₂ plus (same 1 j (omega arith) k h) (same 2 j l k h)

    to40 : (j : ℕ) → 3 ≤ j → j < 5 → 0 < get_or vs j 0 → at gs 2 +ℤ at gs 3 +ℤ pos 2 *ℤ at gs 4 ≡ at hs 2 +ℤ at hs 3 +ℤ pos 2 *ℤ at hs 4
    to40 j l k h = ap₂ plus (to30 j (omega arith) k h) (ap (λ (z : ℤ). pos 2 *ℤ z) (same 3 j l k h))

-- a volume above 0 marks its quote
marked : (i : ℕ) (vs : List ℕ) (j : ℕ) → 0 < get_or vs j 0 → get_or (drop i (used i vs)) j false ≡ true
marked i vs zero h = get_or-drop i (used i vs) 0 false ∙ ap (λ (k : ℕ). get_or (used i vs) k false) (omega arith) ∙ used_to i vs i (omega arith)
marked i vs (suc j) h =
    let next : i + suc j ≡ suc i + j = omega arith in
    let one : 1 + j ≡ suc j = omega arith in
    get_or-drop i (used i vs) (suc j) false ∙ ap (λ (k : ℕ). get_or (used i vs) k false) next ∙ used_past i vs j ∙ lt-ltb 0 _ (rw (← one) at h)

-- and it is among those that the market has
among : (vs : List ℕ) (j : ℕ) → 0 < get_or vs j 0 → j < length vs
among [] j h = absurd (omega arith)
among (v ∷ vs) zero h = omega arith
among (v ∷ vs) (suc j) h = omega (arith, among vs j h)

module _ (n : Numbers) {b : Bootstrap} (d : bootstrap (used_quotes n) ≡ done b) {xs : List Pair} (gaps : gap_xs n.profile b ≡ done xs)
    (quotes : length n.rates ≡ quote_count n.profile) (volumes : length n.volumes ≡ volume_count n.profile) where
  abbrev us : List Bool
  us = drop (smoothing_index n.profile) (used_by n)

  -- the x of the stretches, with p where there is no gap
  abbrev filled : Pair → List Pair
  filled p = spread p us xs

  filled_count : (p : Pair) → length (filled p) ≡ volume_count n.profile
  filled_count p = spread-length p us xs ∙ as_many_marks n.profile n.volumes volumes ∙ volume_count_lem n.profile

  module _ (f : SignedPair → ℤ) (p q : Pair) where
    forward_at : (p : Pair) (i : ℕ) → i < volume_count n.profile →
        get_or (map f (map gap_forward (filled p))) i (pos 0) ≡ f (gap_forward (get_or (filled p) i (pair 0 0)))
    forward_at p i h =
        map_at f (map gap_forward (filled p)) i (signed_pair (pos 0) (pos 0)) (pos 0) (omega (arith, length-map (filled p) gap_forward, filled_count p))
        ∙ ap f (map_at gap_forward (filled p) i (pair 0 0) (signed_pair (pos 0) (pos 0)) (omega (arith, filled_count p)))

    same_numerator : llfr_numerator n.volumes (map f (map gap_forward (filled p))) ≡ llfr_numerator n.volumes (map f (map gap_forward (filled q)))
    same_numerator =
        numerator_same n.volumes _ _
        λ i j h k v.
        let inside : i < volume_count n.profile = omega (arith, among n.volumes j v, volumes) in
        let many = xs_count n.profile n.volumes b volumes (lengths n d quotes).1 gaps in
        let agrees =
        spread_agrees p q (pair 0 0) us (volume_maturities n.profile) xs (as_many_marks n.profile n.volumes volumes) many i j h
        (marked (smoothing_index n.profile) n.volumes j v) in
        forward_at p i inside ∙ ap (λ (x : Pair). f (gap_forward x)) agrees ∙ sym (forward_at q i inside)

  pub no_weight : (p : Pair) → llfr n.volumes (map gap_forward (filled p)) ≡ llfr n.volumes (map gap_forward (filled (pair U U)))
  unfolding llfr
  no_weight p =
      ap₂ signed_pair
      (ap (λ (z : ℤ). floor z (12 * total n.volumes)) (same_numerator (λ g. g.low) p (pair U U)))
      (ap (λ (z : ℤ). ceiling z (12 * total n.volumes)) (same_numerator (λ g. g.high) p (pair U U)))
