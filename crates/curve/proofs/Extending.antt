-- From the quotes to the arrays of all years.
use mathlib.Core.Path.{◌≡◌, refl, ap, ap₂, sym, subst, subst⁻¹, ◌∙◌}
use mathlib.Core.Bool.{Bool, true, false, ◌&&◌}
use mathlib.Core.List.{List, [], ◌∷◌, map}
use Prim.Native.Nat.{ℕ, zero, suc, ◌+◌, ◌-◌, ◌≤◌, ◌<◌}
use native.Mathlib.Omega.{arith}
use lib.Dec.{leb}
use lib.IntN.{ℤ}
use lib.ListN.{length, take, drop, get_or, replicate, set, length-map, get_or-map, get_or-append}
use lib.Seq.{take_at, take_all, take-take, length-take-le, get_or-take}
use lib.Signed.{◌≤ℤ◌}
use Rattle.std.specs.Prelude.{Result}
use Rattle.std.proofs.lemmas.List.{take-map}
use Rattle.fraction.specs.Rounding.{U}
use Rattle.method.specs.Units.{Which, plain, adjusted, Pair, pair, pairs_of, SignedPair}
use Rattle.method.specs.Grounds.{end_fails_test, refused, done, ◌>>=◌, demand}
use Rattle.method.specs.Sheet.{maturities, Profile, euro, from_ten, from_fifteen, smoothing_index, volume_count, smoothing_year, Numbers}
use Rattle.method.specs.Quotes.{lower_end, upper_end, used, last_year}
use Rattle.method.specs.Series.{gap_forward}
use Rattle.method.specs.Extrapolation.{llfr, weights, first_raised}
use Rattle.method.specs.Curve.{used_by, spread, year_over, gap_xs}
use Rattle.method.specs.Ranges.{forward_bound, Each, Factor, YearlyFactor, NumbersInRange}
use Rattle.method.proofs.QuotesBounds.{bootstrap_bounded, each_at}
use Rattle.method.proofs.Markets.{smoothing_least, smoothing_most}
use Rattle.method.proofs.Slots.{some_volume, volume_count_lem}
use Rattle.method.proofs.Used.{to_smoothing_year, as_many_marks, spread-length, spread_one}
use Rattle.method.proofs.Stretches.{liquid_holds}
use Rattle.method.proofs.Weights.{weights-first}
use Rattle.method.proofs.Enclosure as method
use Rattle.method.proofs.Forward.{zero_pair, llfr_alone}
use Rattle.method.proofs.Zips.{all_set, zip_take, zip_length, pairs_last, pairs_each}
use Rattle.rounding.specs.Pairs.{as_pair, as_signed_pair, SizeAtMost}
use Rattle.rounding.specs.Pairs as code
use Rattle.grounds.specs.declared.Ground.{Ground}
use Rattle.grounds.specs.Answers.{outcome_of}
use Rattle.bootstrap.specs.declared.Liquid.{Liquid}
use Rattle.bootstrap.specs.Liquids.{as_bootstrap}
use Rattle.bootstrap.proofs.Soundness.{count_is}
use Rattle.extrapolation.specs.Extrapolated.{Forwards, no_forward}
use Rattle.extrapolation.proofs.Gaps.{all_small}
use Rattle.extrapolation.specs.Extrapolated.{Years}
use Rattle.extrapolation.specs.Extrapolated.{as_forwards, as_years, factor_at, ForwardSizes, InRange, Usable, Ahead}
use Rattle.extrapolation.specs.Extrapolated.{later_years, Extrapolates, Kept}
use Rattle.convergence.specs.Weights.{WeightsOf}
use Rattle.curve.specs.Curves.{first_years, quoted_in, forwards_in, stretched, WorkedQuotes, Onward, Ready}
use Rattle.curve.proofs.Laws.{spread_over, liquid_done, stretched_done, stretched_refused, later_from}

-- ---- the quotes were worked: factors to the smoothing year, and a yearly factor for each gap

module _ {n : Numbers} {q : Liquid} (range : NumbersInRange n) (w : WorkedQuotes n q) where
  abbrev year : ℕ
  year = smoothing_year n.profile

  pub least : year ≤ q.count
  least = rw (← count_is q) (to_smoothing_year n w.worked range.rate_count)

  -- the years to it are the first of both arrays
  quoted_are : take year (as_bootstrap q).factors ≡ pairs_of (take year q.lows) (take year q.highs)
  quoted_are =
      zip_take pair year (take q.count q.lows) (take q.count q.highs)
      ∙ rw (take-take year q.count q.lows least, take-take year q.count q.highs least) refl

  -- ---- the x of the stretches

  marked : length (drop (smoothing_index n.profile) (used_by n)) ≡ volume_count n.profile
  marked = as_many_marks n.profile n.volumes range.volume_count ∙ volume_count_lem n.profile

  spread_in_range : {xs : List Pair} → gap_xs n.profile (as_bootstrap q) ≡ done xs → Each YearlyFactor (spread_over n w.worked xs)
  spread_in_range e = (liquid_holds n (method.usable n range) (liquid_done n w.worked e)).in_range

  -- the euro's five
  module _ (p : n.profile ≡ euro) (vs : List ℕ) (v : n.volumes ≡ vs) where
    abbrev marks : List Bool
    marks = drop 12 (used 12 vs)

    marks_are : drop (smoothing_index n.profile) (used_by n) ≡ marks
    marks_are = ap₂ (λ (m : Profile) (x : List ℕ). drop (smoothing_index m) (used (smoothing_index m) x)) p v

    from_20 : gap_xs n.profile (as_bootstrap q) ≡ done (drop 2 (as_bootstrap q).yearly_factors)
    unfolding gap_xs
    from_20 = ap (λ (m : Profile). gap_xs m (as_bootstrap q)) p

    module _ (xs : List code.Pair) (e : map as_pair xs ≡ spread (pair U U) marks (drop 2 (as_bootstrap q).yearly_factors)) where
      stretches_are : map as_pair xs ≡ spread_over n w.worked (drop 2 (as_bootstrap q).yearly_factors)
      stretches_are = e ∙ ap (λ (us : List Bool). spread (pair U U) us (drop 2 (as_bootstrap q).yearly_factors)) (sym marks_are)

      five_xs : length (map as_pair xs) ≡ 5
      five_xs = ap length e ∙ spread-length (pair U U) marks _ ∙ ap length (sym marks_are) ∙ marked ∙ ap volume_count p

      pub five_in_range : (i : ℕ) → i < 5 → YearlyFactor (get_or (map as_pair xs) i (pair 0 0))
      five_in_range i h = each_at i (pair 0 0) (subst⁻¹ (Each YearlyFactor) stretches_are (spread_in_range from_20)) (omega (arith, five_xs))

      pub five_stretches : (g : Forwards) → as_forwards g ≡ map gap_forward (map as_pair xs) → done (forwards_in n g) ≡ stretched n
      five_stretches g f =
          let long : length (as_forwards g) ≡ 5 = ap length f ∙ length-map (map as_pair xs) gap_forward ∙ five_xs in
          let all : forwards_in n g ≡ as_forwards g = take_all (volume_count n.profile) (as_forwards g) (omega (arith, long, ap volume_count p)) in
          ap (λ (gs : List SignedPair). done gs) (all ∙ f)
          ∙ ap (λ (xs : List Pair). done (map gap_forward xs)) stretches_are
          ∙ sym (stretched_done n w.worked from_20)

  -- the one of a market with one volume
  module _ (one : volume_count n.profile ≡ 1) {xs : List Pair} (e : gap_xs n.profile (as_bootstrap q) ≡ done xs) where
    alone : spread_over n w.worked xs ≡ get_or xs 0 (pair U U) ∷ []
    alone = spread_one (pair U U) _ (marked ∙ one) xs

    pub x_in_range : YearlyFactor (get_or xs 0 (pair U U))
    x_in_range = first_of (subst (Each YearlyFactor) alone (spread_in_range e))
      where
        first_of : {x : Pair} → Each YearlyFactor (x ∷ []) → YearlyFactor x
        first_of (Each.more h r) = h

    pub one_stretch : (g : Forwards) → take 1 (as_forwards g) ≡ gap_forward (get_or xs 0 (pair U U)) ∷ [] → done (forwards_in n g) ≡ stretched n
    one_stretch g f =
        ap (λ (k : ℕ). done (take k (as_forwards g))) one
        ∙ ap done f
        ∙ ap (λ (ys : List Pair). done (map gap_forward ys)) (sym alone)
        ∙ sym (stretched_done n w.worked e)

  -- profile 3's is the second gap's
  pub from_15 : n.profile ≡ from_fifteen → gap_xs n.profile (as_bootstrap q) ≡ done (drop 1 (as_bootstrap q).yearly_factors)
  unfolding gap_xs
  from_15 p = ap (λ (m : Profile). gap_xs m (as_bootstrap q)) p

  -- profile 2's is its last year over the one before
  module _ (p : n.profile ≡ from_ten) where
    abbrev over : Pair
    over = year_over (as_bootstrap q).factors 10

    abbrev pub within_ends : Bool
    within_ends = leb lower_end over.low && leb over.high upper_end

    pub ten_quoted : 10 ≤ q.count
    unfolding smoothing_year maturities
    ten_quoted = subst (λ (m : Profile). smoothing_year m ≤ q.count) p least

    from_10 : gap_xs n.profile (as_bootstrap q) ≡ (demand within_ends (end_fails_test 10) >>= λ _. done (over ∷ []))
    unfolding gap_xs smoothing_year maturities
    from_10 = ap (λ (m : Profile). gap_xs m (as_bootstrap q)) p

    pub own_passed : within_ends ≡ true → gap_xs n.profile (as_bootstrap q) ≡ done (over ∷ [])
    own_passed t = from_10 ∙ ap (λ (b : Bool). demand b (end_fails_test 10) >>= λ _. done (over ∷ [])) t

    pub own_refused : within_ends ≡ false → stretched n ≡ refused (end_fails_test 10)
    own_refused t =
        stretched_refused n w.worked (from_10 ∙ ap (λ (b : Bool). demand b (end_fails_test 10) >>= λ _. done (over ∷ [])) t)

  -- ---- the years to the smoothing year, and zeros

  module _ (y : Years) (el : y.lows ≡ first_years year q.lows) (eh : y.highs ≡ first_years year q.highs) where
    first_long : (xs : List ℕ) → length xs ≡ 50 → length (take year xs) ≡ year
    first_long xs long = length-take-le year xs (omega (arith, smoothing_most n.profile))

    first-take : (xs : List ℕ) → length xs ≡ 50 → take year (first_years year xs) ≡ take year xs
    first-take xs long = take_at (take year xs) (drop year (replicate 150 0)) year (first_long xs long)

    first_at : (xs : List ℕ) → length xs ≡ 50 → (i : ℕ) → i < year → get_or (first_years year xs) i 0 ≡ get_or xs i 0
    first_at xs long i h =
        get_or-append (take year xs) (drop year (replicate 150 0)) 0 i (omega (arith, first_long xs long)) ∙ get_or-take year xs i 0 h

    -- they are the quotes' own
    pub first_quoted : quoted_in n y ≡ take year (as_bootstrap q).factors
    first_quoted =
        let lows = first-take q.lows q.sound.long_lows in
        let highs = first-take q.highs q.sound.long_highs in
        zip_take pair year y.lows y.highs ∙ rw (el, eh, lows, highs) (sym quoted_are)

    pub first_in_range : (i : ℕ) → i < year → InRange (factor_at y i)
    first_in_range i h =
        let lows = take q.count q.lows in
        let highs = take q.count q.highs in
        let long : length lows ≡ q.count = length-take-le q.count q.lows (omega (arith, q.sound.within, q.sound.long_lows)) in
        let same = long ∙ sym (length-take-le q.count q.highs (omega (arith, q.sound.within, q.sound.long_highs))) in
        let f = pairs_each lows highs same (bootstrap_bounded _ w.worked).factors i (omega (arith, long, least)) in
        let g : Factor (pair (get_or q.lows i 0) (get_or q.highs i 0)) =
        rw (get_or-take q.count q.lows i 0 (omega (arith, least)), get_or-take q.count q.highs i 0 (omega (arith, least))) at f in
        rw (el, eh, first_at q.lows q.sound.long_lows i h, first_at q.highs q.sound.long_highs i h)
        (record { ordered = g.ordered; at_most = g.greatest })

-- ---- the last of the years to the smoothing year, on two arrays

module _ (n : Numbers) (y : Years) (hl : length y.lows ≡ 150) (hh : length y.highs ≡ 150) where
  abbrev to : ℕ
  to = smoothing_year n.profile

  pub last_quoted : last_year (quoted_in n y) ≡ factor_at y (to - 1)
  last_quoted =
      let ends : to - 1 + 1 ≡ to = omega (arith, smoothing_least n.profile) in
      ap last_year (zip_take pair to y.lows y.highs)
      ∙ ap (λ (k : ℕ). last_year (pairs_of (take k y.lows) (take k y.highs))) (sym ends)
      ∙ pairs_last y.lows y.highs (omega arith) (to - 1) (omega (arith, smoothing_most n.profile))

  pub quoted_count : length (quoted_in n y) ≡ to
  quoted_count = length-take-le to (as_years y) (omega (arith, zip_length pair y.lows y.highs (omega arith), smoothing_most n.profile))

-- ---- arrays of forwards, of which the first or none is a market's

pub one_sizes : {M : ℕ} (f : code.SignedPair) → SizeAtMost M f → ForwardSizes M (set (replicate 5 no_forward) 0 f)
one_sizes {M} f h = record { sizes = all_set (SizeAtMost M) no_forward (replicate 5 no_forward) 0 (all_small M 5).sizes h }

-- ---- LLFR's volumes and forwards, five or one

pub five_or_one : (p : Profile) → (volume_count p ≡ 1 → ⊥) → volume_count p ≡ 5
five_or_one euro h = refl
five_or_one from_ten h = absurd (h refl)
five_or_one from_fifteen h = absurd (h refl)

module _ (n : Numbers) (g : Forwards) (five : length g ≡ 5) where
  forwards_long : length (as_forwards g) ≡ 5
  forwards_long = length-map g as_signed_pair ∙ five

  pub all_five : volume_count n.profile ≡ 5 → forwards_in n g ≡ as_forwards g
  all_five all = ap (λ (k : ℕ). take k (as_forwards g)) all ∙ take_all 5 (as_forwards g) (omega (arith, forwards_long))

  -- with one volume it is that volume's forward
  pub llfr-first : NumbersInRange n → volume_count n.profile ≡ 1 →
      llfr n.volumes (forwards_in n g) ≡ as_signed_pair (get_or g 0 no_forward)
  llfr-first r one =
      let count = volume_count n.profile in
      let few : length (forwards_in n g) ≡ 1 = length-take-le count (as_forwards g) (omega (arith, forwards_long, one)) ∙ one in
      llfr_alone n.volumes (forwards_in n g) (r.volume_count ∙ one) few r.total_least
      ∙ get_or-take count (as_forwards g) 0 zero_pair (omega (arith, one))
      ∙ get_or-map as_signed_pair g 0 no_forward

-- the first of them is raised
take_raised : (a : ℤ) (k : ℕ) (gs : List SignedPair) → 1 ≤ k → take k (first_raised a gs) ≡ first_raised a (take k gs)
unfolding first_raised
take_raised a zero gs h = absurd (omega arith)
take_raised a (suc k) [] h = refl
take_raised a (suc k) (x ∷ xs) h = refl

pub raised_in : (n : Numbers) (a : ℤ) (g h : Forwards) → as_forwards h ≡ first_raised a (as_forwards g) → forwards_in n h ≡ first_raised a (forwards_in n g)
raised_in n a g h e =
    ap (take (volume_count n.profile)) e ∙ take_raised a (volume_count n.profile) (as_forwards g) (omega (arith, some_volume n.profile))

-- ---- an adjustment goes with the euro

pub adjusted_to_20 : (n : Numbers) → NumbersInRange n → n.adjusts ≡ true → smoothing_year n.profile ≡ 20
unfolding smoothing_year maturities
adjusted_to_20 n r t = ap smoothing_year (r.adjusts_euro t)

-- ---- a forward by its definition

pub usable : (f : code.SignedPair) {p : SignedPair} → as_signed_pair f ≡ p → SizeAtMost forward_bound f → p.low ≤ℤ p.high → Usable f
usable f e b h = record { size = b; ordered = subst⁻¹ (λ (p : SignedPair). p.low ≤ℤ p.high) e h }

-- ---- κ's pairs by their promise

-- as many as there are years after the smoothing year, as the code found it
module _ (a : ℕ) (κs : List code.Pair) (w : WeightsOf a κs) (long : length κs ≡ 140) (p : Profile) {k : ℕ} (is : k ≡ smoothing_year p) where
  abbrev later : ℕ
  later = 150 - k

  few : later ≤ 140
  few = omega (arith, is, smoothing_least p)

  abbrev taken : List Pair
  taken = map as_pair (take later κs)

  taken_is : taken ≡ take later (map as_pair κs)
  taken_is = sym (take-map as_pair later κs)

  pub weights_ahead : Ahead taken (smoothing_year p)
  weights_ahead =
      let count : length taken ≡ later = length-map (take later κs) as_pair ∙ length-take-le later κs (omega (arith, few)) in
      record {
        started = omega (arith, smoothing_least p);
        to_150 = omega (arith, count, is, smoothing_most p);
        ranges =
            λ i h.
            let inside : i < later = omega (arith, count) in
            let weight = w.weigh i (omega (arith, few)) in
            rw (taken_is, get_or-take later (map as_pair κs) i (pair 0 0) inside)
            (record { ordered = weight.ordered; at_most_U = weight.at_most_U });
      }

  pub weights_later : taken ≡ weights a (150 - smoothing_year p)
  weights_later =
      taken_is
      ∙ ap (take later) w.pairs
      ∙ weights-first a later 140 few
      ∙ ap (λ (s : ℕ). weights a (150 - s)) is

-- ---- what is extended, by its promises

-- the forwards as a curve takes them
abbrev pub forwards_of : Which → ℤ → List SignedPair → List SignedPair
forwards_of plain a gs = gs
forwards_of adjusted a gs = first_raised a gs

module _ {n : Numbers} {g : Forwards} {years : Years} (range : NumbersInRange n) (r : Ready n g years) where
  ordered : (w : Which) → let f = llfr n.volumes (forwards_of w n.adjustment (forwards_in n g)) in f.low ≤ℤ f.high
  ordered plain = rw r.forwards (method.llfr_ordered n (method.usable n range) r.worked plain)
  ordered adjusted = rw r.forwards (method.llfr_ordered n (method.usable n range) r.worked adjusted)

  -- of either curve
  pub liquid_usable : (w : Which) (f : code.SignedPair) → as_signed_pair f ≡ llfr n.volumes (forwards_of w n.adjustment (forwards_in n g)) →
      SizeAtMost forward_bound f → Usable f
  liquid_usable w f e b = usable f e b (ordered w)

-- ---- the extrapolation starts at the sheet's smoothing year, as the code found it

module _ {n : Numbers} {l : code.SignedPair} {κs : List Pair} (o : Onward n l κs) (y : Years) {k : ℕ}
    (is : k ≡ smoothing_year n.profile) where
  pub later_is : (f : code.SignedPair) → length y.lows ≡ 150 → length y.highs ≡ 150 → (r : Result Years Ground) → Extrapolates l f κs k y r →
      outcome_of (later_years (smoothing_year n.profile)) r ≡ later_from n (as_signed_pair f) (quoted_in n y)
  later_is f hl hh r x =
      subst (λ (s : ℕ). Extrapolates l f κs s y r) is x ∙ rw (o.ultimate, o.pairs, last_quoted n y hl hh)

  -- the quoted years stay
  pub kept_quoted : (x : Years) → Kept k y x → quoted_in n x ≡ quoted_in n y
  kept_quoted x kept =
      let year = smoothing_year n.profile in
      let stay = subst (λ (s : ℕ). Kept s y x) is kept in
      zip_take pair year x.lows x.highs
      ∙ ap₂ (λ (ls hs : List ℕ). pairs_of ls hs) stay.quoted_lows stay.quoted_highs
      ∙ sym (zip_take pair year y.lows y.highs)
