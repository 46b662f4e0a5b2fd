-- THE ENCLOSURE: an accepted sheet's bands, of its plain curve and of its adjusted one, hold the true factor of every order in every
-- year, within the sheet's limit.
use mathlib.Core.Path.{◌≡◌, refl, ap, sym, subst, ◌∙◌}
use mathlib.Core.Bool.{Bool, true, false}
use mathlib.Core.List.{List, [], ◌∷◌, map}
use Prim.Native.Nat.{ℕ, zero, suc, ◌+◌, ◌-◌, ◌≤◌, ◌<◌, zero-le}
use native.Mathlib.Omega.{arith}
use lib.Dec.{leb→le, lit<}
use lib.IntN.{ℤ, pos}
use lib.ListN.{length, get_or, length-map, get_or-map}
use lib.Signed.{◌≤ℤ◌}
use Rattle.fraction.specs.Fraction.{ℚ, nat_ℚ, int_ℚ, ◌*ℚ◌, ◌÷◌}
use Rattle.fraction.specs.Rounding.{Encloses}
use Rattle.fraction.proofs.Enclosure.{encloses_ordered, nat_below, nat_above}
use Rattle.method.specs.Units.{Which, plain, adjusted, Pair, pair, SignedPair}
use Rattle.method.specs.Grounds.{done}
use Rattle.method.specs.Sheet.{Profile, euro, from_ten, from_fifteen, volume_count, smoothing_year, Numbers, total, read_sheet, sheet_numbers}
use Rattle.method.specs.Quotes.{Bootstrap}
use Rattle.method.specs.Series.{gap_forward, ultimate_forward}
use Rattle.method.specs.Extrapolation.{llfr, adjusted_years, first_raised}
use Rattle.method.specs.Curve.{Curve, Curves, some, curve_named, liquid_of, forwards, extended, curve_with, curve_of_with, curve_of}
use Rattle.method.specs.Curve.{adjusted_curve_with, adjusted_curve, adjusted_if, curves_of_with, curves_of, answer_with, answer}
use Rattle.method.specs.True.{billion, minus_log, last_liquid_forward, to_last_year}
use Rattle.method.specs.True.{true_xs, true_forwards, true_plain, with_VA, true_adjusted, true_curve, true_factor}
use Rattle.method.specs.Enclosure.{CurveHolds, low_of, high_of}
use Rattle.method.proofs.Outcome.{bind_done, done_injective}
use Rattle.method.proofs.Holding.{some_injective, none_not_some}
use Rattle.method.proofs.Entries.{map_at}
use Rattle.method.proofs.Enclosed.{AllEnclosed, enclosed_at, enclosed_length}
use Rattle.method.proofs.Markets.{smoothing_least, smoothing_most}
use Rattle.method.proofs.QuotesBounds.{each_at}
use Rattle.method.proofs.Reading.{read_passes}
use Rattle.method.proofs.SheetBounds.{read_bounds}
use Rattle.method.proofs.Liquid.{RatesAbove}
use Rattle.method.proofs.Stretches.{liquid_factors, Liquids, liquid_holds}
use Rattle.method.proofs.Logarithm.{gap_forward_encloses, ultimate_forward_encloses}
use Rattle.method.proofs.SeriesBounds.{gap_forward_bound}
use Rattle.method.proofs.Size.{Within}
use Rattle.method.proofs.Forward.{zero_pair, llfr_encloses_at, llfr_bound_at, llfr_alone, llfr_encloses_one}
use Rattle.method.proofs.Adjusted.{adjusted_length, adjusted_highs, adjusted_encloses, raised_length, va_length, raised_encloses, raised_within}
use Rattle.method.proofs.Extended.{Usable, HighsAtMost, Extends, extends, extended-length, extended_holds, extended_at_most, extended_narrow}
use Rattle.method.specs.Ranges.{logarithm_bound, forward_bound, Each, Factor, YearlyFactor, RateInRange, NumbersInRange}

-- ---- ground 8

pub factors_at_most : {ps : List Pair} → Each Factor ps → HighsAtMost ps
factors_at_most Each.none i = zero-le
factors_at_most (Each.more f e) zero = f.greatest
factors_at_most (Each.more f e) (suc i) = factors_at_most e i

-- ---- the forwards of the stretches

module _ (n : ℕ) {ys : List Pair} {xs : List ℚ} (e : AllEnclosed ys xs) (r : Each YearlyFactor ys) (i : ℕ) (h : i < length ys) where
  abbrev y : Pair
  y = get_or ys i (pair 0 0)

  in_range : YearlyFactor y
  in_range = each_at i (pair 0 0) r h

  forward_at : let f = get_or (map gap_forward ys) i zero_pair in Encloses f.low f.high (get_or (map (minus_log n) xs) i (nat_ℚ 0))
  forward_at =
      let t = enclosed_at i (pair 0 0) (nat_ℚ 0) e h in
      rw (map_at gap_forward ys i (pair 0 0) zero_pair h, map_at (minus_log n) xs i (nat_ℚ 0) (nat_ℚ 0) (rw (enclosed_length e) at h))
      (gap_forward_encloses n y in_range.low_least in_range.high_greatest (nat_below t) (nat_above t))

  bound_at : Within logarithm_bound (get_or (map gap_forward ys) i zero_pair)
  bound_at =
      let b = gap_forward_bound y in_range.low_least in_range.low_greatest in_range.high_least in_range.high_greatest in
      rw (map_at gap_forward ys i (pair 0 0) zero_pair h)
      (record { low_within = record { bound = omega (arith, b.0) }; high_within = record { bound = omega (arith, b.1) } })

-- ---- LLFR, of the euro's five volumes or of one

llfr_holds : (p : Profile) (vs : List ℕ) (gs : List SignedPair) (fs : List ℚ) →
    length vs ≡ volume_count p → length gs ≡ volume_count p → length fs ≡ volume_count p → 0 < total vs →
    ((i : ℕ) → i < volume_count p → Encloses (get_or gs i zero_pair).low (get_or gs i zero_pair).high (get_or fs i (nat_ℚ 0))) →
    Encloses (llfr vs gs).low (llfr vs gs).high (last_liquid_forward vs fs)
llfr_holds euro vs gs fs lv lg lf h k = llfr_encloses_at vs gs fs lv lg lf h k
llfr_holds from_ten vs gs fs lv lg lf h k = llfr_encloses_one vs gs lv lg h fs lf (k 0 (lit< tt))
llfr_holds from_fifteen vs gs fs lv lg lf h k = llfr_encloses_one vs gs lv lg h fs lf (k 0 (lit< tt))

llfr_bounds : (p : Profile) (vs : List ℕ) (gs : List SignedPair) {M : ℕ} → length vs ≡ volume_count p → length gs ≡ volume_count p → 0 < total vs →
    ((i : ℕ) → i < volume_count p → Within M (get_or gs i zero_pair)) → Within M (llfr vs gs)
llfr_bounds euro vs gs lv lg h k = llfr_bound_at vs gs lv lg h k
llfr_bounds from_ten vs gs lv lg h k = rw (llfr_alone vs gs lv lg h) (k 0 (lit< tt))
llfr_bounds from_fifteen vs gs lv lg h k = rw (llfr_alone vs gs lv lg h) (k 0 (lit< tt))

-- ---- the liquid part of a sheet, and its forwards

module _ (s : Numbers) (u : Usable s) {b : Bootstrap} (d : liquid_of s ≡ done b) where
  pub worked_liquid : Liquids s b
  worked_liquid = liquid_holds s u d

  abbrev count : ℕ
  count = volume_count s.profile

  forwards-count : length (forwards b) ≡ count
  forwards-count = length-map b.yearly_factors gap_forward ∙ worked_liquid.stretches

  true-forwards-count : (n : ℕ) → length (true_forwards n s) ≡ count
  unfolding true_forwards
  true-forwards-count n = length-map (true_xs n s) (minus_log n) ∙ sym (enclosed_length (worked_liquid.encloses_xs n)) ∙ worked_liquid.stretches

  plain_enclosed : (n i : ℕ) → i < count → let f = get_or (forwards b) i zero_pair in Encloses f.low f.high (get_or (true_forwards n s) i (nat_ℚ 0))
  unfolding true_forwards
  plain_enclosed n i h = forward_at n (worked_liquid.encloses_xs n) worked_liquid.in_range i (rw worked_liquid.stretches h)

  plain_within : (i : ℕ) → i < count → Within logarithm_bound (get_or (forwards b) i zero_pair)
  plain_within i h = bound_at 0 (worked_liquid.encloses_xs 0) worked_liquid.in_range i (rw worked_liquid.stretches h)

  -- the forwards as a curve takes them
  abbrev pub forwards_for : Which → List SignedPair
  forwards_for plain = forwards b
  forwards_for adjusted = first_raised s.adjustment (forwards b)

  abbrev true_forwards_for : Which → ℕ → List ℚ
  true_forwards_for plain n = true_forwards n s
  true_forwards_for adjusted n = with_VA (billion *ℚ (int_ℚ s.adjustment ÷ nat_ℚ 100_000)) (true_forwards n s)

  pub forwards_for_count : (w : Which) → length (forwards_for w) ≡ count
  forwards_for_count plain = forwards-count
  forwards_for_count adjusted = raised_length s.adjustment (forwards b) ∙ forwards-count

  true-forwards_for_count : (w : Which) (n : ℕ) → length (true_forwards_for w n) ≡ count
  true-forwards_for_count plain n = true-forwards-count n
  true-forwards_for_count adjusted n = va_length _ (true_forwards n s) ∙ true-forwards-count n

  forward_enclosed : (w : Which) (n i : ℕ) → i < count →
      let f = get_or (forwards_for w) i zero_pair in
      Encloses f.low f.high (get_or (true_forwards_for w n) i (nat_ℚ 0))
  forward_enclosed plain n i h = plain_enclosed n i h
  forward_enclosed adjusted n i h =
      raised_encloses s.adjustment (forwards b) (true_forwards n s) i (rw forwards-count h) (true-forwards-count n ∙ sym forwards-count)
      (plain_enclosed n i h)

  pub forward-within : (w : Which) (i : ℕ) → i < count → Within forward_bound (get_or (forwards_for w) i zero_pair)
  forward-within plain i h =
      let b = plain_within i h in
      record { low_within = record { bound = omega (arith, b.low_within.bound) }; high_within = record { bound = omega (arith, b.high_within.bound) } }
  forward-within adjusted i h = raised_within logarithm_bound s.adjustment u.adjustment_size (forwards b) i (plain_within i h)

  -- ---- the last liquid forward rate

  abbrev pub llfr_for : Which → SignedPair
  llfr_for w = llfr s.volumes (forwards_for w)

  llfr_enclosed : (w : Which) (n : ℕ) → Encloses (llfr_for w).low (llfr_for w).high (last_liquid_forward s.volumes (true_forwards_for w n))
  llfr_enclosed w n =
      llfr_holds s.profile s.volumes (forwards_for w) _ u.volume_count (forwards_for_count w) (true-forwards_for_count w n) u.traded
      (forward_enclosed w n)

  pub llfr_bounded : (w : Which) → Within forward_bound (llfr_for w)
  llfr_bounded w = llfr_bounds s.profile s.volumes (forwards_for w) u.volume_count (forwards_for_count w) u.traded (forward-within w)

  llfr-within : (w : Which) → Within 250_000_000 (llfr_for w)
  llfr-within w =
      let b = llfr_bounded w in
      record { low_within = record { bound = omega (arith, b.low_within.bound) }; high_within = record { bound = omega (arith, b.high_within.bound) } }

  pub llfr_ordered : (w : Which) → (llfr_for w).low ≤ℤ (llfr_for w).high
  llfr_ordered w = encloses_ordered (llfr_enclosed w 0)

pub ultimate_forward_ordered : (u : ℕ) → u ≤ 10_000 → (ultimate_forward u).low ≤ℤ (ultimate_forward u).high
ultimate_forward_ordered u h = encloses_ordered (ultimate_forward_encloses 0 u h)

-- ---- a curve, from the years that it is extended from, however many they are

module _ (w : Which) (s : Numbers) (u : Usable s) {f : SignedPair} {quoted years : List Pair} (steps : Extends s f quoted years)
    (short : length quoted ≤ 150) (long : 10 ≤ length quoted) (small : HighsAtMost quoted) (enclosed : (n : ℕ) → AllEnclosed years (true_curve w n s)) where
  abbrev c : Curve
  c = curve_with s years

  years_length : length years ≡ 150
  years_length = extended-length s u f quoted steps short long

  -- a year's low and high on the list
  low_at : (t : ℕ) → low_of c t ≡ (get_or years (t - 1) (pair 0 0)).low
  low_at t = get_or-map (λ p. p.low) years (t - 1) (pair 0 0)

  high_at : (t : ℕ) → high_of c t ≡ (get_or years (t - 1) (pair 0 0)).high
  high_at t = get_or-map (λ p. p.high) years (t - 1) (pair 0 0)

  true_at : (n t : ℕ) → 1 ≤ t → t ≤ 150 → Encloses (pos (low_of c t)) (pos (high_of c t)) (true_factor w n s t)
  unfolding true_factor
  true_at n t h k = rw (low_at t, high_at t) (enclosed_at (t - 1) (pair 0 0) (nat_ℚ 0) (enclosed n) (omega (arith, years_length)))

  highs_at_most : HighsAtMost years
  highs_at_most = extended_at_most s u f quoted steps short long small

  narrow : (i : ℕ) → i < 150 → (get_or years i (pair 0 0)).high ≤ (get_or years i (pair 0 0)).low + s.limit
  narrow = extended_narrow s u f quoted steps short long

  holds : CurveHolds w s c
  holds =
      record {
        month_kept = refl;
        limit_kept = refl;
        years_of_lows = length-map years (λ p. p.low) ∙ years_length;
        years_of_highs = length-map years (λ p. p.high) ∙ years_length;
        ordered = λ t h k. leb→le (low_of c t) (high_of c t) (encloses_ordered (true_at 0 t h k)).le;
        within_limit = λ t h k. rw (low_at t, high_at t) (narrow (t - 1) (omega arith));
        at_most = λ t h k. rw (high_at t) (highs_at_most (t - 1));
        true_years = λ n. sym (enclosed_length (enclosed n)) ∙ years_length;
        encloses_true = true_at;
      }

-- ---- the two curves

module _ (s : Numbers) (u : Usable s) {b : Bootstrap} (d : liquid_of s ≡ done b) where
  abbrev year : ℕ
  year = smoothing_year s.profile

  short : (from : List Pair) → length from ≡ year → length from ≤ 150
  short from e = omega (arith, e, smoothing_most s.profile)

  long : (from : List Pair) → length from ≡ year → 10 ≤ length from
  long from e = omega (arith, e, smoothing_least s.profile)

  -- however the years to the smoothing year came: all years enclose the true ones that go on from what these enclose
  extended_encloses : (w : Which) {from years : List Pair} (n : ℕ) {xs : List ℚ} → Extends s (llfr_for s u d w) from years → length from ≡ year →
      AllEnclosed from xs → AllEnclosed years (to_last_year n s (last_liquid_forward s.volumes (true_forwards_for s u d w n)) xs)
  extended_encloses w {from} n e quoted enclosed =
      extended_holds s u _ from e (short from quoted) (long from quoted) n (llfr-within s u d w) (llfr_enclosed s u d w n) enclosed

  plain_holds : {years : List Pair} → extended s (llfr_for s u d plain) b.factors ≡ done years → CurveHolds plain s (curve_with s years)
  unfolding true_curve true_plain
  plain_holds e =
      let l = worked_liquid s u d in
      let steps = extends s _ b.factors e in
      holds plain s u steps (short b.factors l.years) (long b.factors l.years) (factors_at_most (liquid_factors s d))
      (λ n. extended_encloses plain n steps l.years (l.encloses_years n))

  adjusted_holds : {from years : List Pair} → adjusted_years s.adjustment 1 b.factors ≡ done from →
      extended s (llfr_for s u d adjusted) from ≡ done years → CurveHolds adjusted s (curve_with s years)
  unfolding true_curve true_adjusted
  adjusted_holds {from} a e =
      let l = worked_liquid s u d in
      let steps = extends s _ from e in
      let count : length from ≡ year = adjusted_length s.adjustment 1 b.factors a ∙ l.years in
      holds adjusted s u steps (short from count) (long from count) (adjusted_highs s.adjustment 1 b.factors a)
      (λ n. extended_encloses adjusted n steps count (adjusted_encloses n s.adjustment u.adjustment_size 1 (l.encloses_years n) a))

pub plain_enclosure : (s : Numbers) → Usable s → (c : Curve) → curve_of s ≡ done c → CurveHolds plain s c
unfolding curve_of_with
plain_enclosure s u c e =
    let liquid = bind_done (liquid_of s) _ e in
    let ext = bind_done (extended s (llfr_for s u liquid.1 plain) liquid.0.factors) _ liquid.2 in
    subst (CurveHolds plain s) (done_injective ext.2) (plain_holds s u liquid.1 ext.1)

pub adjusted_enclosure : (s : Numbers) → Usable s → (c : Curve) → adjusted_curve s ≡ done c → CurveHolds adjusted s c
unfolding adjusted_curve_with
adjusted_enclosure s u c e =
    let liquid = bind_done (liquid_of s) _ e in
    let first = bind_done (adjusted_years s.adjustment 1 liquid.0.factors) _ liquid.2 in
    let ext = bind_done (extended s (llfr_for s u liquid.1 adjusted) first.0) _ first.2 in
    subst (CurveHolds adjusted s) (done_injective ext.2) (adjusted_holds s u liquid.1 first.1 ext.1)

-- ---- whichever curve is named

-- what a sheet's curves were worked through
pub record Worked (s : Numbers) (cs : Curves) : Type 0 where
  pub plain_done : curve_of s ≡ done cs.plain
  pub adjusted_done : adjusted_if s.adjusts s ≡ done cs.adjusted

pub worked : (s : Numbers) (cs : Curves) → curves_of s ≡ done cs → Worked s cs
unfolding curves_of_with
worked s cs e =
    let first = bind_done (curve_of s) _ e in
    let second = bind_done (adjusted_if s.adjusts s) _ first.2 in
    let is = done_injective second.2 in
    record {
      plain_done = first.1 ∙ ap (λ (k : Curves). done k.plain) is;
      adjusted_done = second.1 ∙ ap (λ (k : Curves). done k.adjusted) is;
    }

-- an adjusted curve is there exactly where the sheet has an adjustment, and then it is `adjusted_curve`
adjusted_done_is : (t : Bool) (s : Numbers) (c : Curve) → adjusted_if t s ≡ done (some c) → adjusted_curve s ≡ done c
adjusted_done_is true s c e =
    let made = bind_done (adjusted_curve s) _ e in
    made.1 ∙ ap done (some_injective (done_injective made.2))
adjusted_done_is false s c e = absurd (none_not_some (done_injective e))

pub enclosure_of_numbers : (w : Which) (s : Numbers) → Usable s → (cs : Curves) → curves_of s ≡ done cs →
    (c : Curve) → curve_named w cs ≡ some c → CurveHolds w s c
enclosure_of_numbers plain s u cs e c named =
    plain_enclosure s u c ((worked s cs e).plain_done ∙ ap done (some_injective named))
enclosure_of_numbers adjusted s u cs e c named =
    adjusted_enclosure s u c (adjusted_done_is s.adjusts s c ((worked s cs e).adjusted_done ∙ ap done named))

-- ---- a sheet's bytes

rates_above : (rs : List ℤ) → ((i : ℕ) → RateInRange (get_or rs i (pos 0))) → RatesAbove rs
rates_above [] h = tt
rates_above (r ∷ rs) h = (omega (arith, (h 0).negative), rates_above rs (λ i. h (suc i)))

pub usable : (s : Numbers) → NumbersInRange s → Usable s
usable s h =
    record {
      rate_count = h.rate_count;
      rates_above = rates_above s.rates h.rate_range;
      volume_count = h.volume_count;
      traded = h.total_least;
      ultimate_most = h.ultimate_most;
      phase_in_least = h.phase_in_least;
      phase_in_most = h.phase_in_most;
      adjustment_size = h.adjustment_size;
    }

-- For every bytes that are accepted: each curve is the sheet's, within its limit, and holds its true factor of every order.
pub enclosure : (w : Which) (bytes : List ℕ) (cs : Curves) → answer bytes ≡ done cs → (c : Curve) → curve_named w cs ≡ some c →
    CurveHolds w (sheet_numbers bytes) c
unfolding answer_with
enclosure w bytes cs e c named =
    let read = bind_done (read_sheet bytes) curves_of e in
    let numbers = (read_passes bytes read.0 read.1).numbers in
    rw numbers (enclosure_of_numbers w read.0 (usable read.0 (read_bounds bytes read.0 read.1)) cs read.2 c named)
