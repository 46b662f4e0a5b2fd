-- THE LIQUID PART, of all markets together: the years to the smoothing year enclose the true ones of every order, and so does the x of
-- each stretch from the one that ends with it on. That x is a gap's, or where the year before is quoted too the one year over the other.
use mathlib.Core.Path.{◌≡◌, refl, ap, sym, subst, ◌∙◌}
use mathlib.Core.Bool.{◌&&◌}
use mathlib.Core.List.{List, [], ◌∷◌, ◌++◌, map}
use Prim.Native.Nat.{ℕ, suc, ◌+◌, ◌-◌, ◌≤◌}
use native.Mathlib.Omega.{arith}
use borrow.Author.Tests.{leb-true}
use lib.Dec.{leb, leb→le, lit≤}
use lib.IntN.{pos}
use lib.ListN.{length, take, drop, get_or, length-drop}
use lib.Seq.{drop-drop}
use Rattle.fraction.specs.Fraction.{ℚ, ◌≈◌, nat_ℚ, recip, ◌*ℚ◌, ◌÷◌}
use Rattle.fraction.specs.Rounding.{U, Encloses}
use Rattle.fraction.proofs.Order.{≤ℚ-refl}
use Rattle.fraction.proofs.Ring.{var, ◌⊗◌}
use Rattle.fraction.proofs.RingFraction.{ring_ℚ}
use Rattle.fraction.proofs.Enclosure.{encloses-≈, encloses_product, encloses_ratio, encloses_ordered, nat_encloses}
use Rattle.method.specs.Units.{Pair, pair}
use Rattle.method.specs.Grounds.{end_fails_test, done}
use Rattle.method.specs.Sheet.{Profile, euro, from_ten, from_fifteen, smoothing_index, volume_count, maturities, quoted_maturities}
use Rattle.method.specs.Sheet.{volume_maturities, smoothing_year, Numbers}
use Rattle.method.specs.Quotes.{lower_end, upper_end, Bootstrap, used, kept, bootstrap}
use Rattle.method.specs.Ranges.{Each, Factor, YearlyFactor}
use Rattle.method.specs.Curve.{used_by, used_quotes, spread, no_year, year_over, gap_xs, liquid_of}
use Rattle.method.specs.True.{billion, Liquid, liquid, volumes_at, yearly_to, true_maturities, true_liquid, yearly_up_to, true_xs, true_years}
use Rattle.method.proofs.Outcome.{bind_done, demand_done, done_injective, both_true}
use Rattle.method.proofs.Enclosed.{AllEnclosed, enclosed_take, enclosed_drop, enclosed_at, enclosed_length}
use Rattle.method.proofs.Enclosed as enclosed
use Rattle.method.proofs.Entries.{spelled_out}
use Rattle.method.proofs.Slots.{volume_count_lem}
use Rattle.method.proofs.Markets.{smoothed_from_lem, volumes_at_lem}
use Rattle.method.proofs.QuotesBounds.{each_at, each_take, each_drop, bootstrap_bounded, gaps_from}
use Rattle.method.proofs.Liquid.{LiquidEnclosed, Rising, bootstrap_encloses}
use Rattle.method.proofs.Used.{kept_above, beside-used, used-maturities, used_maturities, later_ends, euro_ends, euro_gaps, used_climb}
use Rattle.method.proofs.Used.{climbs_rise, used_rates, used_apart, lengths, to_smoothing_year, quoted_length, as_many_marks}
use Rattle.method.proofs.Used.{yearlies_on, spread_encloses, spread_each, spread-length, spread_one}
use Rattle.method.proofs.Extended.{Usable}

-- ---- one year over the year before

module _ {ps : List Pair} {xs : List ℚ} (e : AllEnclosed ps xs) (r : Each Factor ps) (t : ℕ) (two : 2 ≤ t) (within : t ≤ length ps) where
  abbrev ratio : ℚ
  ratio = billion *ℚ (get_or xs (t - 1) (nat_ℚ 0) ÷ get_or xs (t - 2) (nat_ℚ 0))

  over_is : (x y : ℚ) → (x *ℚ billion) ÷ y ≈ billion *ℚ (x ÷ y)
  over_is x y = ring_ℚ (x ∷ billion ∷ recip y ∷ []) ((var 0 ⊗ var 1) ⊗ var 2) (var 1 ⊗ (var 0 ⊗ var 2)) tt

  over_encloses : Encloses (pos (year_over ps t).low) (pos (year_over ps t).high) ratio
  unfolding year_over
  over_encloses =
      let last = enclosed_at (t - 1) no_year (nat_ℚ 0) e (omega arith) in
      let before = enclosed_at (t - 2) no_year (nat_ℚ 0) e (omega arith) in
      let f = each_at (t - 2) no_year r (omega arith) in
      let one = nat_encloses (≤ℚ-refl billion) (≤ℚ-refl billion) in
      encloses-≈ (over_is _ _) (encloses_ratio (omega (arith, f.least)) (omega (arith, f.least, f.ordered)) (encloses_product last one) before)

-- ---- the gaps that end before the smoothing year's are passed over

abbrev AllBelow : List ℕ → List ℕ → Type 0
AllBelow [] ms = Unit {0}
AllBelow (e ∷ es) ms = Rising e ms × AllBelow es ms

yearlies_past : (es rest : List ℕ) (xs : List ℚ) (ms : List ℕ) → AllBelow es ms →
    map (λ m. yearly_to m (es ++ rest) xs) ms ≡ map (λ m. yearly_to m rest (drop (length es) xs)) ms
yearlies_past [] rest xs ms b = refl
yearlies_past (e ∷ es) rest xs ms b =
    let one : 1 + length es ≡ suc (length es) = omega arith in
    yearlies_on e (es ++ rest) xs ms b.0
    ∙ yearlies_past es rest (drop 1 xs) ms b.1
    ∙ ap (λ (ys : List ℚ). map (λ m. yearly_to m rest ys) ms) (drop-drop (length es) 1 xs ∙ ap (λ (k : ℕ). drop k xs) one)

-- the x of the stretches, whatever gaps end before them
module _ (p : Profile) (vs : List ℕ) (volumes : length vs ≡ volume_count p) (es : List ℕ) (n : ℕ)
    (below : AllBelow es (volume_maturities p)) (rises : Rising n (volume_maturities p)) (ends : drop 10 (used_maturities p vs) ≡ es ++ later_ends p vs) where
  past_enclosed : {ys : List Pair} {xs : List ℚ} → AllEnclosed ys xs → length ys ≡ length es + length (later_ends p vs) →
      AllEnclosed (spread (pair U U) (drop (smoothing_index p) (used (smoothing_index p) vs)) (drop (length es) ys))
      (map (λ m. yearly_to m (drop 10 (used_maturities p vs)) xs) (volume_maturities p))
  past_enclosed {ys} {xs} e c =
      rw (ends, yearlies_past es (later_ends p vs) xs (volume_maturities p) below)
      (spread_encloses _ (volume_maturities p) n rises (as_many_marks p vs volumes) (enclosed_drop (length es) e)
      (length-drop (length es) ys ∙ omega (arith, c)))

-- ---- the x of the stretches, market by market

-- what is shown of them
pub record XsHold (xs : List Pair) (ys : List ℚ) : Type 0 where
  pub encloses : AllEnclosed xs ys
  pub in_range : Each YearlyFactor xs

unit_yearly : YearlyFactor (pair U U)
unit_yearly = record { low_least = lit≤ tt; low_greatest = lit≤ tt; high_least = lit≤ tt; high_greatest = lit≤ tt }

abbrev stretched : Profile → List ℕ → List Pair → List Pair
stretched p vs xs = spread (pair U U) (drop (smoothing_index p) (used (smoothing_index p) vs)) xs

-- the euro's gaps before 20 end at 12 and 15
euro_below : AllBelow (12 ∷ 15 ∷ []) (volume_maturities euro)
unfolding maturities quoted_maturities volume_maturities
euro_below = omega arith

euro_rises : Rising 15 (volume_maturities euro)
unfolding maturities quoted_maturities volume_maturities
euro_rises = omega arith

-- profile 3's before 15 ends at 12
fifteen_below : AllBelow (12 ∷ []) (volume_maturities from_fifteen)
unfolding maturities quoted_maturities volume_maturities
fifteen_below = omega arith

fifteen_rises : Rising 12 (volume_maturities from_fifteen)
unfolding maturities quoted_maturities volume_maturities
fifteen_rises = omega arith

module _ (vs : List ℕ) (one : length vs ≡ 1) where
  fifteen_ends : drop 10 (used_maturities from_fifteen vs) ≡ 12 ∷ later_ends from_fifteen vs
  unfolding used kept maturities quoted_maturities volume_maturities
  fifteen_ends =
      subst (λ (v : List ℕ). drop 10 (used_maturities from_fifteen v) ≡ 12 ∷ later_ends from_fifteen v) (spelled_out 0 vs one) refl

  fifteen_gaps : gaps_from 0 0 (used_maturities from_fifteen vs) ≡ 1 + length (later_ends from_fifteen vs)
  unfolding gaps_from used kept maturities quoted_maturities volume_maturities
  fifteen_gaps =
      subst (λ (v : List ℕ). gaps_from 0 0 (used_maturities from_fifteen v) ≡ 1 + length (later_ends from_fifteen v)) (spelled_out 0 vs one) refl

  ten_ends : length (later_ends from_ten vs) ≡ 1
  unfolding used kept maturities quoted_maturities volume_maturities
  ten_ends = subst (λ (v : List ℕ). length (later_ends from_ten v) ≡ 1) (spelled_out 0 vs one) refl

  -- profile 2's one stretch has the x that there is
  ten_alone : (x : Pair) → stretched from_ten vs (x ∷ []) ≡ x ∷ []
  ten_alone x = spread_one (pair U U) _ (as_many_marks from_ten vs one ∙ volume_count_lem from_ten) (x ∷ [])

module _ (vs : List ℕ) {a : Bootstrap} {l : Liquid} (h : LiquidEnclosed a l) where
  in_gaps : (p : Profile) (k : ℕ) → Each YearlyFactor (stretched p vs (drop k a.yearly_factors))
  in_gaps p k = spread_each (pair U U) _ unit_yearly (each_drop k h.yearly_in_range)

  euro_xs : length vs ≡ 5 → length a.yearly_factors ≡ gaps_from 0 0 (used_maturities euro vs) → {xs : List Pair} → gap_xs euro a ≡ done xs →
      XsHold (stretched euro vs xs) (map (yearly_up_to (used_maturities euro vs) l) (volumes_at euro))
  unfolding gap_xs yearly_up_to volumes_at
  euro_xs volumes gaps e =
      let past = past_enclosed euro vs volumes (12 ∷ 15 ∷ []) 15 euro_below euro_rises (euro_ends vs) h.yearly (gaps ∙ euro_gaps vs) in
      rw (← done_injective e) (record { encloses = rw (volumes_at_lem euro) at past; in_range = in_gaps euro 2 })

  fifteen_xs : length vs ≡ 1 → length a.yearly_factors ≡ gaps_from 0 0 (used_maturities from_fifteen vs) → {xs : List Pair} → gap_xs from_fifteen a ≡ done xs →
      XsHold (stretched from_fifteen vs xs) (map (yearly_up_to (used_maturities from_fifteen vs) l) (volumes_at from_fifteen))
  unfolding gap_xs yearly_up_to volumes_at
  fifteen_xs one gaps e =
      let past = past_enclosed from_fifteen vs one (12 ∷ []) 12 fifteen_below fifteen_rises (fifteen_ends vs one) h.yearly (gaps ∙ fifteen_gaps vs one) in
      rw (← done_injective e) (record { encloses = rw (volumes_at_lem from_fifteen) at past; in_range = in_gaps from_fifteen 1 })

  ten_xs : length vs ≡ 1 → smoothing_year from_ten ≤ length a.factors → {xs : List Pair} → gap_xs from_ten a ≡ done xs →
      XsHold (stretched from_ten vs xs) (map (yearly_up_to (used_maturities from_ten vs) l) (volumes_at from_ten))
  unfolding gap_xs yearly_up_to volumes_at smoothing_year maturities
  ten_xs one years e =
      let x = year_over a.factors 10 in
      let tested = demand_done (leb lower_end x.low && leb x.high upper_end) (end_fails_test 10) (λ _. done (x ∷ [])) e in
      let ends = both_true (leb lower_end x.low) (leb x.high upper_end) tested.0 in
      let over = over_encloses h.years.enclosed h.years.in_range 10 (lit≤ tt) years in
      let least = leb-true lower_end x.low ends.0 in
      let most = leb-true x.high upper_end ends.1 in
      let ordered = leb→le x.low x.high (encloses_ordered over).le in
      let range : YearlyFactor x =
      record { low_least = least; low_greatest = omega arith; high_least = omega arith; high_greatest = most } in
      rw (← done_injective tested.1, ten_alone vs one x)
      (record { encloses = enclosed.more over enclosed.none; in_range = Each.more range Each.none })

  pub xs_hold : (p : Profile) → length vs ≡ volume_count p → smoothing_year p ≤ length a.factors →
      length a.yearly_factors ≡ gaps_from 0 0 (used_maturities p vs) → {xs : List Pair} → gap_xs p a ≡ done xs →
      XsHold (stretched p vs xs) (map (yearly_up_to (used_maturities p vs) l) (volumes_at p))
  xs_hold euro volumes years gaps e = euro_xs volumes gaps e
  xs_hold from_ten volumes years gaps e = ten_xs volumes years e
  xs_hold from_fifteen volumes years gaps e = fifteen_xs volumes gaps e

-- as many as the volumes leave gaps
pub xs_count : (p : Profile) (vs : List ℕ) (a : Bootstrap) → length vs ≡ volume_count p → length a.yearly_factors ≡ gaps_from 0 0 (used_maturities p vs) →
    {xs : List Pair} → gap_xs p a ≡ done xs → length xs ≡ length (later_ends p vs)
unfolding gap_xs
xs_count euro vs a volumes gaps e = rw (← done_injective e) (length-drop 2 a.yearly_factors ∙ omega (arith, gaps, euro_gaps vs))
xs_count from_ten vs a volumes gaps e =
    let x = year_over a.factors (smoothing_year from_ten) in
    let tested = demand_done (leb lower_end x.low && leb x.high upper_end) (end_fails_test (smoothing_year from_ten)) (λ _. done (x ∷ [])) e in
    rw (← done_injective tested.1) (sym (ten_ends vs volumes))
xs_count from_fifteen vs a volumes gaps e = rw (← done_injective e) (length-drop 1 a.yearly_factors ∙ omega (arith, gaps, fifteen_gaps vs volumes))

-- ---- the liquid part that a curve is worked from

-- its factors passed 7 and 8
pub liquid_factors : (s : Numbers) {b : Bootstrap} → liquid_of s ≡ done b → Each Factor b.factors
unfolding liquid_of
liquid_factors s e =
    let boot = bind_done (bootstrap (used_quotes s)) _ e in
    let gaps = bind_done (gap_xs s.profile boot.0) _ boot.2 in
    rw (← done_injective gaps.2) (each_take (smoothing_year s.profile) (bootstrap_bounded _ boot.1).factors)

pub record Liquids (s : Numbers) (b : Bootstrap) : Type 0 where
  pub years : length b.factors ≡ smoothing_year s.profile
  pub stretches : length b.yearly_factors ≡ volume_count s.profile
  pub in_range : Each YearlyFactor b.yearly_factors
  pub encloses_years : (n : ℕ) → AllEnclosed b.factors (true_years n s)
  pub encloses_xs : (n : ℕ) → AllEnclosed b.yearly_factors (true_xs n s)

module _ (s : Numbers) (u : Usable s) {a : Bootstrap} (d : bootstrap (used_quotes s) ≡ done a) where
  abbrev ms : List ℕ
  ms = used_maturities s.profile s.volumes

  abbrev used_liquid : ℕ → Liquid
  used_liquid n = liquid n ms (used_rates s d)

  quotes_enclosed : (n : ℕ) → LiquidEnclosed a (used_liquid n)
  quotes_enclosed n =
      let rises = climbs_rise 0 0 ms (used_climb s.volumes s.profile) in
      bootstrap_encloses n ms (used_rates s d) rises (kept_above (used_by s) s.rates u.rates_above) (used_apart s d)

  -- the true curve's quotes are those that are used
  maturities_are : true_maturities s ≡ ms
  unfolding true_maturities
  maturities_are = beside-used s.profile s.volumes maturities u.volume_count ∙ used-maturities s.profile s.volumes u.volume_count

  liquid_is : (n : ℕ) → true_liquid n s ≡ used_liquid n
  unfolding true_liquid
  liquid_is n = rw (maturities_are, beside-used s.profile s.volumes s.rates u.volume_count) refl

  xs_are : (n : ℕ) → true_xs n s ≡ map (yearly_up_to ms (used_liquid n)) (volumes_at s.profile)
  unfolding true_xs
  xs_are n = rw (liquid_is n, maturities_are) refl

  years_enclosed : (n : ℕ) → AllEnclosed (take (smoothing_year s.profile) a.factors) (true_years n s)
  unfolding true_years
  years_enclosed n = rw (liquid_is n, ← smoothed_from_lem s.profile) (enclosed_take (smoothing_year s.profile) (quotes_enclosed n).years.enclosed)

  xs_enclosed : (n : ℕ) {xs : List Pair} → gap_xs s.profile a ≡ done xs → XsHold (stretched s.profile s.volumes xs) (true_xs n s)
  xs_enclosed n e =
      rw (xs_are n)
      (xs_hold s.volumes (quotes_enclosed n) s.profile u.volume_count (to_smoothing_year s d u.rate_count) (lengths s d u.rate_count).1 e)

pub liquid_holds : (s : Numbers) → Usable s → {b : Bootstrap} → liquid_of s ≡ done b → Liquids s b
unfolding liquid_of
liquid_holds s u e =
    let boot = bind_done (bootstrap (used_quotes s)) _ e in
    let gaps = bind_done (gap_xs s.profile boot.0) _ boot.2 in
    let d = boot.1 in
    rw (← done_injective gaps.2)
    (record {
      years = quoted_length s d u.rate_count;
      stretches = spread-length (pair U U) _ gaps.0 ∙ as_many_marks s.profile s.volumes u.volume_count ∙ volume_count_lem s.profile;
      in_range = (xs_enclosed s u d 0 gaps.1).in_range;
      encloses_years = years_enclosed s u d;
      encloses_xs = λ n. (xs_enclosed s u d n gaps.1).encloses;
    })
