-- Demand 3 over every list of calls from a fresh book of any age limit, and the count by the answers that a caller saw.
use mathlib.Core.Path.{◌≡◌, refl, ap, sym, subst, ◌∙◌}
use mathlib.Core.Bool.{Bool, true, false, not}
use mathlib.Core.List.{List, [], ◌∷◌}
use Prim.Native.Nat.{ℕ, ◌+◌, ◌-◌, ◌≤◌, ◌<◌, min}
use native.Mathlib.Omega.{arith}
use borrow.Author.Tests.{leb-true, leb-false}
use lib.Dec.{T, leb}
use lib.IntN.{pos}
use lib.ListN.{length, get_or}
use Rattle.fraction.specs.Rounding.{Encloses}
use Rattle.method.specs.Units.{Which, plain, adjusted, Pair, pair, SignedPair}
use Rattle.method.specs.Grounds.{no_curve, buffer_too_short, age_above_limit, no_high_rate}
use Rattle.method.specs.Grounds.{Outcome, refused, done, ◌>>=◌}
use Rattle.method.specs.Curve.{Curve, Held, none, some, Curves, curve_named, answer}
use Rattle.method.specs.Enclosure.{CurveHolds, low_of, high_of}
use Rattle.method.specs.True.{true_factor}
use Rattle.method.proofs.Enclosure.{enclosure}
use Rattle.method.proofs.Outcome.{split}
use Rattle.method.proofs.Holding.{none_not_some, some_injective}
use Rattle.zero_rates.specs.Rates.{greatest_multiplier, reaches, rates_of, zero_rates}
use Rattle.zero_rates.specs.Meaning.{HighRateExists}
use Rattle.zero_rates.proofs.Theorem.{zero_rates_lem, no_rate, rates_ordered, rates_between}
use Rattle.valuation.specs.Block.{Flow, value_on}
use Rattle.valuation.specs.Meaning.{BlockTells}
use Rattle.valuation.proofs.Checks.{value_from_20}
use Rattle.valuation.proofs.Sums.{sum_encloses}
use Rattle.valuation.proofs.Theorem.{block_tells}
use Rattle.ledger.specs.Answers.{Wanted, factor, sum, finding, dated}
use Rattle.ledger.specs.Sums.{Sums, sums_of, sums_of_held, summed}
use Rattle.ledger.specs.History.{History}
use Rattle.ledger.specs.Book.{Book, Paged, standing_of, named, sums_named, age, open_curve, band_at, look_in, sum_at, shown, look_up, page}
use Rattle.ledger.specs.Book.{value}
use Rattle.ledger.specs.Calls.{look_at, page_into, value_of, Call, run}
use Rattle.ledger.specs.Count.{Count, latest, month_of, carries, typed, counted, count_from, nothing, count}
use Rattle.ledger.specs.Tells.{missing, Carries, band_among, band_in, band_of, Band, shown_of, true_of, Finds, LookTells, PageWritten, PageTells}
use Rattle.ledger.specs.Tells.{dated_at, Shows, ValueTells}
use Rattle.ledger.specs.Demands.{Demand3, sums_in_held, SumsKept, seen_from, CountIsLast, with_sums, CurveFits, FitsPage}
use Rattle.ledger.proofs.Ways.{history_of}
use Rattle.ledger.proofs.Count.{book_of, Sound, AllSound, SoundCount, sound, all_sound, works_done, answer_typed}
use Rattle.ledger.proofs.Count.{curve_month, worked_sums, curve_there, curve_missing, moves, steps}
use Rattle.ledger.proofs.Sums.{sum_is}
use Rattle.ledger.proofs.Asked.{refusal_kept, other_ground, shown_refused, was_refused, open_within, closed_old, closed_none, look_outside}
use Rattle.ledger.proofs.Asked.{look_open, look_closed, page_short, page_closed, page_refused, page_of_book}
use Rattle.ledger.proofs.Asked.{value_open, value_closed}

-- ---- what the sheet that stands is worked to

module _ (told : ℕ) (s : List ℕ) (g : Sound told s) where
  curves : Curves
  curves = (works_done s g.0).0

  worked : answer s ≡ done curves
  unfolding curves
  worked = (works_done s g.0).1

  stands : standing_of (some s) ≡ some (summed curves)
  stands = rw worked

  -- the sums beside each
  sums_named_lem : (w : Which) → sums_named w (standing_of (some s)) ≡ sums_of_held (curve_named w curves)
  sums_named_lem plain = rw stands
  sums_named_lem adjusted = rw stands

  -- a curve that it does not carry is none
  not_named : (w : Which) → carries w s ≡ false → named w (standing_of (some s)) ≡ none
  not_named w t = rw stands (curve_missing w s worked t)

  -- one that it carries
  module _ (w : Which) (t : carries w s ≡ true) where
    curve : Curve
    curve = (curve_there w s worked t).0

    among : curve_named w curves ≡ some curve
    unfolding curve
    among = (curve_there w s worked t).1

    named_is : named w (standing_of (some s)) ≡ some curve
    named_is = rw stands among

    month_is : curve.month ≡ month_of s
    month_is = curve_month w s worked curve among

    holds : CurveHolds w (typed s) curve
    holds = rw (← answer_typed s worked) (enclosure w s curves worked curve among)

    band_at_lem : (y : ℕ) → band_of w s y ≡ pair (low_of curve y) (high_of curve y)
    band_at_lem y = rw (worked, among)

    band_of_lem : (y : ℕ) → 1 ≤ y → y ≤ 150 → Band w s y (band_of w s y)
    unfolding typed
    band_of_lem y h k =
        rw (band_at_lem y)
        (record {
          ordered = holds.ordered y h k;
          within_limit = holds.within_limit y h k;
          true_years = holds.true_years;
          holds_true_factor = λ n. holds.encloses_true n y h k;
        })

    sums_is : sums_named w (standing_of (some s)) ≡ some (sums_of curve)
    sums_is = rw (sums_named_lem w, among)

    -- what is asked for: the curve's own, and of every order the true curve's between its ends
    shown_at : (v : Wanted) (y : ℕ) → 1 ≤ y → y ≤ 150 → (r : SignedPair) (m a : ℕ) →
        shown v (sums_named w (standing_of (some s))) y (done (finding (band_at curve y) r m a)) ≡ done (finding (shown_of v w s y) r m a)
    shown_at factor y h k r m a = rw (band_at_lem y)
    shown_at sum y h k r m a =
        let held = ap (λ (u : Held Sums). sum_at u y) sums_is ∙ sum_is curve holds.years_of_lows holds.years_of_highs y h k in
        rw (held, worked, among)

    true_held : (v : Wanted) (y : ℕ) → 1 ≤ y → y ≤ 150 → (n : ℕ) →
        Encloses (pos (shown_of v w s y).low) (pos (shown_of v w s y).high) (true_of v w n (typed s) y)
    true_held factor y h k n = (band_of_lem y h k).holds_true_factor n
    true_held sum y h k n =
        rw (worked, among)
        (sum_encloses (low_of curve) (high_of curve) (true_factor w n (typed s)) y (λ t i j. holds.encloses_true n t i (omega (arith, j, k))))

    high_fits : (k : ℕ) → k < 150 → get_or curve.highs k 0 < 4_294_967_296
    high_fits k h = let e : k + 1 - 1 ≡ k = omega arith in omega (arith, rw e at (holds.at_most (k + 1) (omega arith) (omega arith)))

    low_fits : (k : ℕ) → k < 150 → get_or curve.lows k 0 < 4_294_967_296
    low_fits k h = let e : k + 1 - 1 ≡ k = omega arith in omega (arith, high_fits k h, rw e at (holds.ordered (k + 1) (omega arith) (omega arith)))

    fits : told ≤ 2_399 → CurveFits told curve
    fits ht =
        record {
          month_fits = omega (arith, g.1, month_is);
          age_fits = omega arith;
          lows_150 = holds.years_of_lows;
          highs_150 = holds.years_of_highs;
          low_fits = low_fits;
          high_fits = high_fits;
        }

    -- the book with this sheet's curves, made with any age limit; how it came by them does not matter
    module _ (limit : ℕ) (ht : told ≤ 2_399) (history : History) where
      abbrev made_with : ℕ
      made_with = min limit 2_399

      abbrev held : Book
      held = record { age_limit = made_with; told = told; standing = standing_of (some s); history = history }

      abbrev here : Held Curve
      here = named w held.standing

      open_held : told - month_of s ≤ limit → open_curve here told made_with ≡ done curve
      open_held h = open_within here told made_with curve named_is (rw month_is (omega arith))

      closed_held : limit < told - month_of s → open_curve here told made_with ≡ refused age_above_limit
      closed_held h = closed_old here told made_with curve named_is (rw month_is (omega arith))

      abbrev here_sums : Held Sums
      here_sums = sums_named w held.standing

      module _ (within : told - month_of s ≤ limit) (y : ℕ) (h : 1 ≤ y) (k : y ≤ 150) where
        -- what the curve's rates make of the look-up
        looked : look_in here told made_with y ≡ (zero_rates y (band_at curve y) >>= λ r. done (finding (band_at curve y) r curve.month (age told curve)))
        looked = look_open here told made_with y curve (open_held within) h k

        finds_of : (c : Count) → c.told ≡ told → (v : Wanted) → HighRateExists y (band_of w s y).low → Finds c w v s y (look_up held w v y)
        finds_of c e v exists =
            let rated = zero_rates_lem y (band_at curve y) h (holds.at_most y h k) (rw (band_at_lem y) at exists) in
            record {
              not_after_told = rw e g.1;
              rates = rates_of y (band_of w s y);
              found = rw (looked, rated.0) (shown_at v y h k _ _ _ ∙ rw (band_at_lem y, e, month_is));
              holds_true = true_held v y h k;
              band = band_of_lem y h k;
              band_rates = rw (band_at_lem y) rated.1;
              rates_ordered = rates_ordered y (band_of w s y) _ h (band_of_lem y h k).ordered (rw (band_at_lem y) rated.1);
              holds_true_rate = λ n. rates_between y (band_of w s y) _ _ (rw (band_at_lem y) rated.1) ((band_of_lem y h k).holds_true_factor n);
            }

        look_unrated : (v : Wanted) → (HighRateExists y (band_of w s y).low → ⊥) → look_up held w v y ≡ refused no_high_rate
        look_unrated v unrated = shown_refused v here_sums y (rw (looked, (no_rate y (band_at curve y)).1 (rw (band_at_lem y) at unrated)))

      look_old : limit < told - month_of s → (y : ℕ) → 1 ≤ y → y ≤ 150 → look_in here told made_with y ≡ refused age_above_limit
      look_old older y h k = look_closed here told made_with y (closed_held older) h k

      -- a book that holds a curve never says that there is none
      look_never_none : (y : ℕ) → 1 ≤ y → y ≤ 150 → look_in here told made_with y ≡ refused no_curve → ⊥
      look_never_none y h k e =
          split (leb (told - month_of s) limit)
          (λ q. let within = leb-true _ _ q in
          split (reaches y (low_of curve y) greatest_multiplier)
          (λ r. refusal_kept (rw r at (looked within y h k)) e)
          (λ r. other_ground (rw r at (looked within y h k)) e (λ n. omega (arith, n))))
          (λ q. other_ground (look_old (leb-false _ _ q) y h k) e (λ n. omega (arith, n)))

      page_of : (l : List ℕ) → told - month_of s ≤ limit → 1_505 ≤ length l →
          PageWritten l (month_of s) (told - month_of s) (band_of w s) (page held w l)
      page_of l within h =
          let of-curve = page_of_book held w curve l named_is (fits ht) (rw month_is (omega arith)) h in
          let of-month = subst (λ m. PageWritten l m (told - m) (band_among (some curve)) (page held w l)) month_is of-curve in
          let of-curves = subst (λ k. PageWritten l (month_of s) (told - month_of s) (band_among k) (page held w l)) (sym among) of-month in
          subst (λ o. PageWritten l (month_of s) (told - month_of s) (band_in w o) (page held w l)) (sym worked) of-curves

      page_old : limit < told - month_of s → (l : List ℕ) → (page held w l).answer ≡ refused age_above_limit
      page_old older l = ap (λ (p : Paged). p.answer) (page_closed here told made_with l (closed_held older))

      short_of : told - month_of s ≤ limit → (l : List ℕ) → length l < 1_505 → (page held w l).answer ≡ refused buffer_too_short
      short_of within l h = ap (λ (p : Paged). p.answer) (page_short here told made_with l curve (open_held within) h)

      page_never_none : (l : List ℕ) → (page held w l).answer ≡ refused no_curve → ⊥
      page_never_none l e =
          split (leb (told - month_of s) limit)
          (λ q. split (leb 1_505 (length l))
          (λ r. refusal_kept (page_of l (leb-true _ _ q) (leb-true _ _ r)).written e)
          (λ r. other_ground (short_of (leb-true _ _ q) l (leb-false _ _ r)) e (λ n. omega (arith, n))))
          (λ q. other_ground (page_old (leb-false _ _ q) l) e (λ n. omega (arith, n)))

-- ---- a valuation of the book with this sheet's curves

module _ (told : ℕ) (s : List ℕ) (g : Sound told s) (limit : ℕ) (ht : told ≤ 2_399) (history : History) (fs : List Flow) where
  abbrev stood : Book
  stood = held told s g plain refl limit ht history

  abbrev its : Curve
  its = curve told s g plain refl

  worth_tells : BlockTells (λ y. (band_of plain s y).low) (λ y. (band_of plain s y).high) fs (value_on its fs)
  worth_tells =
      subst (λ (o : Outcome Curves). BlockTells (λ y. (band_in plain o y).low) (λ y. (band_in plain o y).high) fs (value_on its fs)) (sym (worked told s g))
      (subst (λ (k : Held Curve). BlockTells (λ y. (band_among k y).low) (λ y. (band_among k y).high) fs (value_on its fs))
      (sym (among told s g plain refl)) (block_tells (low_of its) (high_of its) fs))

  value_old : limit < told - month_of s → value stood fs ≡ refused age_above_limit
  value_old older = value_closed _ told _ fs (closed_held told s g plain refl limit ht history older)

  module _ (within : told - month_of s ≤ limit) where
    value_is : value stood fs ≡ dated_at (month_of s) (told - month_of s) (value_on its fs)
    value_is =
        value_open _ told _ fs its (open_held told s g plain refl limit ht history within) ∙ rw (month_is told s g plain refl) (go (value_on its fs))
      where
        go : (o : Outcome Pair) → (o >>= λ p. done (dated p (month_of s) (told - month_of s))) ≡ dated_at (month_of s) (told - month_of s) o
        go (refused x) = refl
        go (done p) = refl

    shows_of : (c : Count) → c.told ≡ told → Shows c s fs (value stood fs)
    shows_of c e =
        record {
          not_after_told = rw e g.1;
          worth = value_on its fs;
          worth_tells = worth_tells;
          found = rw e value_is;
          holds_true = λ p d n.
              (worth_tells.values_only p d).2.holds_exact (true_factor plain n (typed s)) (λ y h k. (band_of_lem told s g plain refl y h k).holds_true_factor n);
          bands = band_of_lem told s g plain refl;
        }

  -- a book that holds a curve never says that there is none
  value_never_none : value stood fs ≡ refused no_curve → ⊥
  value_never_none e =
      split (leb (told - month_of s) limit)
      (λ q. by_worth (value_on its fs) refl (sym (value_is (leb-true _ _ q)) ∙ e))
      (λ q. other_ground (value_old (leb-false _ _ q)) e (λ n. omega (arith, n)))
    where
      by_worth : (o : Outcome Pair) → value_on its fs ≡ o → dated_at (month_of s) (told - month_of s) o ≡ refused no_curve → ⊥
      by_worth (refused x) d e = other_ground {a = refused x} refl e (λ n. omega (arith, n, value_from_20 (low_of its) (high_of its) fs x d))
      by_worth (done p) d e = refusal_kept {a = done _} refl e

-- ---- demand 3

not_both : (b : Bool) → b ≡ true → not b ≡ true → ⊥
not_both true e h = subst T (sym h) tt
not_both false e h = subst T (sym e) tt

-- the sheet that stands is one, and does not carry the curve
other_carries : (w : Which) (s t : List ℕ) → carries w s ≡ false → some s ≡ some t → carries w t ≡ true → ⊥
other_carries w s t f e h = not_both (carries w s) (rw (some_injective e) h) (rw f)

module _ (limit told : ℕ) (m : told ≤ 2_399) (depth : ℕ) (w : Which) where
  -- the count of these posts not withdrawn, and its book
  abbrev count_with : List (List ℕ) → Count
  count_with ss = record { told = told; posts = ss; depth = depth }

  abbrev book_with : List (List ℕ) → Book
  book_with ss = book_of (min limit 2_399) (count_with ss)

  -- where the named curve is missing
  look_missing : (ss : List (List ℕ)) → named w (standing_of (latest ss)) ≡ none → missing w (latest ss) ≡ true →
      ((s : List ℕ) → Carries (count_with ss) w s → ⊥) → (v : Wanted) (y : ℕ) → LookTells limit (count_with ss) w v y (look_up (book_with ss) w v y)
  look_missing ss none_named gone carried v y =
      let k = named w (standing_of (latest ss)) in
      let u = sums_named w (standing_of (latest ss)) in
      let closed = closed_none k told (min limit 2_399) none_named in
      record {
        outside = λ n. shown_refused v u y (look_outside k told (min limit 2_399) y n);
        none_found = λ h k'. (λ e. gone, λ e. shown_refused v u y (look_closed k told (min limit 2_399) y closed h k'));
        finds = λ s e a h k x. absurd (carried s e);
        too_old = λ s e o h k. absurd (carried s e);
        no_high_rate = λ s e a h k x. absurd (carried s e);
      }

  page-missing : (ss : List (List ℕ)) → named w (standing_of (latest ss)) ≡ none → missing w (latest ss) ≡ true →
      ((s : List ℕ) → Carries (count_with ss) w s → ⊥) → (l : List ℕ) → PageTells limit (count_with ss) w l (page (book_with ss) w l)
  page-missing ss none_named gone carried l =
      let k = named w (standing_of (latest ss)) in
      let closed = page_closed k told (min limit 2_399) l (closed_none k told (min limit 2_399) none_named) in
      record {
        untouched = page_refused (book_with ss) w l;
        none_found = (λ e. gone, λ e. ap (λ (p : Paged). p.answer) closed);
        too_old = λ s e o. absurd (carried s e);
        too_short = λ s e a h. absurd (carried s e);
        writes = λ s e a h. absurd (carried s e);
        bands = λ s e a y h k. absurd (carried s e);
      }

  -- where the sheet that stands carries it
  module _ (s : List ℕ) (ss : List (List ℕ)) (g : Sound told s) (t : carries w s ≡ true) where
    abbrev history : History
    history = history_of (s ∷ ss) depth

    look_carried : (v : Wanted) (y : ℕ) → LookTells limit (count_with (s ∷ ss)) w v y (look_up (book_with (s ∷ ss)) w v y)
    look_carried v y =
        let look = look_up (book_with (s ∷ ss)) w v y in
        let factors = look_in (named w (standing_of (some s))) told (min limit 2_399) y in
        let u = sums_named w (standing_of (some s)) in
        record {
          outside = λ n. shown_refused v u y (look_outside (named w (standing_of (some s))) told (min limit 2_399) y n);
          none_found = λ h k.
              (λ e. absurd (look_never_none told s g w t limit m history y h k (was_refused v u y factors e)), λ e. absurd (not_both (carries w s) t e));
          finds = λ u e a h k exists.
              let same = some_injective e.0 in
              subst (λ x. Finds (count_with (s ∷ ss)) w v x y look) same
              (finds_of told s g w t limit m history (rw same a) y h k _ refl v (rw same exists));
          too_old = λ x e o h k. shown_refused v u y (look_old told s g w t limit m history (rw (some_injective e.0) o) y h k);
          no_high_rate = λ u e a h k none.
              let same = some_injective e.0 in
              look_unrated told s g w t limit m history (rw same a) y h k v (rw same none);
        }

    page_carried : (l : List ℕ) → PageTells limit (count_with (s ∷ ss)) w l (page (book_with (s ∷ ss)) w l)
    page_carried l =
        let paged = page (book_with (s ∷ ss)) w l in
        record {
          untouched = page_refused (book_with (s ∷ ss)) w l;
          none_found = (λ e. absurd (page_never_none told s g w t limit m history l e), λ e. absurd (not_both (carries w s) t e));
          too_old = λ u e o. page_old told s g w t limit m history (rw (some_injective e.0) o) l;
          too_short = λ u e a h. short_of told s g w t limit m history (rw (some_injective e.0) a) l h;
          writes = λ u e a h.
              let same = some_injective e.0 in
              subst (λ x. PageWritten l (month_of x) (told - month_of x) (band_of w x) paged) same (page_of told s g w t limit m history l (rw same a) h);
          bands = λ u e a y h k. subst (λ x. Band w x y (band_of w x y)) (some_injective e.0) (band_of_lem told s g w t y h k);
        }

  look_tells : (ss : List (List ℕ)) → AllSound told ss → (v : Wanted) (y : ℕ) → LookTells limit (count_with ss) w v y (look_up (book_with ss) w v y)
  look_tells [] g v y = look_missing [] refl refl (λ s e. none_not_some e.0) v y
  look_tells (s ∷ ss) g v y =
      split (carries w s)
      (λ t. look_carried s ss g.0 t v y)
      (λ f. look_missing (s ∷ ss) (not_named told s g.0 w f) (rw f) (λ u e. other_carries w s u f e.0 e.1) v y)

  page_tells : (ss : List (List ℕ)) → AllSound told ss → (l : List ℕ) → PageTells limit (count_with ss) w l (page (book_with ss) w l)
  page_tells [] g l = page-missing [] refl refl (λ s e. none_not_some e.0) l
  page_tells (s ∷ ss) g l =
      split (carries w s)
      (λ t. page_carried s ss g.0 t l)
      (λ f. page-missing (s ∷ ss) (not_named told s g.0 w f) (rw f) (λ u e. other_carries w s u f e.0 e.1) l)

value_tells : (limit told : ℕ) (m : told ≤ 2_399) (depth : ℕ) (fs : List Flow) (ss : List (List ℕ)) → AllSound told ss →
    ValueTells limit (count_with limit told m depth plain ss) fs (value (book_with limit told m depth plain ss) fs)
value_tells limit told m depth fs [] g =
    record {
      none_found = (λ e. refl, λ e. value_closed none told (min limit 2_399) fs refl);
      too_old = λ s e o. absurd (none_not_some e.0);
      shows = λ s e a. absurd (none_not_some e.0);
    }
value_tells limit told m depth fs (s ∷ ss) g =
    let history = history_of (s ∷ ss) depth in
    let c = count_with limit told m depth plain (s ∷ ss) in
    record {
      none_found = (λ e. absurd (value_never_none told s g.0 limit m history fs e), λ e. absurd (not_both true refl e));
      too_old = λ t e o. value_old told s g.0 limit m history fs (rw (some_injective e.0) o);
      shows = λ t e a.
          let same = some_injective e.0 in
          subst (λ x. Shows c x fs (value (book_with limit told m depth plain (s ∷ ss)) fs)) same
          (shows_of told s g.0 limit m history fs (rw same a) c refl);
    }

-- the book that any list of calls leaves is the one that its count stands for
pub sound_nothing : SoundCount nothing
sound_nothing = record { month = omega arith; sheets = tt; enough = omega arith; three = omega arith }

pub run_is : (limit : ℕ) (cs : List Call) → run limit cs ≡ book_of (min limit 2_399) (count cs)
run_is limit cs = steps (min limit 2_399) nothing sound_nothing cs

pub run_sound : (cs : List Call) → SoundCount (count cs)
run_sound cs = all_sound nothing sound_nothing cs

pub demand_3 : (limit : ℕ) (cs : List Call) → Demand3 limit cs
demand_3 limit cs (look_at w v y) =
    let c = count cs in
    let g = run_sound cs in
    rw (run_is limit cs) (look_tells limit c.told g.month c.depth w c.posts g.sheets v y)
demand_3 limit cs (page_into w l) =
    let c = count cs in
    let g = run_sound cs in
    rw (run_is limit cs) (page_tells limit c.told g.month c.depth w c.posts g.sheets l)
demand_3 limit cs (value_of fs) =
    let c = count cs in
    let g = run_sound cs in
    rw (run_is limit cs) (value_tells limit c.told g.month c.depth fs c.posts g.sheets)

-- every number of every book that calls can leave fits its bytes on the page
sheet_fits : (limit told : ℕ) (ss : List (List ℕ)) (depth : ℕ) → told ≤ 2_399 → AllSound told ss →
    FitsPage (book_of limit (record { told = told; posts = ss; depth = depth }))
sheet_fits limit told [] depth m g w c e = absurd (none_not_some e)
sheet_fits limit told (s ∷ ss) depth m g w c e =
    split (carries w s)
    (λ t. subst (CurveFits told) (some_injective (sym (named_is told s g.0 w t) ∙ e)) (fits told s g.0 w t m))
    (λ f. absurd (none_not_some (sym (not_named told s g.0 w f) ∙ e)))

pub run_fits : (limit : ℕ) (cs : List Call) → FitsPage (run limit cs)
run_fits limit cs =
    let c = count cs in
    let g = run_sound cs in
    rw (run_is limit cs) (sheet_fits (min limit 2_399) c.told c.posts c.depth g.month g.sheets)

-- ---- the sums of the book that any list of calls leaves

sheet_sums : (told : ℕ) (ss : List (List ℕ)) → AllSound told ss → (w : Which) →
    sums_named w (standing_of (latest ss)) ≡ sums_in_held (named w (standing_of (latest ss)))
sheet_sums told [] g w = refl
sheet_sums told (s ∷ ss) g w =
    let made = works_done s g.0.0 in
    let with-sums : standing_of (some s) ≡ some (with_sums made.0) = rw made.1 (ap some (worked_sums s made.1)) in
    rw with-sums (go w made.0)
  where
    go : (w : Which) (cs : Curves) → sums_named w (some (with_sums cs)) ≡ sums_in_held (curve_named w cs)
    go plain cs = refl
    go adjusted cs = refl

pub sums_kept : (limit : ℕ) (cs : List Call) → SumsKept limit cs
sums_kept limit cs w = let c = count cs in rw (run_is limit cs) (sheet_sums c.told c.posts (run_sound cs).sheets w)

-- ---- the count by the answers

seen_is : (limit : ℕ) (c : Count) → SoundCount c → (cs : List Call) → count_from c cs ≡ seen_from c (book_of limit c) cs
seen_is limit c g [] = refl
seen_is limit c g (d ∷ cs) = let m = moves limit c g d in rw (m.caller, m.book) (seen_is limit (counted c d) (sound c g d) cs)

pub count_is_last : (limit : ℕ) (cs : List Call) → CountIsLast limit cs
count_is_last limit cs = seen_is (min limit 2_399) nothing sound_nothing cs
