-- The loop over the years after the start: what is left, put after the years that are written, is the whole extrapolation.
use mathlib.Core.Path.{◌≡◌, refl, sym, ap, ◌∙◌}
use mathlib.Core.List.{List, [], ◌∷◌, ◌++◌, append-nil}
use Prim.Native.Nat.{ℕ, suc, ◌+◌, ◌-◌, ◌≤◌, ◌<◌}
use native.Mathlib.Numerals.{add-one}
use native.Mathlib.Omega.{arith}
use borrow.Author.Count.{below_more}
use lib.ListN.{length, get_or, take, drop, set, length-set, length-drop, drop_of_length-le}
use lib.Seq.{take_all, take-set-le, take-suc-set, drop-cons, drop-set-add, get_or-set_same, get_or-set_other}
use lib.Signed.{◌≤ℤ◌}
use Rattle.method.specs.Units.{Pair, pair, SignedPair}
use Rattle.method.specs.Grounds.{high_above_limit, Outcome, refused, done}
use Rattle.method.specs.Quotes.{highest_factor}
use Rattle.method.specs.Extrapolation.{forward, step, extrapolate}
use Rattle.method.proofs.ExtrapolationLaws as laws
use Rattle.method.proofs.ExtrapolationLaws.{after, after_none, after-after, step_ordered, forward_ordered}
use Rattle.method.proofs.Zips.{zip_set, zip_length}
use Rattle.extrapolation.specs.Extrapolated.{Years}
use Rattle.extrapolation.specs.Extrapolated.{as_years, factor_at, InRange, Ahead, Kept}

-- ---- a year

module _ (l f : SignedPair) (κs : List Pair) (start : ℕ) where
  abbrev pub κ : ℕ → Pair
  κ i = get_or κs i (pair 0 0)

  -- the year of index start + i after p
  abbrev pub next : ℕ → Pair → Pair
  next i p = step (forward l f (κ i)) p

  -- the years from that index on
  abbrev left : ℕ → Pair → Outcome (List Pair)
  left i p = extrapolate l f (drop i κs) (start + i + 1) p

  -- ---- from the years as they came to those written up to index start + i, the last of which is p

  abbrev written : Years → ℕ → List Pair
  written y i = take i (drop start (as_years y))

  pub record Reached (came y : Years) (p : Pair) (i : ℕ) : Type 0 where
    pub turns : i ≤ length κs
    pub lows_length : length y.lows ≡ 150
    pub highs_length : length y.highs ≡ 150
    pub quoted_lows : take start y.lows ≡ take start came.lows
    pub quoted_highs : take start y.highs ≡ take start came.highs
    pub current : InRange p
    pub in_range : (j : ℕ) → j < start + i → start ≤ j → InRange (factor_at y j)
    pub whole : left 0 (factor_at came (start - 1)) ≡ after (written y i) (left i p)

  pub at_start : (y : Years) → length y.lows ≡ 150 → length y.highs ≡ 150 → InRange (factor_at y (start - 1)) →
      Reached y y (factor_at y (start - 1)) 0
  at_start y hl hh r =
      record {
        turns = omega arith;
        lows_length = hl;
        highs_length = hh;
        quoted_lows = refl;
        quoted_highs = refl;
        current = r;
        in_range = λ j a b. absurd (omega arith);
        whole = sym (after_none (left 0 (factor_at y (start - 1))));
      }

  -- the definition's, from the first year on
  pub whole_is : (came : Years) → extrapolate l f κs (start + 1) (factor_at came (start - 1)) ≡ left 0 (factor_at came (start - 1))
  whole_is came = let none : start + 0 ≡ start = omega arith in rw none

-- ---- one year, where κ reaches to the last

module _ (l f : SignedPair) {κs : List Pair} {start : ℕ} (ahead : Ahead κs start) where
  module _ (i : ℕ) (h : i < length κs) (p : Pair) where
    abbrev others : List Pair
    others = drop (suc i) κs

    abbrev weight : Pair
    weight = κ l f κs start i

    abbrev here : Pair
    here = next l f κs start i p

    cut : drop i κs ≡ weight ∷ others
    cut = drop-cons κs i (pair 0 0) h

    year_worked : here.high ≤ highest_factor → left l f κs start i p ≡ after (here ∷ []) (left l f κs start (i + 1) here)
    year_worked m =
        let n : start + (i + 1) + 1 ≡ start + i + 1 + 1 = omega arith in
        rw (cut, n, add-one i) (laws.year_worked l f weight others (start + i + 1) p m)

    year_refused : highest_factor < here.high → left l f κs start i p ≡ refused (high_above_limit (start + i + 1))
    year_refused m = rw cut (laws.year_refused l f weight others (start + i + 1) p m)

    next_ordered : l.low ≤ℤ l.high → f.low ≤ℤ f.high → p.low ≤ p.high → here.low ≤ here.high
    next_ordered ol of op =
        let w = ahead.ranges i h in
        step_ordered (forward l f weight) p (forward_ordered l f weight w.ordered w.at_most_U ol of) op

  none_left : (i : ℕ) → length κs ≤ i → (p : Pair) → left l f κs start i p ≡ done []
  none_left i h p = rw (drop_of_length-le κs {i = i} h) (laws.no_year_lem l f (start + i + 1) p)

module _ {l f : SignedPair} {κs : List Pair} {start : ℕ} (ahead : Ahead κs start) {came y : Years} {p : Pair} {i : ℕ}
    (d : Reached l f κs start came y p i) where
  abbrev whole : Outcome (List Pair)
  whole = extrapolate l f κs (start + 1) (factor_at came (start - 1))

  years_length : length (drop start (as_years y)) ≡ length κs
  years_length = rw (length-drop start (as_years y), zip_length pair y.lows y.highs (omega arith), d.lows_length) (omega arith)

  pub at_refusal : {q : Pair} → i < length κs → q ≡ next l f κs start i p → highest_factor < q.high →
      whole ≡ refused (high_above_limit (start + i + 1))
  at_refusal h e m =
      whole_is l f κs start came
      ∙ d.whole
      ∙ ap (after (written l f κs start y i)) (year_refused l f ahead i h p (rw (← e) m))

  pub at_end_lem : length κs ≤ i → whole ≡ done (drop start (as_years y))
  at_end_lem h =
      whole_is l f κs start came
      ∙ d.whole
      ∙ rw (none_left l f ahead i h p, take_all i (drop start (as_years y)) (rw years_length h))
      (ap done (append-nil (drop start (as_years y))))

  pub kept_worked : length κs ≤ i → Kept start came y
  kept_worked h =
      record {
        quoted_lows = d.quoted_lows;
        quoted_highs = d.quoted_highs;
        worked_in_range = λ j a b. d.in_range j (omega arith) a;
      }

  -- the year is worked, and written
  module _ {q : Pair} (h : i < length κs) (e : q ≡ next l f κs start i p) (m : q.high ≤ highest_factor)
      (ol : l.low ≤ℤ l.high) (of : f.low ≤ℤ f.high) where
    abbrev later : Years
    later = record { lows = set y.lows (start + i) q.low; highs = set y.highs (start + i) q.high }

    pub ranged : InRange q
    ranged = record { ordered = rw e (next_ordered l f ahead i h p ol of d.current.ordered); at_most = m }

    at_written : factor_at later (start + i) ≡ q
    at_written = rw (get_or-set_same y.lows (start + i) q.low 0 (omega arith), get_or-set_same y.highs (start + i) q.high 0 (omega arith))

    elsewhere : (j : ℕ) → j < start + i → factor_at later j ≡ factor_at y j
    elsewhere j k =
        rw (
          get_or-set_other y.lows (start + i) j q.low 0 (λ e. omega arith),
          get_or-set_other y.highs (start + i) j q.high 0 (λ e. omega arith),
        )

    one_more : written l f κs start later (i + 1) ≡ written l f κs start y i ++ (q ∷ [])
    one_more =
        rw (zip_set pair y.lows y.highs (start + i) q.low q.high, drop-set-add start (as_years y) i q, add-one)
        (take-suc-set (drop start (as_years y)) i q (rw years_length h))

    pub after_year : Reached l f κs start came later q (i + 1)
    after_year =
        let before = written l f κs start y i in
        let here = next l f κs start i p in
        record {
          turns = omega arith;
          lows_length = simp length-set d.lows_length;
          highs_length = simp length-set d.highs_length;
          quoted_lows = take-set-le start y.lows (start + i) q.low (omega arith) ∙ d.quoted_lows;
          quoted_highs = take-set-le start y.highs (start + i) q.high (omega arith) ∙ d.quoted_highs;
          current = ranged;
          in_range = λ j a.
              below_more (λ (k : ℕ). start ≤ k → InRange (factor_at later k)) (start + i)
              (λ k b c. rw (elsewhere k b) (d.in_range k b c))
              (λ b. rw at_written ranged)
              j
              (omega arith);
          whole =
              d.whole
              ∙ ap (after before) (year_worked l f ahead i h p (rw (← e) m))
              ∙ after-after before (here ∷ []) (left l f κs start (i + 1) here)
              ∙ rw (one_more, e);
        }
