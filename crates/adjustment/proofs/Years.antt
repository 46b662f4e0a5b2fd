-- The loop over the years to 20: what is left, put after the years that are written, is the whole adjustment.
use mathlib.Core.Path.{◌≡◌, refl, sym, ap, ◌∙◌}
use mathlib.Core.Logic.{◌≢◌}
use mathlib.Core.List.{List, [], ◌∷◌, ◌++◌, append-nil}
use Prim.Native.Nat.{ℕ, suc, ◌+◌, ◌≤◌, ◌<◌}
use native.Mathlib.Numerals.{add-one}
use native.Mathlib.Omega.{arith}
use borrow.Author.Count.{below_more}
use lib.IntN.{ℤ}
use lib.ListN.{length, take, drop, set, length-set, length-take, drop_of_length-le}
use lib.Seq.{take-suc-set, drop-cons, get_or-take, get_or-set_same, get_or-set_other}
use lib.Signed.{≤ℤ_refl}
use Rattle.method.specs.Units.{Pair, pair, signed_pair}
use Rattle.method.specs.Grounds.{high_above_limit, Outcome, refused, done}
use Rattle.method.specs.Quotes.{highest_factor}
use Rattle.method.specs.Extrapolation.{billionths, steps, adjusted_years}
use Rattle.method.proofs.ExtrapolationLaws.{after, after-after, adjusted_worked, adjusted_refused, none_adjusted, steps_ordered}
use Rattle.method.proofs.Zips.{zip_set, zip_length, zip_at}
use Rattle.std.specs.declared.result.Result.TheVariants.{Ok, Err}
use Rattle.grounds.specs.declared.Ground.TheVariants.{HighAboveLimit}
use Rattle.extrapolation.specs.Extrapolated.{Years}
use Rattle.extrapolation.specs.Extrapolated.{as_years, factor_at, InRange}
use Rattle.adjustment.specs.Adjusting.{Adjusts}

module _ (a : ℤ) (came : Years) where
  abbrev first : List Pair
  first = take 20 (as_years came)

  -- year i + 1, adjusted
  abbrev pub next : ℕ → Pair
  next i = steps (signed_pair (billionths a) (billionths a)) (i + 1) (factor_at came i)

  -- the years from index i on
  abbrev left : ℕ → Outcome (List Pair)
  left i = adjusted_years a (i + 1) (drop i first)

  pub record Reached (y : Years) (i : ℕ) : Type 0 where
    pub turns : i ≤ 20
    pub came_lows : length came.lows ≡ 150
    pub came_highs : length came.highs ≡ 150
    pub lows_length : length y.lows ≡ 150
    pub highs_length : length y.highs ≡ 150
    pub in_range : (j : ℕ) → j < i → InRange (factor_at y j)
    pub ahead : (j : ℕ) → i ≤ j → factor_at y j ≡ factor_at came j
    pub whole : left 0 ≡ after (take i (as_years y)) (left i)

  pub next_ordered : (i : ℕ) → InRange (factor_at came i) → (next i).low ≤ (next i).high
  next_ordered i r = steps_ordered (signed_pair (billionths a) (billionths a)) (i + 1) (factor_at came i) (≤ℤ_refl (billionths a)) r.ordered

  module _ {y : Years} {i : ℕ} (d : Reached y i) where
    first-length : length first ≡ 20
    first-length = rw (length-take, zip_length pair came.lows came.highs (omega (arith, d.came_lows, d.came_highs))) (omega (arith, d.came_lows))

    cut : i < 20 → drop i first ≡ factor_at came i ∷ drop (suc i) first
    cut h =
        let same : length came.lows ≡ length came.highs = omega (arith, d.came_lows, d.came_highs) in
        rw (drop-cons first i (pair 0 0) (rw first-length h), get_or-take, zip_at pair came.lows came.highs i 0 0 same)

    pub at_refusal : i < 20 → highest_factor < (next i).high → Adjusts a came (Err (HighAboveLimit (i + 1)))
    at_refusal h m =
        let here : left i ≡ refused (high_above_limit (i + 1)) = rw (cut h) (adjusted_refused a (factor_at came i) (drop (suc i) first) (i + 1) m) in
        record { outcome = sym (d.whole ∙ ap (after (take i (as_years y))) here); in_range = tt }

    pub at_end_lem : 20 ≤ i → Adjusts a came (Ok y)
    at_end_lem h =
        let n : i ≡ 20 = omega arith in
        let gone : drop 20 first ≡ [] = drop_of_length-le first {i = 20} (rw first-length (omega arith)) in
        record {
          outcome = sym (rw (n, gone, none_adjusted a 21) at d.whole ∙ ap done (append-nil (take 20 (as_years y))));
          in_range = λ j k. d.in_range j (omega arith);
        }

    -- the year is worked, and written
    module _ {q : Pair} (h : i < 20) (e : q ≡ next i) (m : q.high ≤ highest_factor) (r : InRange (factor_at came i)) where
      abbrev later : Years
      later = record { lows = set y.lows i q.low; highs = set y.highs i q.high }

      ranged : InRange q
      ranged = record { ordered = rw e (next_ordered i r); at_most = m }

      at_written : factor_at later i ≡ q
      at_written =
          rw (get_or-set_same y.lows i q.low 0 (omega (arith, d.lows_length)))
          (rw (get_or-set_same y.highs i q.high 0 (omega (arith, d.highs_length))) refl)

      elsewhere : (j : ℕ) → j ≢ i → factor_at later j ≡ factor_at y j
      elsewhere j k = rw (get_or-set_other y.lows i j q.low 0 k, get_or-set_other y.highs i j q.high 0 k)

      years_length : length (as_years y) ≡ 150
      years_length = zip_length pair y.lows y.highs (omega (arith, d.lows_length, d.highs_length)) ∙ d.lows_length

      one_more : take (i + 1) (as_years later) ≡ take i (as_years y) ++ (q ∷ [])
      one_more =
          rw (zip_set pair y.lows y.highs i q.low q.high, add-one)
          (take-suc-set (as_years y) i q (rw years_length (omega arith)))

      here : left i ≡ after (next i ∷ []) (left (i + 1))
      here = rw (cut h, ap (λ (k : ℕ). drop k first) (add-one i)) (adjusted_worked a (factor_at came i) (drop (suc i) first) (i + 1) (rw (← e) m))

      pub after_year : Reached later (i + 1)
      after_year =
          record {
            turns = omega arith;
            came_lows = d.came_lows;
            came_highs = d.came_highs;
            lows_length = length-set y.lows i q.low ∙ d.lows_length;
            highs_length = length-set y.highs i q.high ∙ d.highs_length;
            in_range = λ j k.
                below_more (λ (n : ℕ). InRange (factor_at later n)) i (λ n b. rw (elsewhere n (λ e. omega arith)) (d.in_range n b)) (rw at_written ranged) j k;
            ahead = λ j k. elsewhere j (λ e. omega arith) ∙ d.ahead j (omega arith);
            whole =
                d.whole
                ∙ ap (after (take i (as_years y))) here
                ∙ after-after (take i (as_years y)) (next i ∷ []) (left (i + 1))
                ∙ rw (one_more, e);
          }
