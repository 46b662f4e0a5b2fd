-- What a liquid part's invariant tells, and that it holds with a year or a gap more.
use mathlib.Core.Path.{◌≡◌, refl, sym, ap, ◌∙◌}
use mathlib.Core.List.{List, [], ◌∷◌, ◌++◌, map, map-append}
use Prim.Native.Nat.{ℕ, suc, ◌+◌, ◌≤◌, ◌<◌}
use native.Mathlib.Numerals.{add-one}
use native.Mathlib.Omega.{arith}
use borrow.Author.Count.{below_more}
use lib.ListN.{length, get_or, take, set, length-set, length-map}
use lib.Seq.{get_or-take, get_or-set_same, get_or-set_other, length-take-le, take-suc-set}
use Rattle.method.specs.Units as method
use Rattle.method.specs.Units.{pair, pairs_of}
use Rattle.method.specs.Quotes.{annuity}
use Rattle.method.specs.Ranges.{Each, none, more, Factor}
use Rattle.method.proofs.QuotesLaws.{annuity_more}
use Rattle.method.proofs.QuotesBounds.{annuity_ordered, annuity_at_most}
use Rattle.method.proofs.Zips.{zip_next, zip_first, zip_at}
use Rattle.rounding.specs.Pairs.{Pair, as_pair, PairAtMost}
use Rattle.bootstrap.specs.declared.Liquid.{Liquid}
use Rattle.bootstrap.specs.Sound.{Sound}
use Rattle.bootstrap.specs.Liquids.{as_bootstrap}

-- by the entry at every index
each_from : {P : method.Pair → Type 0} (ps : List method.Pair) (d : method.Pair) → ((i : ℕ) → i < length ps → P (get_or ps i d)) → Each P ps
each_from [] d all = none
each_from (p ∷ ps) d all = more (all 0 (omega arith)) (each_from ps d (λ i h. all (suc i) (omega (arith, h))))

module _ (w : Liquid) where
  pub same_length : length w.lows ≡ length w.highs
  same_length = w.sound.long_lows ∙ sym w.sound.long_highs

  pub count_is : length (as_bootstrap w).factors ≡ w.count
  count_is = zip_first pair w.lows w.highs w.count same_length (omega (arith, w.sound.long_lows, w.sound.within))

  pub gaps_is : length (as_bootstrap w).yearly_factors ≡ w.gaps
  gaps_is = length-map (take w.gaps w.xs) as_pair ∙ length-take-le w.gaps w.xs (omega (arith, w.sound.long_xs, w.sound.gaps_within))

  -- an entry among the first
  pub factor_is : (i : ℕ) (d : ℕ) → i < w.count → get_or (as_bootstrap w).factors i (pair d d) ≡ pair (get_or w.lows i d) (get_or w.highs i d)
  factor_is i d h =
      let lows = take w.count w.lows in
      let highs = take w.count w.highs in
      let same : length lows ≡ length highs =
      length-take-le w.count w.lows (omega (arith, w.sound.within, w.sound.long_lows))
      ∙ sym (length-take-le w.count w.highs (omega (arith, w.sound.within, w.sound.long_highs))) in
      zip_at pair lows highs i d d same ∙ rw (get_or-take w.count w.lows i d h, get_or-take w.count w.highs i d h) refl

  pub factors : Each Factor (as_bootstrap w).factors
  factors =
      each_from (as_bootstrap w).factors (pair 0 0) (λ i h.
      let early : i < w.count = omega (arith, h, count_is) in
      rw (factor_is i 0 early) (w.sound.factors i early))

  pub annuity_small : PairAtMost 100_000_000_000 w.annuity
  annuity_small =
      let low : w.annuity.low ≡ (annuity (as_bootstrap w).factors).low = ap (λ (p : method.Pair). p.low) w.sound.sums in
      let high : w.annuity.high ≡ (annuity (as_bootstrap w).factors).high = ap (λ (p : method.Pair). p.high) w.sound.sums in
      let most : (annuity (as_bootstrap w).factors).high ≤ 100_000_000_000 = omega (arith, annuity_at_most factors, count_is, w.sound.within) in
      record { low = omega (arith, low, annuity_ordered factors, most); high = omega (arith, high, most) }

  -- ---- a year more

  module _ (low high : ℕ) (room : w.count < 50) (factor : Factor (pair low high)) where
    abbrev lows : List ℕ
    lows = set w.lows w.count low

    abbrev highs : List ℕ
    highs = set w.highs w.count high

    pub factors_more : pairs_of (take (w.count + 1) lows) (take (w.count + 1) highs) ≡ (as_bootstrap w).factors ++ pair low high ∷ []
    factors_more = zip_next pair w.lows w.highs w.count low high same_length (omega (arith, w.sound.long_lows))

    elsewhere : (i : ℕ) → i < w.count → pair (get_or lows i 0) (get_or highs i 0) ≡ pair (get_or w.lows i 0) (get_or w.highs i 0)
    elsewhere i h = rw (get_or-set_other w.lows w.count i low 0 (λ e. omega arith), get_or-set_other w.highs w.count i high 0 (λ e. omega arith))

    written : pair (get_or lows w.count 0) (get_or highs w.count 0) ≡ pair low high
    written =
        rw (
          get_or-set_same w.lows w.count low 0 (omega (arith, w.sound.long_lows)),
          get_or-set_same w.highs w.count high 0 (omega (arith, w.sound.long_highs)),
        )

    pub year_sound : Sound lows highs (w.count + 1) (record { low = w.annuity.low + low; high = w.annuity.high + high }) w.xs w.gaps
    year_sound =
        record {
          long_lows = length-set w.lows w.count low ∙ w.sound.long_lows;
          long_highs = length-set w.highs w.count high ∙ w.sound.long_highs;
          within = omega arith;
          sums =
              ap (λ (p : method.Pair). pair (p.low + low) (p.high + high)) w.sound.sums ∙
              sym (annuity_more (as_bootstrap w).factors (pair low high)) ∙
              ap annuity (sym factors_more);
          factors =
              λ i h.
              below_more (λ (n : ℕ). Factor (pair (get_or lows n 0) (get_or highs n 0))) w.count
              (λ n b. rw (elsewhere n b) (w.sound.factors n b)) (rw written factor) i h;
          long_xs = w.sound.long_xs;
          gaps_within = w.sound.gaps_within;
        }

  -- ---- a gap more

  module _ (x : Pair) (room : w.gaps < 7) where
    abbrev xs : List Pair
    xs = set w.xs w.gaps x

    pub gaps_more : map as_pair (take (w.gaps + 1) xs) ≡ (as_bootstrap w).yearly_factors ++ as_pair x ∷ []
    gaps_more =
        rw (add-one w.gaps, take-suc-set w.xs w.gaps x (omega (arith, w.sound.long_xs)))
        (map-append as_pair (take w.gaps w.xs) (x ∷ []))

    pub gap_sound : Sound w.lows w.highs w.count w.annuity xs (w.gaps + 1)
    gap_sound =
        record {
          long_lows = w.sound.long_lows;
          long_highs = w.sound.long_highs;
          within = w.sound.within;
          sums = w.sound.sums;
          factors = w.sound.factors;
          long_xs = length-set w.xs w.gaps x ∙ w.sound.long_xs;
          gaps_within = omega arith;
        }
