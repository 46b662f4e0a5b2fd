-- Not a digit changed where nothing new is asked for. Where the sheet's factor is 10% the curve is the one that the table's weights
-- give: so it is for a sheet without the phase-in's record, with 10,000 in it, or with a smoothing year's rate from 0.5% up. Where no volume
-- past 20 years is 0 the curve is the one that every quote gives. An adjustment leaves the plain curve as it is.
use mathlib.Core.Path.{◌≡◌, refl, ap, subst, ◌∙◌}
use mathlib.Core.Bool.{Bool, true, false}
use mathlib.Core.List.{List, ◌++◌}
use Prim.Native.Nat.{ℕ, ◌+◌, ◌-◌, ◌≤◌, ◌<◌}
use borrow.Author.Tests.{le-ltb, lt-ltb}
use lib.IntN.{ℤ, pos}
use lib.Dec.{ltb, lit≤, lit<}
use lib.ListN.{length, take, drop, get_or, replicate, length-drop}
use Rattle.fraction.specs.Rounding.{U}
use Rattle.method.specs.Units.{Pair, pair}
use Rattle.method.specs.Grounds.{Ground, Outcome, refused, done, ◌>>=◌}
use Rattle.method.specs.Sheet.{euro, smoothing_index, maturities, quoted_maturities, smoothing_year, names_profile, Layout, shortest, layout_of}
use Rattle.method.specs.Sheet.{Numbers, sheet_numbers, read_sheet}
use Rattle.method.specs.Quotes.{used, kept, Bootstrap, bootstrap, quotes_of, last_year}
use Rattle.method.specs.Ranges.{climbs}
use Rattle.method.specs.Series.{ultimate_forward}
use Rattle.method.specs.Table.{table}
use Rattle.method.specs.Extrapolation.{llfr, κ_pairs, extrapolate}
use Rattle.method.specs.Curve.{spread, gap_xs, liquid_of, forwards, factor_of, within_limit, extended_with}
use Rattle.method.specs.Curve.{Curve, Curves, none, curve_with, curve_of_with, curve_of, curves_of_with, curves_of, answer_with, answer}
use Rattle.method.specs.Earlier.{tabled_curve, every_quote_curve}
use Rattle.method.proofs.Outcome.{bind_assoc, bind_with}
use Rattle.method.proofs.Layouts.{layout_is, adjusts_by_record}
use Rattle.method.proofs.Reading.{read_passes}
use Rattle.method.proofs.Entries.{spelled_out}
use Rattle.method.proofs.QuotesLaws.{quotes_length}
use Rattle.method.proofs.QuotesBounds.{gaps_from, bootstrap-length}
use Rattle.method.proofs.Used.{kept_all, spread_all}
use Rattle.method.proofs.Weights.{weights_tabled}
use Rattle.method.proofs.Speed.{factor_plain, factor_high}

pub at_ten_percent : (n : Numbers) → factor_of n ≡ 10_000_000 → curve_of n ≡ tabled_curve n
unfolding curve_of_with tabled_curve extended_with
at_ten_percent n ten =
    bind_with (liquid_of n)
    λ b d.
    let years = b.factors in
    let κs = take (150 - length years) (κ_pairs table) in
    rw (ten, weights_tabled (150 - length years))
    (bind_assoc
    (extrapolate (ultimate_forward n.ultimate) (llfr n.volumes (forwards b)) κs (length years + 1) (last_year years))
    (λ later. within_limit n.limit (years ++ later))
    (λ years. done (curve_with n years)))

-- ---- no adjustment

-- one curve, and no other
abbrev pub alone : Curve → Curves
alone c = record { plain = c; adjusted = none }

-- without an adjustment the curves are the plain one, digit for digit, with its grounds
pub without_adjustment : (n : Numbers) → n.adjusts ≡ false → curves_of n ≡ (curve_of n >>= λ c. done (alone c))
unfolding curves_of_with
without_adjustment n e = rw e

-- another adjustment, or none
abbrev pub with_adjustment : Numbers → Bool → ℤ → Numbers
with_adjustment n adjusts a =
    record {
      profile = n.profile;
      month = n.month;
      rates = n.rates;
      volumes = n.volumes;
      ultimate = n.ultimate;
      limit = n.limit;
      phase_in = n.phase_in;
      adjusts = adjusts;
      adjustment = a;
    }

-- it has no say in the plain curve and its grounds
pub plain_untouched : (n : Numbers) (adjusts : Bool) (a : ℤ) → curve_of (with_adjustment n adjusts a) ≡ curve_of n
unfolding liquid_of curve_of_with extended_with factor_of
plain_untouched n adjusts a = refl

-- which come first
pub plain_first : (n : Numbers) {g : Ground} → curve_of n ≡ refused g → curves_of n ≡ refused g
unfolding curves_of_with
plain_first n e = rw e

-- ---- the euro, where no volume past 20 years is 0; the one at 20 may be

module _ (rates : List ℤ) (seventeen : length rates ≡ 17) (vs : List ℕ) (five : length vs ≡ 5)
    (traded : (i : ℕ) → 1 ≤ i → i < 5 → 0 < get_or vs i 0) where
  all_used : used 12 vs ≡ replicate 17 true
  unfolding used
  all_used =
      subst (λ (v : List ℕ). used 12 v ≡ replicate 17 true) (spelled_out 0 vs five)
      (rw (above 1 (lit≤ tt) (lit< tt), above 2 (lit≤ tt) (lit< tt), above 3 (lit≤ tt) (lit< tt), above 4 (lit≤ tt) (lit< tt)) refl)
    where
      above : (i : ℕ) → 1 ≤ i → i < 5 → ltb 0 (get_or vs i 0) ≡ true
      above i h k = lt-ltb 0 _ (traded i h k)

  every_quote : kept (used 12 vs) (quotes_of (quoted_maturities euro) rates) ≡ quotes_of maturities rates
  unfolding maturities quoted_maturities
  every_quote =
      let quotes = quotes_of maturities rates in
      let many : length quotes ≡ 17 = quotes_length maturities rates seventeen in
      rw all_used (subst (λ (k : ℕ). kept (replicate k true) quotes ≡ quotes) many (kept_all quotes))

  -- five gaps, each a stretch's own
  own_gaps : (xs : List Pair) → length xs ≡ 5 → spread (pair U U) (drop 12 (used 12 vs)) xs ≡ xs
  own_gaps xs many = rw all_used (subst (λ (k : ℕ). spread (pair U U) (replicate k true) xs ≡ xs) many (spread_all (pair U U) xs))

  seven_gaps : {b : Bootstrap} → bootstrap (quotes_of maturities rates) ≡ done b → length (drop 2 b.yearly_factors) ≡ 5
  unfolding maturities climbs gaps_from
  seven_gaps {b} d =
      let gaps = (bootstrap-length maturities rates seventeen refl d).1 in
      length-drop 2 b.yearly_factors ∙ ap (λ (k : ℕ). k - 2) gaps

module _ (n : Numbers) (is : n.profile ≡ euro) (seventeen : length n.rates ≡ 17) (five : length n.volumes ≡ 5)
    (traded : (i : ℕ) → 1 ≤ i → i < 5 → 0 < get_or n.volumes i 0) where
  abbrev every : Outcome Bootstrap
  every = bootstrap (quotes_of maturities n.rates)

  liquid_is : liquid_of n ≡ (every >>= λ b. done (record { factors = take 20 b.factors; yearly_factors = drop 2 b.yearly_factors }))
  unfolding liquid_of gap_xs maturities smoothing_year
  liquid_is =
      rw (is, every_quote n.rates seventeen n.volumes five traded)
      (bind_with every
      λ b d.
      let xs = drop 2 b.yearly_factors in
      let own = own_gaps n.rates seventeen n.volumes five traded xs (seven_gaps n.rates seventeen n.volumes five traded d) in
      ap (λ (ys : List Pair). done (record { factors = take 20 b.factors; yearly_factors = ys })) own)

  pub same_without_zeros : curve_of n ≡ every_quote_curve n
  unfolding curve_of_with every_quote_curve
  same_without_zeros = rw liquid_is (bind_assoc every _ _)

-- ---- a sheet of up to 109 bytes that names no profile

module _ (s : List ℕ) (h : length s ≤ 109) (unnamed : names_profile s ≡ false) where
  neither : layout_of s ≡ shortest false euro
  neither = rw (layout_is s, unnamed, le-ltb 109 (length s) h)

  pub without_record : factor_of (sheet_numbers s) ≡ 10_000_000
  unfolding factor_of
  without_record = rw neither (factor_plain _)

  -- so it has the answer that the table gives, and no other curve
  pub earlier_answer_lem : answer s ≡ (read_sheet s >>= λ n. tabled_curve n >>= λ c. done (alone c))
  unfolding answer_with
  earlier_answer_lem =
      bind_with (read_sheet s)
      λ n e.
      let numbers = (read_passes s n e).numbers in
      without_adjustment n (subst (λ (m : Numbers). m.adjusts ≡ false) numbers (adjusts_by_record s ∙ ap (λ (l : Layout). l.adjusts) neither))
      ∙ ap (λ (o : Outcome Curve). o >>= λ c. done (alone c))
      (at_ten_percent n (subst (λ (m : Numbers). factor_of m ≡ 10_000_000) numbers without_record))

-- ---- and any sheet whose factor is 10%

pub with_10000 : (n : Numbers) → n.phase_in ≡ 10_000 → factor_of n ≡ 10_000_000
unfolding factor_of
with_10000 n e = rw e (factor_plain _)

pub from_half_percent : (n : Numbers) (r : ℕ) → get_or n.rates (smoothing_index n.profile) (pos 0) ≡ pos r → 500 ≤ r → factor_of n ≡ 10_000_000
unfolding factor_of
from_half_percent n r e h = rw e (factor_high n.phase_in r h)
