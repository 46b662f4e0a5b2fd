-- What is promised of the shift: the test says of a shift what is said of the sheet typed again with it, and the search finds the smallest that passes it.
use mathlib.Core.Path.{◌≡◌, ap, sym, subst, ◌∙◌}
use mathlib.Core.Bool.{Bool, true, false, false≢true}
use mathlib.Core.List.{List}
use mathlib.Core.Logic.{◌↔◌}
use Prim.Native.Nat.{ℕ, ◌+◌, ◌≤◌, ◌<◌}
use native.Mathlib.Omega.{arith}
use borrow.Author.Tests.{leb-true, le-leb, ltb-true, ltb-false}
use lib.Dec.{ltb}
use lib.IntN.{ℤ, pos, negsuc}
use lib.ListN.{length}
use lib.Signed.{◌≤ℤ◌}
use Rattle.fraction.specs.Rounding.{ceil_div}
use Rattle.method.specs.Grounds.{Ground, no_shift, Outcome, refused, done, ◌>>=◌}
use Rattle.method.specs.Sheet.{Numbers, read_sheet}
use Rattle.method.specs.Curve.{Curves, curves_of, answer_with, answer}
use Rattle.method.specs.Enclosure.{high_of}
use Rattle.method.proofs.Outcome.{split, both_true, refused_not_done, done_injective}
use Rattle.method.proofs.Offset.{offset_mono, offset_order, Place, place_of}
use Rattle.valuation.specs.Block.{Flow, block_checked, worth_of}
use Rattle.valuation.specs.Meaning.{Counted, RightTo, cost_of, SmallestCovering}
use Rattle.valuation.proofs.Checks.{all_right}
use Rattle.valuation.proofs.Sums.{cost_is}
use Rattle.valuation.proofs.Theorem.{smallest_covering, list_tells}
use Rattle.shift.specs.Shift.{shifted_rates, shifted, quotes_inside, high_at_most, meets, shift_at, shift_count, first_shift, shift_for}
use Rattle.shift.specs.Meaning.{retyped, Does, Smallest, ShiftTells}
use Rattle.shift.proofs.Search.{Found, Searched, found, failed, searched}
use Rattle.shift.proofs.Retyped.{retyped_inside, retyped_outside}

-- ---- the block's high

module _ (fs : List Flow) (target : ℕ) (cs : Curves) where
  high_is : worth_of true (high_of cs.plain) fs ≡ ceil_div (cost_of (high_of cs.plain) fs) 1_000_000_000
  high_is = ap (λ (n : ℕ). ceil_div n 1_000_000_000) (cost_is (high_of cs.plain) fs)

  covering : SmallestCovering (cost_of (high_of cs.plain) fs) (worth_of true (high_of cs.plain) fs)
  covering = subst (SmallestCovering (cost_of (high_of cs.plain) fs)) (sym high_is) (smallest_covering _)

  within_target : high_at_most fs target (done cs) ≡ true → worth_of true (high_of cs.plain) fs ≤ target
  within_target e = omega (arith, leb-true _ target e)

  -- whatever number covers the cost
  at_most : (high : ℕ) → SmallestCovering (cost_of (high_of cs.plain) fs) high → high ≤ target → high_at_most fs target (done cs) ≡ true
  at_most high c h = le-leb _ target (omega (arith, covering.smallest high c.no_less, h))

-- ---- the test and the sheet typed again

module _ (sheet : List ℕ) (fs : List Flow) (target : ℕ) (n : Numbers) (read : read_sheet sheet ≡ done n) where
  answer_is : (s : ℤ) → read_sheet (retyped s sheet) ≡ done (shifted s n) → answer (retyped s sheet) ≡ curves_of (shifted s n)
  unfolding answer_with
  answer_is s e = rw e

  module _ (s : ℤ) (from : negsuc 499 ≤ℤ s) (to : s ≤ℤ pos 500) where
    meets→does : meets fs target n s ≡ true → Does sheet fs target s
    unfolding meets
    meets→does e =
        let both = both_true (quotes_inside (shifted_rates s n.rates)) _ e in
        go (curves_of (shifted s n)) (answer_is s (retyped_inside s from to sheet n read both.0)) both.1
      where
        go : (o : Outcome Curves) → answer (retyped s sheet) ≡ o → high_at_most fs target o ≡ true → Does sheet fs target s
        go (refused g) e h = absurd (false≢true h)
        go (done cs) e h =
            record {
              from = from;
              to = to;
              curves = cs;
              passes = e;
              high = worth_of true (high_of cs.plain) fs;
              covers = covering fs target cs;
              within = within_target fs target cs h;
            }

    does→meets : Does sheet fs target s → meets fs target n s ≡ true
    unfolding meets answer_with
    does→meets d = split (quotes_inside (shifted_rates s n.rates)) inside outside
      where
        inside : quotes_inside (shifted_rates s n.rates) ≡ true → meets fs target n s ≡ true
        inside q =
            let worked : curves_of (shifted s n) ≡ done d.curves = sym (answer_is s (retyped_inside s from to sheet n read q)) ∙ d.passes in
            rw (q, worked) (at_most fs target d.curves d.high d.covers d.within)

        outside : quotes_inside (shifted_rates s n.rates) ≡ false → meets fs target n s ≡ true
        outside q =
            let (g, refusal) = retyped_outside s from to sheet n read q in
            absurd (refused_not_done (sym (ap (λ (o : Outcome Numbers). o >>= curves_of) refusal) ∙ d.passes))

  -- ---- the search

  abbrev does : ℤ → Bool
  does s = meets fs target n s

  -- a shift at its place
  does_at : (j : ℕ) → j < shift_count → does (shift_at j) ≡ true → Does sheet fs target (shift_at j)
  does_at j h e = meets→does (shift_at j) (offset_mono 499 0 j (omega arith)) (offset_mono 499 j 1_000 (omega arith)) e

  place : (s : ℤ) → Does sheet fs target s → Place 499 500 500 s
  place s d = place_of 499 499 500 (omega arith) s d.from d.to

  passes_at : (s : ℤ) (d : Does sheet fs target s) → does (shift_at (place s d).m) ≡ true
  passes_at s d = subst (λ (z : ℤ). does z ≡ true) (place s d).is_offset (does→meets s d.from d.to d)

  module _ (s : ℤ) (f : Found does 0 shift_count s) where
    -- no shift that does stands before it
    not_before_lem : (w : ℤ) (d : Does sheet fs target w) → f.j ≤ (place w d).m
    not_before_lem w d =
        split (ltb (place w d).m f.j)
        (λ p. absurd (false≢true (sym (f.earlier (place w d).m (omega arith) (ltb-true (place w d).m f.j p)) ∙ passes_at w d)))
        (λ p. ltb-false (place w d).m f.j p)

    found_smallest : Smallest (Does sheet fs target) s
    found_smallest =
        record {
          passes = subst (Does sheet fs target) (sym f.is) (does_at f.j (omega (arith, f.to)) f.passes);
          none_below = λ w d. rw (f.is, (place w d).is_offset) (offset_mono 499 f.j (place w d).m (not_before_lem w d));
        }

    found_only : (w : ℤ) → Smallest (Does sheet fs target) w → w ≡ s
    found_only w least =
        let d = least.passes in
        let below = least.none_below s found_smallest.passes in
        let after = offset_order 499 (place w d).m f.j (rw ((place w d).is_offset, f.is) at below) in
        let same : (place w d).m ≡ f.j = omega (arith, not_before_lem w d, after) in
        (place w d).is_offset ∙ ap shift_at same ∙ sym f.is

  none_does : ((m : ℕ) → 0 ≤ m → m < 0 + shift_count → does (shift_at m) ≡ false) → (s : ℤ) → Does sheet fs target s → ⊥
  none_does none s d =
      false≢true (sym (none (place s d).m (omega arith) (omega (arith, (place s d).greatest))) ∙ passes_at s d)

-- ---- the answer

module _ (sheet : List ℕ) (fs : List Flow) (target : ℕ) where
  pub sheet_fails : (g : Ground) → read_sheet sheet ≡ refused g → shift_for sheet fs target ≡ refused g
  unfolding shift_for
  sheet_fails g e = rw e

  pub list_fails : (n : Numbers) → read_sheet sheet ≡ done n → (g : Ground) → block_checked fs ≡ refused g → shift_for sheet fs target ≡ refused g
  unfolding shift_for
  list_fails n read g e = rw (read, e)

  pub searches : (n : Numbers) → read_sheet sheet ≡ done n → block_checked fs ≡ done tt →
      shift_for sheet fs target ≡ first_shift (meets fs target n) shift_count 0
  unfolding shift_for
  searches n read e = rw (read, e)

  module _ (n : Numbers) (read : read_sheet sheet ≡ done n) (count : Counted fs) (right : RightTo fs (length fs)) where
    search_is : shift_for sheet fs target ≡ first_shift (does sheet fs target n read) shift_count 0
    search_is = searches n read (all_right fs count right)

    abbrev Smallest-one : ℤ → Type 0
    Smallest-one s = Smallest (Does sheet fs target) s

    abbrev None : Type 0
    None = (s : ℤ) → Does sheet fs target s → ⊥

    module _ (s : ℤ) where
      shift_smallest : Searched (does sheet fs target n read) 0 shift_count → (shift_for sheet fs target ≡ done s) ↔ Smallest-one s
      shift_smallest (found w is f) = (
        λ e. subst Smallest-one (done_injective (sym (search_is ∙ is) ∙ e)) (found_smallest sheet fs target n read w f),
        λ least. search_is ∙ is ∙ ap done (sym (found_only sheet fs target n read w f s least)),
      )
      shift_smallest (failed is none) = (
        λ e. absurd (refused_not_done (sym (search_is ∙ is) ∙ e)),
        λ least. absurd (none_does sheet fs target n read none s least.passes),
      )

    shift_none : Searched (does sheet fs target n read) 0 shift_count → (shift_for sheet fs target ≡ refused no_shift) ↔ None
    shift_none (found w is f) =
        (λ e. absurd (refused_not_done (sym e ∙ search_is ∙ is)), λ none. absurd (none w (found_smallest sheet fs target n read w f).passes))
    shift_none (failed is none) = (λ e. none_does sheet fs target n read none, λ h. search_is ∙ is)

  pub shift_tells : ShiftTells sheet fs target (shift_for sheet fs target)
  shift_tells =
      record {
        sheet_refused = sheet_fails;
        list_refused = λ n read. list_tells fs _ (list_fails n read);
        smallest = λ n read count right s. shift_smallest n read count right s (searched _ shift_count 0);
        none = λ n read count right. shift_none n read count right (searched _ shift_count 0);
      }
