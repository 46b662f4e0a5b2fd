-- Where the growth passes the bound, the definitions' halvings stop.
use Rattle.std.proofs.Common.{◌≡◌, ℕ, ◌+◌, ◌-◌, ◌*◌, ◌/◌, ◌<◌, ◌≤◌, true, false, not, leb, sym, ap, ◌∙◌, le-div_iff_mul-le}
use Rattle.std.proofs.Common.{arith, le-leb, leb-false, leb-true}
use borrow.Author.Tests.{lt-leb, not-true, not-false}
use Rattle.method.specs.Units.{Pair, pair}
use Rattle.method.specs.Grounds.{no_high_rate, refused}
use Rattle.method.proofs.Outcome.{split}
use Rattle.method.proofs.HalvingLaws.{halve_is}
use Rattle.zero_rates.specs.Rates.{compound, stays_below, reaches, low_multiplier, high_multiplier, greatest_multiplier, zero_rates}
use Rattle.zero_rates.proofs.Search.{stays_falls, misses_falls, reaches_rises}
use Rattle.rate_search.specs.Search.{unit_squared, within, Turns}

-- ---- a product against U × U is a factor against a quotient

same_test : (a b c d : ℕ) → (a ≤ b → c ≤ d) → (c ≤ d → a ≤ b) → leb a b ≡ leb c d
same_test a b c d to from =
    split (leb a b) (λ q. q ∙ sym (le-leb c d (to (leb-true a b q))))
    (λ q. split (leb c d) (λ r. absurd (omega (arith, leb-false a b q, from (leb-true c d r)))) (λ r. q ∙ sym r))

pub stays_within : (t high m : ℕ) → 0 < high → stays_below t high m ≡ within true t (unit_squared / high) m
unfolding stays_below
stays_within t high m h =
    let g = compound true m t in
    same_test (high * g) unit_squared g (unit_squared / high)
    (λ l. (le-div_iff_mul-le h).1 (omega arith)) (λ l. let k = (le-div_iff_mul-le h).0 l in omega arith)

pub misses_within : (t low m : ℕ) → 0 < low → not (reaches t low m) ≡ within false t ((unit_squared - 1) / low) m
unfolding reaches
misses_within t low m h =
    let g = compound false m t in
    split (leb unit_squared (low * g))
    (λ q. rw q (sym (lt-leb g ((unit_squared - 1) / low) (past (leb-true _ _ q)))))
    (λ q. rw q (sym (le-leb g ((unit_squared - 1) / low) ((le-div_iff_mul-le h).1 (omega (arith, leb-false unit_squared (low * g) q))))))
  where
    past : unit_squared ≤ low * compound false m t → (unit_squared - 1) / low < compound false m t
    past l =
        let g = compound false m t in
        let no : g ≤ (unit_squared - 1) / low → ⊥ = λ k. let z = (le-div_iff_mul-le h).0 k in omega arith in
        omega (arith, no)

-- ---- the low multiplier

pub low_is : (t high m : ℕ) → 0 < high → Turns true t (unit_squared / high) 50_000 200_001 m → m ≡ low_multiplier t high
unfolding low_multiplier
low_is t high m h turns =
    ap (λ (p : Pair). p.low)
    (sym (halve_is (stays_below t high) (stays_falls t high) 50_000 200_001 (omega arith) m
    turns.between.from turns.between.below
    (λ l. stays_within t high m h ∙ turns.here l) (λ l. stays_within t high (m + 1) h ∙ turns.next l)))

-- every multiplier keeps 0 below
pub low_of-zero : (t : ℕ) → 200_000 ≡ low_multiplier t 0
unfolding low_multiplier stays_below
low_of-zero t =
    ap (λ (p : Pair). p.low)
    (sym (halve_is (stays_below t 0) (stays_falls t 0) 50_000 200_001 (omega arith) 200_000 (omega arith) (omega arith)
    (λ l. le-leb (0 * compound true 200_000 t) unit_squared (omega arith)) (λ l. absurd (omega arith))))

-- ---- the high one, where there is one

-- no growth makes 0 large
pub none_of_zero : (t high : ℕ) → zero_rates t (pair 0 high) ≡ refused no_high_rate
unfolding reaches
none_of_zero t high = rw (lt-leb unit_squared (0 * compound false greatest_multiplier t) (omega arith))

module _ (t low m : ℕ) (h : 0 < low) (turns : Turns false t ((unit_squared - 1) / low) 49_999 200_001 m) where
  misses : 49_999 < m → not (reaches t low m) ≡ true
  misses l = misses_within t low m h ∙ turns.here l

  next_reaches : m + 1 < 200_001 → not (reaches t low (m + 1)) ≡ false
  next_reaches l = misses_within t low (m + 1) h ∙ turns.next l

  -- the greatest misses
  pub high_none : 200_000 ≤ m → (high : ℕ) → zero_rates t (pair low high) ≡ refused no_high_rate
  high_none l high =
      let last : m ≡ 200_000 = omega (arith, turns.between.below) in
      rw (rw last at (not-true (reaches t low m) (misses (omega arith))))

  -- it reaches, as the next one does
  pub high_exists : m < 200_000 → reaches t low greatest_multiplier ≡ true
  high_exists l = reaches_rises t low (m + 1) 200_000 (omega arith) (not-false (reaches t low (m + 1)) (next_reaches (omega arith)))

  pub high_is : m < 200_000 → m + 1 ≡ high_multiplier t low
  unfolding high_multiplier
  high_is l =
      ap (λ (p : Pair). p.high)
      (sym (halve_is (λ k. not (reaches t low k)) (misses_falls t low) 49_999 200_000 (omega arith) m
      turns.between.from l misses (λ k. next_reaches (omega arith))))
