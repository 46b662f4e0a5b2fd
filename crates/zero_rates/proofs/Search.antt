-- The multipliers that the halving comes to: the largest that stays below, the smallest that reaches.
use mathlib.Core.Path.{◌≡◌, sym, ap, ◌∙◌}
use mathlib.Core.Bool.{Bool, true, false, not}
use Prim.Native.Nat.{ℕ, zero, suc, ◌-◌, ◌≤◌}
use native.Mathlib.Nat.{mul-le-mul, mul-le-mul_left, mul-le-mul_right, le_trans}
use native.Mathlib.Omega.{arith}
use borrow.Author.Tests.{leb-true, le-leb, not-true, not-false}
use lib.Dec.{lit<}
use Rattle.method.proofs.Outcome.{split}
use Rattle.method.proofs.Quotients.{round-≤}
use Rattle.method.proofs.HalvingLaws.{Falls, halve-within, halve_low_passes, halve_high_fails, ends_met, halve_last, halve-first}
use Rattle.zero_rates.specs.Rates.{compound, stays_below, reaches, low_multiplier, high_multiplier}
use Rattle.zero_rates.specs.Rates.{least_multiplier, greatest_multiplier, past_range, before_range}
use Rattle.zero_rates.proofs.Compounding.{compound_mono}

-- ---- each test holds on one side of somewhere

pub stays_falls : (t high : ℕ) → Falls (stays_below t high)
unfolding stays_below
stays_falls t high a b h passes = le-leb _ _ (le_trans (mul-le-mul_left high (compound_mono _ h _)) (leb-true _ _ passes))

pub reaches_rises : (t low a b : ℕ) → a ≤ b → reaches t low a ≡ true → reaches t low b ≡ true
unfolding reaches
reaches_rises t low a b h passes = le-leb _ _ (le_trans (leb-true _ _ passes) (mul-le-mul_left low (compound_mono _ h _)))

pub misses_falls : (t low : ℕ) → Falls (λ m. not (reaches t low m))
misses_falls t low a b h fails =
    split (reaches t low a) (λ q. absurd (both (sym (not-true _ fails) ∙ reaches_rises t low a b h q))) (λ q. ap not q)
  where
    both : false ≡ true → ⊥
    both e = let z : ◌≡◌ {A = ℕ} 0 1 = cc in omega arith

-- ---- the least multiplier halves, so that what it grows to stays below, however many years and whichever way it is rounded

halves : (up : Bool) (t : ℕ) → compound up least_multiplier (suc t) ≤ 500_000_000
unfolding compound
halves up zero = round-≤ up {m = 500_000_000} (lit< tt) (omega arith)
halves up (suc t) = round-≤ up {m = 500_000_000} (lit< tt) (omega (arith, mul-le-mul_right least_multiplier (halves up t)))

pub least_stays : (t high : ℕ) → 1 ≤ t → high ≤ 2_000_000_000 → stays_below t high least_multiplier ≡ true
unfolding stays_below
least_stays zero high h k = absurd (omega arith)
least_stays (suc t) high h k = le-leb _ _ (mul-le-mul k (halves _ t))

-- ---- the low multiplier

pub record LargestBelow (t high m : ℕ) : Type 0 where
  pub least : least_multiplier ≤ m
  pub greatest : m ≤ greatest_multiplier
  pub stays : stays_below t high m ≡ true
  pub none_above : (k : ℕ) → k ≤ greatest_multiplier → stays_below t high k ≡ true → k ≤ m

pub low_found : (t high : ℕ) → 1 ≤ t → high ≤ 2_000_000_000 → LargestBelow t high (low_multiplier t high)
unfolding low_multiplier
low_found t high h k =
    let test = stays_below t high in
    let falls = stays_falls t high in
    let within = halve-within test (past_range - least_multiplier) least_multiplier past_range (omega arith) in
    let met = ends_met test falls least_multiplier past_range (omega arith) in
    record {
      least = omega arith;
      greatest = omega arith;
      stays = halve_low_passes test (past_range - least_multiplier) least_multiplier past_range (least_stays t high h k);
      none_above = λ k below passes. halve_last test falls least_multiplier past_range (omega arith) k (omega arith) passes;
    }

-- ---- the high multiplier, where the greatest reaches

pub record SmallestReaching (t low m : ℕ) : Type 0 where
  pub least : least_multiplier ≤ m
  pub greatest : m ≤ greatest_multiplier
  pub reached : reaches t low m ≡ true
  pub none_below : (k : ℕ) → least_multiplier ≤ k → reaches t low k ≡ true → m ≤ k

pub high_found : (t low : ℕ) → reaches t low greatest_multiplier ≡ true → SmallestReaching t low (high_multiplier t low)
unfolding high_multiplier
high_found t low h =
    let fails : ℕ → Bool = λ m. not (reaches t low m) in
    let falls = misses_falls t low in
    let within = halve-within fails (greatest_multiplier - before_range) before_range greatest_multiplier (omega arith) in
    let met = ends_met fails falls before_range greatest_multiplier (omega arith) in
    record {
      least = omega arith;
      greatest = omega arith;
      reached = not-false _ (halve_high_fails fails (greatest_multiplier - before_range) before_range greatest_multiplier (ap not h));
      none_below = λ k above passes. halve-first fails falls before_range greatest_multiplier (omega arith) k (omega arith) (ap not passes);
    }
