-- A step of the halving, at every fuel that the distance of the ends allows.
use mathlib.Core.Path.{◌≡◌, sym, ap, ◌∙◌}
use mathlib.Core.Bool.{Bool, true, false, not}
use Prim.Native.Nat.{ℕ, zero, suc, ◌-◌, ◌≤◌, ◌<◌}
use native.Mathlib.Omega.{arith}
use Rattle.method.specs.Units.{pair, end_of}
use Rattle.method.specs.Quotes.{Gap}
use Rattle.method.proofs.HalvingLaws.{middle, halve-ends, halve_rises, halve-falls}
use Rattle.gap.specs.Gaps.{rises_by, Halved}

module _ (low : Bool) (g : Gap) (lo hi : ℕ) {r : ℕ} (wide : 1 < hi - lo) where
  pub halved_up : rises_by low g (middle lo hi) ≡ true → Halved low g (middle lo hi) hi r → Halved low g lo hi r
  halved_up t known zero h = absurd (omega arith)
  halved_up t known (suc n) h = known n (omega arith) ∙ ap (end_of (not low)) (sym (halve_rises (rises_by low g) n lo hi wide t))

  pub halved_down : rises_by low g (middle lo hi) ≡ false → Halved low g lo (middle lo hi) r → Halved low g lo hi r
  halved_down t known zero h = absurd (omega arith)
  halved_down t known (suc n) h = known n (omega arith) ∙ ap (end_of (not low)) (sym (halve-falls (rises_by low g) n lo hi wide t))

pub halved_ends : (low : Bool) (g : Gap) (lo hi : ℕ) → hi - lo ≤ 1 → Halved low g lo hi (end_of (not low) (pair lo hi))
halved_ends low g lo hi h n k = ap (end_of (not low)) (sym (halve-ends (rises_by low g) n lo hi h))
