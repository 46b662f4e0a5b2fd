-- Each sum and product is small enough to be read back from its bits.
use mathlib.Core.Path.{◌≡◌, ap, ◌∙◌}
use mathlib.Core.List.{List}
use Prim.Native.Nat.{ℕ, ◌*◌, ◌≤◌}
use native.Mathlib.Omega.{arith}
use lib.IntN.{ℤ, pos, nat_abs, ◌*ℤ◌}
use lib.ListN.{get_or}
use Rattle.method.specs.Ranges.{forward_bound}
use Rattle.method.specs.Extrapolation.{llfr_numerator}
use Rattle.rounding.proofs.Machine.{Computed, fits, read, machine_size, held, integer, given, plus, times}
use Rattle.extrapolation.specs.Extrapolated.{volume_bound}
use Rattle.extrapolation.proofs.llfr_numerator.Goals as goal

-- ---- one product, from its call

abbrev product_bound : ℕ
product_bound = 12 * volume_bound * (6 * forward_bound)

abbrev Product : (w v : ℕ) (x : Computed) (r : ℤ) → Type 0
Product w v x r = (r ≡ pos w *ℤ pos v *ℤ x.machine) × (nat_abs r ≤ product_bound)

abbrev term : (w v : ℕ) (x : Computed) (r : ℤ) → Product w v x r → Computed
term w v x r e = held (given r product_bound (e.0 ∙ ap (λ (z : ℤ). pos w *ℤ pos v *ℤ z) x.is) e.1) tt

module _ (vs : List ℕ) (g : List ℤ) (hg : (i : ℕ) → nat_abs (get_or g i (pos 0)) ≤ forward_bound) where
  -- ---- the sums of forwards

  abbrev volume : ℕ → ℕ
  volume i = get_or vs i 0

  abbrev entry : ℕ → Computed
  entry i = held (integer (get_or g i (pos 0)) forward_bound (hg i)) tt

  abbrev doubled : ℕ → Computed
  doubled i = times (integer (pos 2) 2 (omega arith)) (entry i)

  abbrev to30 : Computed
  to30 = plus (entry 1) (entry 2)

  abbrev to40 : Computed
  to40 = plus (held to30 tt) (held (doubled 3) tt)

  abbrev to50 : Computed
  to50 = plus (held to40 tt) (held (doubled 4) tt)

  -- ---- the sum of products

  module _ {a b : ℤ} (ea : Product 12 (volume 0) (entry 0) a) (eb : Product 12 (volume 1) (entry 1) b) where
    abbrev sum2 : Computed
    sum2 = plus (term 12 (volume 0) (entry 0) a ea) (term 12 (volume 1) (entry 1) b eb)

    module _ {d : ℤ} (ed : Product 6 (volume 2) (held to30 tt) d) where
      abbrev sum3 : Computed
      sum3 = plus (held sum2 tt) (term 6 (volume 2) (held to30 tt) d ed)

      module _ {e : ℤ} (ee : Product 3 (volume 3) (held to40 tt) e) where
        abbrev sum4 : Computed
        sum4 = plus (held sum3 tt) (term 3 (volume 3) (held to40 tt) e ee)

        module _ {f : ℤ} (ef : Product 2 (volume 4) (held to50 tt) f) where
          abbrev sum5 : Computed
          sum5 = plus (held sum4 tt) (term 2 (volume 4) (held to50 tt) f ef)

pub overflow_add-to40 : goal.overflow_add-to40
overflow_add-to40 c = fits (to40 c.args.volumes c.args.g c.requires.1) tt

pub overflow_add-to50 : goal.overflow_add-to50
overflow_add-to50 c = fits (to50 c.args.volumes c.args.g c.requires.1) tt

pub overflow_add-result-2 : goal.overflow_add-result-2
overflow_add-result-2 c = fits (sum3 c.args.volumes c.args.g c.requires.1 c.product.ensures c.product-2.ensures c.product-3.ensures) tt

pub product-requires-4 : goal.product-requires-4
product-requires-4 c =
    (omega arith, c.requires.0 3, machine_size (held (to40 c.args.volumes c.args.g c.requires.1) tt) (omega arith))

pub overflow_add-result-3 : goal.overflow_add-result-3
overflow_add-result-3 c =
    fits
    (sum4 c.args.volumes c.args.g c.requires.1 c.product.ensures c.product-2.ensures c.product-3.ensures c.product-4.ensures)
    tt

pub product-requires-5 : goal.product-requires-5
product-requires-5 c =
    (omega arith, c.requires.0 4, machine_size (held (to50 c.args.volumes c.args.g c.requires.1) tt) (omega arith))

pub overflow_add-result-4 : goal.overflow_add-result-4
overflow_add-result-4 c =
    fits
    (
    sum5 c.args.volumes c.args.g c.requires.1
    c.product.ensures c.product-2.ensures c.product-3.ensures c.product-4.ensures c.product-5.ensures
    )
    tt

pub returns : goal.returns
unfolding llfr_numerator
returns c =
    read
    (
    sum5 c.args.volumes c.args.g c.requires.1
    c.product.ensures c.product-2.ensures c.product-3.ensures c.product-4.ensures c.product-5.ensures
    )
    tt
