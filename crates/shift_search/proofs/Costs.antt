-- The block's high on a curve, and whether it is at most the target.
use mathlib.Core.Path.{◌≡◌, refl, sym, ap}
use mathlib.Core.Bool.{true, false}
use mathlib.Core.List.{List}
use Prim.Native.Nat.{ℕ}
use lib.Dec.{leb}
use Rattle.method.specs.Units as method
use Rattle.method.specs.Grounds.{Ground, Outcome, refused, done}
use Rattle.method.specs.Curve.{Curves}
use Rattle.method.proofs.Outcome.{done_injective}
use Rattle.valuation.specs.Block.{Flow, worth_of, value_by}
use Rattle.shift.specs.Shift.{high_at_most}
use Rattle.rounding.specs.Pairs.{Pair}
use Rattle.curve.specs.declared.Curves as code
use Rattle.curve.specs.Curves.{as_curves}
use Rattle.block.specs.Views.{block_of, factor_in, Values}
use Rattle.shift_search.proofs.Blocks.{list_passed}

module _ (fs : List Flow) (target : ℕ) where
  pub none_costs : {g : Ground} {o : Outcome Curves} → refused g ≡ o → false ≡ high_at_most fs target o
  none_costs e = rw (sym e) refl

  module _ {totals : List ℕ} (of : block_of fs ≡ done totals) (cs : code.Curves) (p : Pair) (valued : Values totals cs.plain.years.lows cs.plain.years.highs p) where
    pub high_is : worth_of true (factor_in cs.plain.years.highs) fs ≡ p.high
    unfolding value_by
    high_is = ap (λ (q : method.Pair). q.high) (done_injective (rw (list_passed fs of) at (valued fs of)))

    pub high_costs : {o : Outcome Curves} → done (as_curves cs) ≡ o → leb p.high target ≡ high_at_most fs target o
    high_costs e = rw (sym e, high_is) refl
