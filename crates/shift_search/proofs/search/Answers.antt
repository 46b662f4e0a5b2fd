use mathlib.Core.Path.{◌≡◌, refl, sym, ap, ◌∙◌}
use mathlib.Core.Bool.{Bool, true, false}
use mathlib.Core.List.{List}
use Prim.Native.Nat.{ℕ, suc, ◌+◌, ◌-◌, ◌≤◌}
use native.Mathlib.Numerals.{add-one}
use native.Mathlib.Omega.{arith}
use lib.IntN.{ℤ, pos, nat_abs, ◌+ℤ◌}
use lib.Signed.{le_z}
use Rattle.method.specs.Grounds.{refused, done, no_shift}
use Rattle.method.specs.Sheet.{Numbers}
use Rattle.valuation.specs.Block.{Flow}
use Rattle.shift.specs.Shift.{shift_count, meets, first_shift}
use Rattle.shift.proofs.Search.{first_here, first_later, first_none}
use Rattle.rounding.proofs.Machine.{stored}
use Rattle.block.specs.Views.{block_of}
use Rattle.shift_search.proofs.Bounds.{shift_size, not_past, past, shift_next}
use Rattle.shift_search.proofs.search.Invariants.{Tried}
use Rattle.shift_search.proofs.search.Goals as goal

module _ {n : Numbers} {totals : List ℕ} {target : ℕ} {s : ℤ} (d : Tried n totals target s) where
  abbrev test : List Flow → ℤ → Bool
  test fs z = meets fs target n z

  over : le_z s (pos 500) ≡ false → (fs : List Flow) → block_of fs ≡ done totals → first_shift (test fs) shift_count 0 ≡ refused no_shift
  over e fs of =
      let none : shift_count - d.i ≡ 0 = omega (arith, past d.i (rw d.here at e)) in
      d.left fs of ∙ ap (λ (k : ℕ). first_shift (test fs) k d.i) none ∙ first_none (test fs) d.i

  module _ (e : le_z s (pos 500) ≡ true) where
    few : d.i ≤ 1_000
    few = not_past d.i d.within (rw d.here at e)

    small : nat_abs s ≤ 500
    small = rw d.here (shift_size d.i few)

    -- the shift at i is the first of those that are left
    from_here : (fs : List Flow) → block_of fs ≡ done totals → first_shift (test fs) shift_count 0 ≡ first_shift (test fs) (suc (shift_count - (d.i + 1))) d.i
    from_here fs of = d.left fs of ∙ ap (λ (k : ℕ). first_shift (test fs) k d.i) (omega (arith, few))

    does : (fs : List Flow) → block_of fs ≡ done totals → true ≡ test fs s → first_shift (test fs) shift_count 0 ≡ done s
    does fs of h = rw d.here (from_here fs of ∙ first_here (test fs) _ d.i (rw d.here at (sym h)))

    next : ((fs : List Flow) → block_of fs ≡ done totals → false ≡ test fs s) → Tried n totals target (stored (s +ℤ pos 1))
    next h = record {
      i = d.i + 1;
      within = omega (arith, few);
      here = rw d.here (shift_next d.i few);
      left = λ fs of.
          from_here fs of ∙ first_later (test fs) _ d.i (rw d.here at (sym (h fs of)))
          ∙ ap (first_shift (test fs) (shift_count - (d.i + 1))) (sym (add-one d.i));
    }

pub loop-s-init : goal.loop-s-init
loop-s-init c = record { i = 0; within = omega arith; here = refl; left = λ fs of. refl }

pub meets-requires : goal.meets-requires
meets-requires c = small c.loop-s.invariant c.loop-s-test.true

pub returns-then-meets : goal.returns-then-meets
returns-then-meets c = λ fs of. sym (does c.loop-s.invariant c.loop-s-test.true fs of (c.if-meets.ensures fs of))

pub loop-s-preserved : goal.loop-s-preserved
loop-s-preserved c = next c.loop-s.invariant c.loop-s-test.true (λ fs of. c.if-meets.ensures fs of)

pub returns : goal.returns
returns c = λ fs of. sym (over c.loop-s.invariant c.loop-s-test.false fs of)
