use mathlib.Core.Path.{◌≡◌, refl, ap, sym, ◌∙◌}
use mathlib.Core.List.{List, [], ◌++◌, append-nil}
use Prim.Native.Nat.{ℕ, ◌+◌, ◌<◌}
use native.Mathlib.Numerals.{add-one}
use native.Mathlib.Omega.{arith}
use lib.Dec.{lit≤}
use lib.ListN.{replicate, get_or, set}
use lib.Seq.{take_all}
use Rattle.ledger.specs.Sums.{running_from}
use Rattle.method.proofs.Copying.{Copied, copied_none, copied_more, copied_all}
use Rattle.sums.proofs.Adding.{running_length, before, next_sum}
use Rattle.sums.proofs.running.Goals as goal

-- what is put is the definition's running sum
put : (d s a : List ℕ) (n i : ℕ) {v : ℕ} → v ≡ get_or s i 0 → Copied d s a n i → i < n → Copied d s (set a i v) n (i + 1)
put d s a n i e f h = rw e (copied_more d s a n i f h)

pub loop-i-init : goal.loop-i-init
loop-i-init c =
    let factors = c.args.factors.now in
    record {
      written = copied_none (replicate 150 0) (running_from 0 factors) _ 150 (lit≤ tt) (omega (arith, c.requires, running_length 0 factors)) refl;
      sum_is = refl;
      at_most = omega arith;
    }

pub loop-i-preserved : goal.loop-i-preserved
loop-i-preserved c =
    let l = c.loop-i in
    let factors = c.args.factors.now in
    let more : l.i < 150 = omega arith in
    let next = next_sum 0 factors l.i c.loop-i-test.true in
    let sum-now : l.sum + get_or factors l.i 0 ≡ get_or (running_from 0 factors) l.i 0 = rw l.invariant.sum_is (sym next) in
    let next-before : before 0 factors (l.i + 1) ≡ get_or (running_from 0 factors) l.i 0 = rw (add-one l.i) refl in
    record {
      written = put (replicate 150 0) (running_from 0 factors) l.sums 150 l.i (omega (arith, sum-now)) l.invariant.written more;
      sum_is = omega (arith, sum-now, next-before);
      at_most = omega (arith, l.invariant.at_most, c.type_inv.factors l.i);
    }

pub returns : goal.returns
returns c =
    let l = c.loop-i in
    let factors = c.args.factors.now in
    let all = copied_all (replicate 150 0) (running_from 0 factors) l.sums 150 l.i l.invariant.written (omega arith) in
    let whole = take_all 150 (running_from 0 factors) (omega (arith, c.requires, running_length 0 factors)) in
    all ∙ ap (λ (xs : List ℕ). xs ++ []) whole ∙ append-nil (running_from 0 factors)
