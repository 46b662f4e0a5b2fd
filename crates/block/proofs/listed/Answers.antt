use Rattle.std.proofs.Common.{rules}
use mathlib.Core.List.{[], ◌∷◌}
use mathlib.Core.Path.{◌≡◌, sym, ap, ◌∙◌}
use Prim.Native.Nat.{ℕ, ◌+◌, ◌≤◌}
use lib.ListN.{length-replicate}
use native.Mathlib.Omega.{arith}
use Rattle.std.specs.declared.result.Result.TheVariants.{Err}
use Rattle.std.specs.Prelude.{Result}
use Rattle.method.specs.Grounds.{Outcome, refused}
use Rattle.valuation.specs.Block.{flows_checked}
use Rattle.grounds.specs.declared.Ground.{Ground}
use Rattle.grounds.specs.Answers.{as_ground}
use Rattle.grounds.specs.Answers.{as_answered}
use Rattle.block.specs.Views.{as_flow}
use Rattle.block.proofs.Enters.{wrong, left_first, left_none, left_refused, left_next}
use Rattle.block.proofs.Worths.{zeros_le, totals_le}
use Rattle.block.proofs.listed.Goals as goal

pub returns-then-not-contains : goal.returns-then-not-contains
returns-then-not-contains g c = λ fs l.
    let cases = c.if-not-contains.ensures.cases in
    let long = l.long in
    sym (wrong fs (λ n. grind arith))

pub loop-i-init : goal.loop-i-init
loop-i-init g c =
    let some : 1 ≤ c.args.count = grind arith in
    let few : c.args.count ≤ 1_000 = grind arith in
    record {
      long = length-replicate {A = ℕ} 150 0;
      few = few;
      held = λ k. omega (arith, zeros_le 150 k);
      left = λ fs l. let long = l.long in left_first fs (omega arith) (omega arith);
    }

-- the ground of a step that was refused

refused_is : {r : Result (Unit {0}) Ground} {o : Outcome (Unit {0})} {g : Ground} → as_answered r ≡ o → r ≡ Err g → o ≡ refused (as_ground g)
refused_is e h = sym e ∙ ap as_answered h

pub returns-in_err-entered : goal.returns-in_err-entered
returns-in_err-entered g c = λ fs l.
    let told : c.from_residual.result ≡ Err c.in_err-entered.field-0.0 = search rules in
    let long = l.long in
    let entry = l.each _ _ (omega arith) c.flow_at.ensures in
    let refusal = refused_is {o = flows_checked (c.loop-i.i + 1) (as_flow c.flow_at.result ∷ [])} c.entered.ensures.checked c.in_err-entered.was in
    ap as_answered told ∙ sym (left_refused fs _ _ _ (omega arith) entry (c.loop-i.invariant.left fs l) refusal)

pub loop-i-preserved : goal.loop-i-preserved
loop-i-preserved g c =
    let checked = sym c.entered.ensures.checked ∙ ap as_answered c.in_ok-entered.was in
    let totals = c.entered.ensures.totals c.in_ok-entered.was in
    record {
      long = c.entered.array_long;
      few = c.loop-i.invariant.few;
      held = rw totals (totals_le c.loop-i.totals (as_flow c.flow_at.result ∷ []) _ c.loop-i.i checked c.loop-i.invariant.held);
      left = λ fs l.
          let long = l.long in
          let entry = l.each _ _ (omega arith) c.flow_at.ensures in
          rw totals (left_next fs _ _ _ (omega arith) entry (c.loop-i.invariant.left fs l) checked);
    }

pub invariant_of-result : goal.invariant_of-result
invariant_of-result g c = (c.loop-i.invariant.long, λ k. let held = c.loop-i.invariant.held k in omega arith)

pub returns : goal.returns
returns g c = λ fs l. let long = l.long in sym (left_none fs _ _ (c.loop-i.invariant.left fs l) (omega arith))
