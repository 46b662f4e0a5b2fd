use mathlib.Core.List.{List}
use mathlib.Core.Path.{◌≡◌, refl, sym, ap, ◌∙◌}
use Prim.Native.Nat.{ℕ, ◌+◌, ◌*◌, ◌/◌, ◌%◌, ◌≤◌, ◌<◌}
use native.Mathlib.Nat.{mul-le-mul, div-add-mod'}
use native.Mathlib.Numerals.{add-one}
use native.Mathlib.Omega.{arith}
use lib.ListN.{length, get_or, length-append}
use borrow.Author.Rules.{rules}
use Rattle.std.proofs.lemmas.Slice.Zip.{zip_turn}
use Rattle.block.specs.Views.{weighed}
use Rattle.block.proofs.multiplied.Invariants.{largest, Multiplied}
use Rattle.block.proofs.multiplied.Goals as goal

-- ---- one product, part by part

module _ (t f : ℕ) where
  parts : t * f ≡ t / 1_000_000 * f * 1_000_000 + t % 1_000_000 * f
  parts = ap (λ (k : ℕ). k * f) (sym (div-add-mod' t 1_000_000)) ∙ whole_and_rest (t / 1_000_000) (t % 1_000_000)
    where
      whole_and_rest : (q r : ℕ) → (q * 1_000_000 + r) * f ≡ q * f * 1_000_000 + r * f
      whole_and_rest q r = omega arith

  module _ (ht : t ≤ 1_000 * 1_000_000_000) (hf : f < 4_294_967_296) where
    f-small : f ≤ 4_294_967_296
    f-small = omega arith

    whole_small : t / 1_000_000 * f ≤ largest
    whole_small = let whole : t / 1_000_000 ≤ 1_000_000 = omega arith in mul-le-mul whole f-small

    rest_small : t % 1_000_000 * f ≤ largest
    rest_small = let rest : t % 1_000_000 ≤ 1_000_000 = omega arith in mul-le-mul rest f-small

-- ---- one year more

module _ {totals factors : List ℕ} {millions rest i : ℕ} (d : Multiplied totals factors millions rest i) (h : i < 150)
    (hf : get_or factors i 0 < 4_294_967_296) where
  abbrev t : ℕ
  t = get_or totals i 0

  abbrev f : ℕ
  f = get_or factors i 0

  sum-next : (millions + t / 1_000_000 * f) * 1_000_000 + (rest + t % 1_000_000 * f) ≡ weighed totals factors (i + 1)
  unfolding weighed
  sum-next = rw (add-one i) (omega (arith, parts t f, d.sum_is))

  next : Multiplied totals factors (millions + t / 1_000_000 * f) (rest + t % 1_000_000 * f) (i + 1)
  next = record {
    held = d.held;
    long = d.long;
    within = omega arith;
    sum_is = sum-next;
    millions_fit = omega (arith, whole_small t f (d.held.1 i) hf, d.millions_fit);
    rest_fits = omega (arith, rest_small t f (d.held.1 i) hf, d.rest_fits);
  }

pub loop-total-init : goal.loop-total-init
unfolding weighed
loop-total-init c = record {
  held = c.requires.0;
  long = c.requires.1;
  within = omega arith;
  sum_is = refl;
  millions_fit = omega arith;
  rest_fits = omega arith;
}

pub loop-total-preserved : goal.loop-total-preserved
loop-total-preserved c =
    let l = c.loop-total in
    let turn =
    zip_turn c.args.totals.now c.args.factors.now l.yielded c.into_iter-total-iterator.result l.total-iterator c.next.new.self _ (search rules) (search rules)
    l.yielded_by _ c.in-Some.is c.next.ensures.steps in
    let factor = c.from-factor.ensures ∙ turn.3 0 in
    let fits = c.type_inv.factors (length l.yielded) in
    rw (turn.2 0, factor, length-append l.yielded) (next l.invariant (omega (arith, turn.1, c.requires.1)) (omega (arith, fits)))
