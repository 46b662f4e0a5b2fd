-- Five volumes, or one.
use mathlib.Core.Path.{◌≡◌, ap, ap₂, sym, ◌∙◌}
use Prim.Native.Nat.{ℕ, ◌-◌}
use native.Mathlib.Omega.{arith}
use lib.ListN.{length, take}
use lib.Seq.{take_all}
use Rattle.method.specs.Sheet.{volume_count}
use Rattle.method.specs.Extrapolation.{llfr}
use Rattle.sheet.specs.Views.{as_profile, as_numbers}
use Rattle.curve.proofs.Extending.{five_or_one, all_five, llfr-first}
use borrow.Author.Rules.{rules}
use Rattle.curve.proofs.llfr_of.Goals as goal
use Rattle.curve.proofs.llfr_of.Goals.{Start, Else-market-eq1}

long : (s : Start) → length s.args.g ≡ 5
long s = search rules

module _ (e : Else-market-eq1) where
  five_volumes : volume_count (as_profile e.args.n.profile) ≡ 5
  five_volumes =
      five_or_one (as_profile e.args.n.profile)
      (λ one. e.if-market-eq1.false (ap₂ ◌-◌ e.market-market.ensures.quotes e.market-market.ensures.smoothing ∙ one))

  all_volumes : (as_numbers e.args.n).volumes ≡ e.args.n.volumes
  all_volumes =
      let vs = e.args.n.volumes in
      let five : length vs ≡ 5 = search rules in
      ap (λ (k : ℕ). take k vs) five_volumes ∙ take_all 5 vs (omega (arith, five))

pub returns-then-market-eq1 : goal.returns-then-market-eq1
returns-then-market-eq1 c =
    let five = long (goal.at.returns-then-market-eq1 c).Start in
    let counted = ap₂ ◌-◌ c.market-market.ensures.quotes c.market-market.ensures.smoothing in
    let one : volume_count (as_profile c.args.n.profile) ≡ 1 = sym counted ∙ c.if-market-eq1.true in
    (sym (llfr-first (as_numbers c.args.n) c.args.g five c.args.n.in_range one), c.requires.sizes 0)

pub returns : goal.returns
returns c =
    let five = long (goal.at.returns c).Start in
    let e = (goal.at.returns c).Else-market-eq1 in
    let all = all_five (as_numbers c.args.n) c.args.g five (five_volumes e) in
    (c.llfr.ensures.0 ∙ sym (ap₂ llfr (all_volumes e) all), c.llfr.ensures.1)
