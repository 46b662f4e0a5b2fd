use mathlib.Core.Path.{◌≡◌, refl, sym, subst⁻¹, subst₂, ◌∙◌}
use Prim.Native.Nat.{ℕ, ◌+◌, ◌≤◌, ◌<◌}
use native.Mathlib.Omega.{arith}
use lib.IntN.{pos}
use lib.ListN.{get_or}
use lib.Seq.{get_or-take}
use lib.Signed.{mag}
use borrow.Author.Rules.{rules}
use Rattle.method.specs.Sheet.{quote_count}
use Rattle.sheet.specs.Views.{as_profile}
use Rattle.bootstrap.specs.declared.Quotes.{Quotes}
use Rattle.bootstrap.proofs.Order.{narrow_read}
use Rattle.used_quotes.proofs.Selecting.{Selected, selected_none, selected_joins, selected_stays, selected_all}
use Rattle.used_quotes.proofs.select.Goals as goal
use Rattle.used_quotes.proofs.select.Goals.{In-loop-i, then-is_used, else-is_used}

-- ---- what is known of the market, and of a turn

-- a rate of the market is in its range
small : (c : In-loop-i) (i : ℕ) → let n = c.args.n in i < quote_count (as_profile n.profile) → mag (get_or n.rates i (pos 0)) ≤ 12_000
small c i h = rw (← get_or-take _ c.args.n.rates i (pos 0) h) (c.args.n.in_range.rate_range i).small

inside : (c : In-loop-i) → c.loop-i.i < 17
inside c = omega (arith, c.market-market.ensures.most, c.loop-i-test.true)

before_five : (c : In-loop-i) → c.loop-i.i < c.market-market.result.smoothing + 5
before_five c = omega (arith, c.market-market.ensures.volumes, c.loop-i-test.true)

-- ---- the goals

pub loop-i-init : goal.loop-i-init
loop-i-init c = (selected_none _ _ _ _ (search rules) (search rules) refl refl refl, omega arith)

pub loop-i-preserved : goal.loop-i-preserved
loop-i-preserved c =
    let turn = (goal.at.loop-i-preserved c).In-loop-i in
    let l = c.loop-i in
    let n = c.args.n in
    let s = c.market-market.result.smoothing in
    let marked = sym c.is_used.ensures in
    let rate = narrow_read (get_or n.rates l.i (pos 0)) (small turn l.i (rw (← c.market-market.ensures.quotes) c.loop-i-test.true)) in (
      elim c.if-is_used.branch [
        | then-is_used w ↦
            let mark = marked ∙ w.if-is_used.true in
            let joined = selected_joins l.invariant.0 (inside turn) (before_five turn) l.q.count _ _ refl mark w.maturity.ensures rate in
            subst⁻¹ (λ (q : Quotes). Selected s n.volumes n.rates q (l.i + 1)) w.q-is joined
        | else-is_used w ↦
            let stays = selected_stays l.invariant.0 (inside turn) (before_five turn) (marked ∙ w.if-is_used.false) in
            subst⁻¹ (λ (q : Quotes). Selected s n.volumes n.rates q (l.i + 1)) w.q-is stays
      ],
      omega (arith, c.loop-i-test.true),
    )

pub returns : goal.returns
returns c =
    let l = c.loop-i in
    let n = c.args.n in
    let p = as_profile n.profile in
    let m = c.market-market.ensures in
    let all : l.i ≡ quote_count p = omega (arith, l.invariant.1, c.loop-i-test.false, m.quotes) in
    let selected = subst₂ (λ (s i : ℕ). Selected s n.volumes n.rates l.q i) m.smoothing all l.invariant.0 in
    let both = selected_all p selected (λ i. (c.args.n.in_range.rate_range i).small) in
    record { quotes = both.0; climb = both.1 }
