-- 9 first; then the gap's years at its yearly factor.
use mathlib.Core.Path.{◌≡◌, sym, ap, ◌∙◌}
use mathlib.Core.Bool.{true}
use Prim.Native.Nat.{ℕ, ◌+◌}
use native.Mathlib.Omega.{arith}
use mir.Syntax.{w64}
use mir.ValLaws.{to_z-of_z}
use Rattle.method.specs.Grounds.{end_fails_test, refused}
use Rattle.method.specs.Quotes.{Bootstrap, Gap, gap_after}
use Rattle.method.proofs.QuotesLaws.{ends_pass, gap_fails}
use Rattle.rounding.specs.Pairs.{as_pair}
use Rattle.gap.specs.Gaps.{as_gap}
use Rattle.bootstrap.specs.Liquids.{as_bootstrap}
use Rattle.bootstrap.specs.Years.{with_gap, lifted, next_years}
use Rattle.bootstrap.proofs.Soundness.{count_is, factors}
use Rattle.bootstrap.proofs.Walking.{gap_steps, factor_ordered, factor_within}
use Rattle.bootstrap.proofs.Liquid.gap_years.Goals as goal
use Rattle.bootstrap.proofs.Liquid.gap_years.Goals.{After-gap_after-g}

-- the gap, as the definition has it
module _ (c : After-gap_after-g) where
  abbrev before : Bootstrap
  before = as_bootstrap c.args.self.now

  gap_is : as_gap c.gap_after-g.result ≡ gap_after before.factors c.args.k c.args.rate
  gap_is = rw (to_z-of_z w64 _ c.ranges.rate) at c.gap_after-g.ensures.0

pub returns-then-not-ends_pass : goal.returns-then-not-ends_pass
returns-then-not-ends_pass c =
    let g = (goal.at.returns-then-not-ends_pass c).After-gap_after-g in
    let fails = rw (gap_is g) at (sym c.ends_pass.ensures ∙ c.if-not-ends_pass.true) in
    let place = ap (λ (n : ℕ). refused (end_fails_test (n + c.args.k))) (count_is c.args.self.now) in
    sym (gap_fails c.args.k c.args.rate (before g) fails ∙ place)

pub next_years-requires : goal.next_years-requires
next_years-requires c =
    let g = (goal.at.next_years-requires c).After-gap_after-g in
    let s = c.args in
    let p = c.requires in
    let x = as_pair c.yearly_factor-x.result in
    let passes : ends_pass s.k s.rate (before g).factors ≡ true = rw (gap_is g) at (sym c.ends_pass.ensures ∙ c.if-not-ends_pass.false) in
    let factor = rw (gap_is g) at c.yearly_factor-x.ensures in
    let joined = c.join_gap.ensures in
    rw (to_z-of_z w64 _ c.ranges.rate) (
      omega (arith, joined.count, p.2),
      c.gap_after-g.ensures.1,
      factor_ordered s.k s.rate (before g) passes x factor p.0 (factors c.args.self.now),
      factor_within s.k s.rate (before g) passes x factor,
      p.4,
    )

pub returns : goal.returns
returns c =
    let g = (goal.at.returns c).After-gap_after-g in
    let k = c.args.k in
    let r = c.args.rate in
    let x = as_pair c.yearly_factor-x.result in
    let passes : ends_pass k r (before g).factors ≡ true = rw (gap_is g) at (sym c.ends_pass.ensures ∙ c.if-not-ends_pass.false) in
    let factor = rw (gap_is g) at c.yearly_factor-x.ensures in
    let t = as_pair c.gap_after-g.result.start in
    let wider = with_gap (before g) x in
    let worked = rw (to_z-of_z w64 _ c.ranges.rate) at c.next_years.ensures in
    let joined = ap (λ (b : Bootstrap). lifted b (next_years t x k r b.factors)) c.join_gap.ensures.gap in
    let from = ap (λ (q : Gap). lifted wider (next_years q.start x k r wider.factors)) (gap_is g) in
    worked ∙ joined ∙ from ∙ sym (gap_steps k r (before g) passes x factor c.requires.0)
