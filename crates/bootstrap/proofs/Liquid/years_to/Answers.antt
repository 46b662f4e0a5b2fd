-- One year on comes by par; more than one is a gap.
use mathlib.Core.Path.{sym, ap, ◌∙◌}
use Prim.Native.Nat.{ℕ, ◌-◌}
use mir.Syntax.{w64}
use mir.ValLaws.{to_z-of_z}
use Rattle.fraction.specs.Rounding.{U}
use Rattle.method.specs.Units.{pair}
use Rattle.method.specs.Quotes.{gap_years}
use Rattle.method.proofs.QuotesLaws.{par_year_lem, years_next, years_gap}
use Rattle.bootstrap.specs.Liquids.{as_bootstrap}
use Rattle.bootstrap.specs.Years.{lifted, quote}
use Rattle.bootstrap.proofs.Soundness.{count_is}
use Rattle.bootstrap.proofs.NextYears.{last_by_par}
use Rattle.bootstrap.proofs.Liquid.years_to.Goals as goal

pub returns-then-k-eq1 : goal.returns-then-k-eq1
returns-then-k-eq1 c =
    let r = c.args.rate in
    let b = as_bootstrap c.args.self.now in
    let one = pair U U in
    let worked = rw (to_z-of_z w64 _ c.ranges.rate) at c.next_years.ensures in
    let par = ap (lifted b) (last_by_par one one r b.factors) ∙ sym (par_year_lem r b) in
    let next = years_next (quote c.args.maturity r) b (rw (count_is c.args.self.now) c.if-k-eq1.true) in
    worked ∙ par ∙ sym next

pub returns-else-k-eq1 : goal.returns-else-k-eq1
returns-else-k-eq1 c =
    let q = quote c.args.maturity c.args.rate in
    let b = as_bootstrap c.args.self.now in
    let count = count_is c.args.self.now in
    let gap = rw (to_z-of_z w64 _ c.ranges.rate) at c.gap_years.ensures in
    let years = ap (λ (n : ℕ). gap_years (c.args.maturity - n) c.args.rate b) count in
    gap ∙ sym (years_gap q b (rw count c.if-k-eq1.false) ∙ years)
