-- Ground 8 on the extrapolated years, then ground 10 on all.
use mathlib.Core.Path.{◌≡◌, sym, ◌∙◌}
use lib.ListN.{length}
use borrow.Author.Rules.{rules}
use Rattle.std.specs.declared.result.Result.TheVariants.{Ok, Err}
use Rattle.sheet.specs.Views.{as_numbers}
use Rattle.curve.proofs.Laws.{later_refused, years_banded}
use Rattle.curve.proofs.Extending.{quoted_count, kept_quoted, later_is}
use Rattle.curve.proofs.Extension.extended.Goals as goal
use Rattle.curve.proofs.Extension.extended.Goals.{Start}

lows : (s : Start) → length s.args.years.lows ≡ 150
lows s = search rules

highs : (s : Start) → length s.args.years.highs ≡ 150
highs s = search rules

pub returns-in_err-years : goal.returns-in_err-years
returns-in_err-years c =
    let s = (goal.at.returns-in_err-years c).Start in
    let n = as_numbers c.args.self.now.n in
    let y = c.args.years in
    let g = c.in_err-years.field-0.0 in
    let handed : c.from_residual.result ≡ Err g = search rules in
    let later = later_is c.args.self.now.onward y c.smoothing_year-start.ensures c.args.f (lows s) (highs s) (Err g) c.in_err-years.ensures.outcome in
    rw handed (sym (later_refused n _ _ (quoted_count n y (lows s) (highs s)) (sym later)))

pub returns : goal.returns
returns c =
    let s = (goal.at.returns c).Start in
    let n = as_numbers c.args.self.now.n in
    let y = c.args.years in
    let x = c.in_ok-years.years in
    let worked_lows : length x.lows ≡ 150 = search rules in
    let worked_highs : length x.highs ≡ 150 = search rules in
    let later = later_is c.args.self.now.onward y c.smoothing_year-start.ensures c.args.f (lows s) (highs s) (Ok x) c.in_ok-years.ensures.outcome in
    let quoted = kept_quoted c.args.self.now.onward y c.smoothing_year-start.ensures x c.in_ok-years.ensures.kept in
    c.judged.ensures
    ∙ sym (years_banded n _ _ (quoted_count n y (lows s) (highs s)) x.lows x.highs (worked_lows ∙ sym worked_highs) quoted (sym later))
