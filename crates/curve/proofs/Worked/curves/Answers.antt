-- L, κ and the years to the smoothing year are as both curves ask.
use mathlib.Core.Path.{◌≡◌, sym, ap, ap₂, ◌∙◌}
use Prim.Native.Nat.{ℕ, ◌-◌, ◌≤◌}
use native.Mathlib.Omega.{arith}
use lib.ListN.{length}
use mathlib.Core.List.{List}
use lib.Seq.{length-take-le}
use Rattle.method.specs.Units.{SignedPair, Pair}
use Rattle.method.specs.Grounds.{done}
use Rattle.method.specs.Sheet.{smoothing_year}
use Rattle.method.specs.Quotes.{Bootstrap}
use Rattle.method.specs.Ranges.{forward_bound}
use Rattle.method.specs.Extrapolation.{weights}
use Rattle.method.specs.Curve.{liquid_of, forwards}
use Rattle.method.proofs.Outcome.{bind_done, done_injective}
use Rattle.method.proofs.Markets.{smoothing_least, smoothing_most}
use Rattle.method.proofs.Enclosure as method
use Rattle.rounding.specs.Pairs.{SizeAtMost}
use Rattle.sheet.specs.Views.{as_profile, as_numbers}
use Rattle.curve.specs.Curves.{first_years, forwards_in, curves_from}
use Rattle.curve.proofs.Laws.{liquid_years, curves_from_lem}
use Rattle.curve.proofs.Extending.{usable, weights_ahead, weights_later, first_quoted, first_in_range}
use borrow.Author.Rules.{rules}
use Rattle.curve.proofs.Worked.curves.Goals as goal
use Rattle.curve.proofs.Worked.curves.Goals.{After-weights_at-weights, After-smoothing_year-year, After-first_years}

long : (c : After-weights_at-weights) → length c.weights_at-weights.result ≡ 140
long c = search rules

module _ (c : After-smoothing_year-year) where
  year_least : 10 ≤ c.smoothing_year-year.result
  year_least = omega (arith, c.smoothing_year-year.ensures, smoothing_least (as_profile c.args.self.n.profile))

  year_most : c.smoothing_year-year.result ≤ 20
  year_most = omega (arith, c.smoothing_year-year.ensures, smoothing_most (as_profile c.args.self.n.profile))

  -- the liquid part whose forwards came
  liquid : let n = as_numbers c.args.self.n in (b : Bootstrap) × (liquid_of n ≡ done b) × (done (forwards b) ≡ done (forwards_in n c.args.g))
  liquid = bind_done (liquid_of (as_numbers c.args.self.n)) _ c.requires.0

module _ (c : After-first_years) where
  first_lows : c.first_years.result.lows ≡ first_years (smoothing_year (as_profile c.args.self.n.profile)) c.args.self.q.lows
  first_lows = c.first_years.ensures.0 ∙ ap (λ (k : ℕ). first_years k c.args.self.q.lows) c.smoothing_year-year.ensures

  first_highs : c.first_years.result.highs ≡ first_years (smoothing_year (as_profile c.args.self.n.profile)) c.args.self.q.highs
  first_highs = c.first_years.ensures.1 ∙ ap (λ (k : ℕ). first_years k c.args.self.q.highs) c.smoothing_year-year.ensures

pub overflow_sub-later : goal.overflow_sub-later
overflow_sub-later c =
    omega (arith, year_most (goal.at.overflow_sub-later c).After-smoothing_year-year)

pub slice_bounds-weights-end : goal.slice_bounds-weights-end
slice_bounds-weights-end c =
    let points = goal.at.slice_bounds-weights-end c in
    omega (arith, long points.After-weights_at-weights, year_least points.After-smoothing_year-year)

pub slice_bounds-extension-end : goal.slice_bounds-extension-end
slice_bounds-extension-end c =
    let points = goal.at.slice_bounds-extension-end c in
    sym (length-take-le _ _ (omega (arith, long points.After-weights_at-weights, year_least points.After-smoothing_year-year)))

pub invariant_of-extension : goal.invariant_of-extension
invariant_of-extension c =
    let made = goal.at.invariant_of-extension c in
    let κ = c.weights_at-weights in
    let l = c.ultimate_forward-l in
    let p = as_profile c.args.self.n.profile in
    let year = c.smoothing_year-year.ensures in
    let ultimate_most : c.args.self.n.ultimate ≤ 10_000 = c.args.self.n.in_range.ultimate_most in
    let size : SizeAtMost forward_bound l.result =
    record { low_size = omega (arith, l.ensures.1.low_size); high_size = omega (arith, l.ensures.1.high_size) } in
    let factor = c.factor_of in
    let all = long made.After-weights_at-weights in
    record {
      onward =
          record {
            ultimate = l.ensures.0;
            usable = usable l.result l.ensures.0 size (method.ultimate_forward_ordered _ ultimate_most);
            ahead = weights_ahead factor.result κ.result κ.ensures all p year;
            pairs =
                weights_later factor.result κ.result κ.ensures all p year
                ∙ ap (λ (a : ℕ). weights a (150 - smoothing_year p)) factor.ensures.0;
          };
    }

pub first_years-requires : goal.first_years-requires
first_years-requires c = year_most (goal.at.first_years-requires c).After-smoothing_year-year

pub both-requires : goal.both-requires
both-requires c =
    let made = goal.at.both-requires c in
    let b = liquid made.After-smoothing_year-year in
    let first = made.After-first_years in
    record {
      quotes = b.0;
      worked = b.1;
      forwards = sym (done_injective b.2);
      sizes = c.requires.1;
      in_range = first_in_range c.args.self.n.in_range c.args.self.worked c.first_years.result (first_lows first) (first_highs first);
    }

pub returns : goal.returns
returns c =
    let points = goal.at.returns c in
    let n = as_numbers c.args.self.n in
    let first = points.After-first_years in
    let b = liquid points.After-smoothing_year-year in
    let quoted =
    first_quoted c.args.self.n.in_range c.args.self.worked c.first_years.result (first_lows first) (first_highs first) ∙ sym (liquid_years n c.args.self.worked.worked b.1) in
    let made =
    curves_from_lem n b.0 b.1 ∙ ap₂ (λ (gs : List SignedPair) (ps : List Pair). curves_from n gs ps) (done_injective b.2) (sym quoted) in
    c.both.ensures ∙ sym made
