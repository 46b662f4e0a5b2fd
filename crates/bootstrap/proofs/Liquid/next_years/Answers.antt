use mathlib.Core.Path.{◌≡◌, sym, ap, ap₂, ◌∙◌}
use mathlib.Core.Bool.{Bool}
use mathlib.Core.List.{List}
use Prim.Native.Nat.{ℕ, ◌+◌, ◌-◌, ◌<◌}
use native.Mathlib.Omega.{arith}
use lib.Dec.{ltb}
use lib.ListN.{length}
use mir.Syntax.{w64}
use mir.ValLaws.{to_z-of_z}
use borrow.Author.Rules.{rules}
use Rattle.std.proofs.lemmas.Result.{err_from_is_err_and}
use Rattle.method.specs.Units as method
use Rattle.method.specs.Units.{SignedPair, signed_pair}
use Rattle.method.specs.Grounds.{Outcome}
use Rattle.method.specs.Quotes.{Bootstrap, annuity}
use Rattle.method.proofs.QuotesBounds.{annuity_ordered}
use Rattle.rounding.specs.Pairs.{as_pair}
use Rattle.rounding.proofs.Machine.{stored}
use Rattle.bootstrap.specs.Liquids.{as_bootstrap}
use Rattle.bootstrap.specs.Years.{lifted, next_factor, next_years}
use Rattle.bootstrap.proofs.Soundness as part
use Rattle.bootstrap.proofs.Soundness.{count_is, annuity_small}
use Rattle.bootstrap.proofs.NextYears.{year_inside, year_stops, year_goes, next_ordered, as_ordered}
use Rattle.bootstrap.proofs.Liquid.next_years.Invariants.{Going}
use Rattle.bootstrap.proofs.Liquid.next_years.Goals as goal
use Rattle.bootstrap.proofs.Liquid.next_years.Goals.{After-next_factor-next, After-join_year}

pub next_factor-next-requires : goal.next_factor-next-requires
next_factor-next-requires c =
    let p = c.requires in
    let l = c.loop-year.invariant in
    rw (to_z-of_z w64 _ c.ranges.rate) (l.factor, p.2, p.3, p.4, annuity_small c.loop-year.self)

-- ---- a year's low and high, as the definition has them

module _ (c : After-next_factor-next) where
  abbrev left : ℕ
  left = c.args.k + 1 - c.loop-year.year

  abbrev factors : List method.Pair
  factors = (as_bootstrap c.loop-year.self).factors

  abbrev ends : SignedPair
  ends = signed_pair (stored c.next_factor-next.result.low) (stored c.next_factor-next.result.high)

  ends_are : ends ≡ next_factor (ltb 1 left) (as_pair c.loop-year.p) (as_pair c.args.x) (stored c.args.rate) (annuity factors)
  ends_are =
      let l = c.loop-year in
      let next : Bool → method.Pair → SignedPair = λ inside a. next_factor inside (as_pair l.p) (as_pair c.args.x) (stored c.args.rate) a in
      ap₂ signed_pair (to_z-of_z w64 _ (search rules)) (to_z-of_z w64 _ (search rules))
      ∙ c.next_factor-next.ensures
      ∙ ap₂ next (year_inside l.year c.args.k (omega (arith, c.loop-year-test.true))) l.self.sound.sums

  some : 0 < left
  some = omega (arith, c.loop-year-test.true)

  counted : length factors + 1 ≡ c.loop-year.self.count + 1
  counted = ap (λ (n : ℕ). n + 1) (count_is c.loop-year.self)

pub judge-requires : goal.judge-requires
judge-requires c =
    let n = (goal.at.judge-requires c).After-next_factor-next in
    let l = c.loop-year in
    let ordered = annuity_ordered (part.factors l.self) in
    as_ordered (ends_are n) (next_ordered (ltb 1 (left n)) _ _ (stored c.args.rate) _ l.invariant.factor.ordered c.requires.2 ordered)

-- ---- a year that did not pass, and one that passed and was joined

pub returns-in_err-p : goal.returns-in_err-p
returns-in_err-p c =
    let n = (goal.at.returns-in_err-p c).After-next_factor-next in
    let l = c.loop-year in
    let p = err_from_is_err_and c.from_residual.result c.from_residual.ensures.1 in
    let stops = year_stops _ _ _ (left n) (factors n) (some n) (ends_are n) (c.in_err-p.ensures.year (factors n) (counted n)) in
    rw (p.1, p.2) (rw (to_z-of_z w64 _ c.ranges.rate) at (sym (l.invariant.same ∙ ap (lifted (as_bootstrap l.self)) stops)))

module _ (c : After-join_year) where
  again :
      let l = c.loop-year in
      Going c.args.x c.args.k (stored c.args.rate) c.args.self.now c.args.from c.join_year.new.self c.in_ok-p.p (c.args.k + 1 - (l.year + 1))
  again =
      let n = (goal.at.After-join_year c).After-next_factor-next in
      let l = c.loop-year in
      let p = c.in_ok-p.ensures in
      let more = c.join_year.ensures in
      let fewer : left n - 1 ≡ c.args.k + 1 - (l.year + 1) = omega arith in
      let goes = year_goes _ _ _ (left n) (factors n) (some n) (ends_are n) (p.year (factors n) (counted n)) p.factor.0 in
      let others : Bootstrap → Outcome Bootstrap =
      λ b. lifted b (next_years (as_pair c.in_ok-p.p) (as_pair c.args.x) (c.args.k + 1 - (l.year + 1)) (stored c.args.rate) b.factors) in
      record {
        room = omega (arith, l.invariant.room, more.count, c.loop-year-test.true);
        factor = p.factor.1;
        same = l.invariant.same ∙ ap (lifted (as_bootstrap l.self)) (rw fewer at goes) ∙ ap others (sym more.factors);
      }

pub loop-year-preserved : goal.loop-year-preserved
loop-year-preserved c = again (goal.at.loop-year-preserved c).After-join_year

pub returns-in_ok-p : goal.returns-in_ok-p
returns-in_ok-p c =
    let joined = again (goal.at.returns-in_ok-p c).After-join_year in
    let last : c.args.k + 1 - (c.loop-year.year + 1) ≡ 0 = omega (arith, c.loop-year-test.true) in
    sym (rw (to_z-of_z w64 _ c.ranges.rate) at (rw last at joined.same))
