-- The smoothing year's rate is in its range, so its bits give it back.
use mathlib.Core.Path.{◌≡◌, ap, sym, subst, ◌∙◌}
use Prim.Native.Nat.{ℕ, ◌≤◌, ◌<◌}
use native.Mathlib.Omega.{arith}
use lib.IntN.{ℤ, pos}
use lib.ListN.{get_or}
use lib.Seq.{get_or-take}
use lib.Signed.{mag}
use mir.Syntax.{w64}
use mir.ValLaws.{to_z-of_z}
use Rattle.method.specs.Sheet.{quote_count}
use Rattle.method.specs.Extrapolation.{convergence_factor}
use Rattle.method.specs.Curve.{factor_of}
use Rattle.sheet.specs.Views.{as_profile, as_numbers}
use Rattle.bootstrap.proofs.Order.{rate_fits, narrow_read}
use Rattle.curve.proofs.factor_of.Goals as goal
use Rattle.curve.proofs.factor_of.Goals.{After-market-smoothing}

module _ (m : After-market-smoothing) where
  abbrev smoothing : ℕ
  smoothing = m.market-smoothing.result.smoothing

  abbrev rate : ℤ
  rate = get_or m.args.n.rates smoothing (pos 0)

  -- it is quoted
  rate_is : get_or (as_numbers m.args.n).rates smoothing (pos 0) ≡ rate
  rate_is =
      let market = m.market-smoothing.ensures in
      let quoted : smoothing < quote_count (as_profile m.args.n.profile) = omega (arith, market.inside, market.quotes) in
      get_or-take (quote_count (as_profile m.args.n.profile)) m.args.n.rates smoothing (pos 0) quoted

  small : mag rate ≤ 12_000
  small = subst (λ (z : ℤ). mag z ≤ 12_000) rate_is (m.args.n.in_range.rate_range smoothing).small

pub returns : goal.returns
unfolding factor_of
returns c =
    let m = (goal.at.returns c).After-market-smoothing in
    let n = c.args.n in
    let read = to_z-of_z w64 (rate m) (rate_fits (rate m) (small m)) in
    let worked = rw (narrow_read (rate m) (small m), read) at c.factor.ensures.0 in
    let is = sym (rate_is m) ∙ ap (λ (i : ℕ). get_or (as_numbers n).rates i (pos 0)) c.market-smoothing.ensures.smoothing in
    (worked ∙ ap (convergence_factor n.phase_in) is, c.factor.ensures.1)
