-- The bytes of the records, summed.
use mathlib.Core.Path.{◌≡◌}
use native.Mathlib.Omega.{arith}
use Rattle.method.specs.Sheet.{volume_count}
use Rattle.method.proofs.Slots.{size_is}
use Rattle.sheet.specs.Views.{as_layout}
use Rattle.sheet.proofs.Layout.size.Goals as goal

pub returns : goal.returns
returns c =
    let market = c.market-market.ensures in
    let count : c.volumes.result ≡ volume_count (as_layout c.args.self).profile = omega (arith, c.volumes.ensures, market.quotes, market.smoothing) in (
      omega (arith, size_is (as_layout c.args.self), market.quotes, count, c.if_stands.ensures.0, c.if_stands-2.ensures.0, c.if_stands-3.ensures.0),
      omega (arith, market.most, market.volumes, c.volumes.ensures, c.if_stands.ensures.1, c.if_stands-2.ensures.1, c.if_stands-3.ensures.1),
    )
