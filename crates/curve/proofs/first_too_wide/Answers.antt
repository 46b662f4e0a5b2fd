-- The chain gives the first index, and one more is the year.
use mathlib.Core.Path.{◌≡◌}
use Prim.Native.Nat.{◌+◌}
use Rattle.std.proofs.Common.{rules, tests}
use Rattle.std.proofs.lemmas.Iterator.{YieldsList-from_slice, YieldsList-from_zip}
use Rattle.std.proofs.lemmas.Iterator.Search.{position_from_yields_List}
use Rattle.std.specs.List.{position, zip}
use Rattle.std.specs.Option.{option_map}
use Rattle.curve.proofs.TooWide.{is_wide, first_wide}
use Rattle.curve.proofs.first_too_wide.Goals as goal

pub returns : goal.returns
returns c =
    let y = c.args.years.now in
    let wide = is_wide c.args.limit in
    let found : c.position.result ≡ position wide (zip y.lows y.highs) =
    position_from_yields_List wide c.position.new.self _ c.position.result c.position.ensures.ran
    (YieldsList-from_zip (YieldsList-from_slice y.lows cc) (YieldsList-from_slice y.highs cc)) (λ x b q k. search (rules, tests)) in
    let year : c.map.result ≡ option_map (λ i. i + 1) c.position.result = search rules in
    rw (year, found) (first_wide c.args.limit y.lows y.highs)
