-- 17 where the low is 0, or where even the greatest multiplier falls short; else both rates.
use Rattle.std.proofs.Common.{◌≡◌, ℕ, ◌<◌, sym, ap, ◌∙◌, ap₂, arith}
use Rattle.method.specs.Units.{pair, SignedPair, signed_pair}
use Rattle.method.specs.Grounds.{done}
use Rattle.zero_rates.specs.Rates.{rate_of, rates_of, zero_rates}
use Rattle.rounding.proofs.Machine.{returned}
use Rattle.rate_search.proofs.Turning.{none_of_zero, high_none, high_exists, high_is}
use Rattle.rate_search.proofs.zero_rates.Goals as goal

pub returns-then-low-eq0 : goal.returns-then-low-eq0
returns-then-low-eq0 c =
    let a = c.args in
    sym (ap (λ (l : ℕ). zero_rates a.years (pair l a.high)) c.if-low-eq0.true ∙ none_of_zero a.years a.high)

pub returns-then-short-ge200000 : goal.returns-then-short-ge200000
returns-then-short-ge200000 c =
    let a = c.args in
    sym (high_none a.years a.low _ (omega arith) c.turning_point-short.ensures c.if-short-ge200000.true a.high)

pub returns : goal.returns
returns c =
    let a = c.args in
    let turned = c.turning_point-short.ensures in
    let short = c.if-short-ge200000.false in
    let low_positive : 0 < a.low = omega arith in
    let low = returned (c.rate.ensures ∙ ap rate_of c.low_multiplier.ensures.0) c.rate.type_inv in
    let high = returned (c.rate-2.ensures ∙ ap rate_of (high_is a.years a.low _ low_positive turned short)) c.rate-2.type_inv in
    let exists = high_exists a.years a.low _ low_positive turned short in
    let found : zero_rates a.years (pair a.low a.high) ≡ done (rates_of a.years (pair a.low a.high)) = rw exists in
    ap (λ (r : SignedPair). done r) (ap₂ signed_pair low high) ∙ sym found
