-- Named on an `unfolding` line, `rates_compute` opens every definition, so that the rates of a closed pair compute.
use Prim.Native.Nat.{ℕ}
use Rattle.method.specs.Quotes.{halve}
use Rattle.zero_rates.specs.Rates.{compound, stays_below, reaches, low_multiplier, high_multiplier}

unfoldable pub rates_compute : ℕ
unfolding halve compound stays_below reaches low_multiplier high_multiplier
rates_compute = 0
