-- Named on an `unfolding` line, `computes` opens every definition, so that a closed sheet's curve computes.
use Prim.Native.Nat.{ℕ}
use Rattle.method.specs.Sheet.{maturities, quoted_maturities, volume_maturities, smoothing_year, bytes_of, layout_of, entries_of, size_of, slots_from, slots_of}
use Rattle.method.specs.Sheet.{first_failure, total, read_sheet}
use Rattle.method.specs.Quotes.{annuity, trial, last_of, surely_not_above, surely_not_below, halve, low_x, high_x, quoted_year}
use Rattle.method.specs.Quotes.{inside_years, last_year, used, kept, gap_years, par_year, years_to, bootstrap_from, quotes_of, bootstrap}
use Rattle.method.specs.Series.{added, logarithm_sum, logarithm, GWith, gap_forward_with, ultimate_forward_with, growth_sum, growth}
use Rattle.method.specs.Table.{table}
use Rattle.method.specs.Extrapolation.{llfr_numerator, llfr, convergence_factor, κ_pairs, decay_pair, scale_pair, weights_from, weights}
use Rattle.method.specs.Extrapolation.{forward, step_with, extrapolate_with, steps_with, adjusted_years_with, first_raised, first_too_wide}
use Rattle.method.specs.Curve.{spread, year_over, gap_xs, liquid_of, factor_of, within_limit}
use Rattle.method.specs.Curve.{extended_with, curve_of_with, adjusted_curve_with, curves_of_with, answer_with}
use Rattle.method.specs.Bytes.{big_endian}

unfoldable pub computes : ℕ
unfolding maturities quoted_maturities volume_maturities smoothing_year bytes_of layout_of entries_of size_of slots_from slots_of big_endian first_failure total read_sheet
    annuity trial last_of surely_not_above surely_not_below halve low_x high_x quoted_year inside_years last_year
    used kept gap_years par_year years_to bootstrap_from quotes_of bootstrap
    added logarithm_sum logarithm GWith gap_forward_with ultimate_forward_with growth_sum growth
    table llfr_numerator llfr convergence_factor κ_pairs decay_pair scale_pair weights_from weights
    forward step_with extrapolate_with steps_with adjusted_years_with first_raised first_too_wide
    spread year_over gap_xs liquid_of factor_of within_limit extended_with curve_of_with adjusted_curve_with curves_of_with answer_with
computes = 0
