-- The figures of SPECIFICATION 12, by computation over the definitions.
use mathlib.Core.Path.{refl}
use Rattle.figures.specs.Figures.{FiguresHold, marked, others, phase_in_figures, dropped_figures, adjustment_figures, market_figures, earlier_figures}
use Rattle.figures.specs.Figures.{rate_records, volume_records, factors_of, years_in, years_of, answer_of}
use Rattle.method.proofs.Computes.{computes}

pub marked_figures : FiguresHold marked
unfolding computes rate_records volume_records factors_of years_in years_of answer_of marked
marked_figures = refl

pub other_figures : FiguresHold others
unfolding computes rate_records volume_records factors_of years_in years_of answer_of others
other_figures = refl

pub phase_in_figures_lem : FiguresHold phase_in_figures
unfolding computes rate_records volume_records factors_of years_in years_of answer_of phase_in_figures
phase_in_figures_lem = refl

pub dropped_figures_lem : FiguresHold dropped_figures
unfolding computes rate_records volume_records factors_of years_in years_of answer_of dropped_figures
dropped_figures_lem = refl

pub adjustment_figures_lem : FiguresHold adjustment_figures
unfolding computes rate_records volume_records factors_of years_in years_of answer_of adjustment_figures
adjustment_figures_lem = refl

pub market_figures_lem : FiguresHold market_figures
unfolding computes rate_records volume_records factors_of years_in years_of answer_of market_figures
market_figures_lem = refl

pub earlier_figures_lem : FiguresHold earlier_figures
unfolding computes rate_records volume_records factors_of years_in years_of answer_of earlier_figures
earlier_figures_lem = refl
