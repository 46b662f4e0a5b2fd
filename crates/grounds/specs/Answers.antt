-- The one view from the code's grounds to the method's, and from an answer of the code, a value or the ground for turning the call down, to
-- the method's outcome.
use Rattle.std.specs.Prelude.{ℕ, Result}
use Rattle.std.specs.declared.result.Result.TheVariants.{Ok, Err}
use Rattle.method.specs.Grounds as method
use Rattle.method.specs.Grounds.{Outcome, refused, done, number_of, place_of}
use Rattle.grounds.specs.declared.Ground.{Ground}
use Rattle.grounds.specs.declared.Ground.TheVariants as code

abbrev pub as_ground : Ground → method.Ground
as_ground code.WrongLength = method.wrong_length
as_ground (code.WrongRecord i) = method.wrong_record i
as_ground (code.OutOfRange i) = method.out_of_range i
as_ground code.NoVolume = method.no_volume
as_ground code.AfterToldMonth = method.after_told_month
as_ground code.BeforeStandingCurve = method.before_standing_curve
as_ground (code.LowBelowOne t) = method.low_below_one t
as_ground (code.HighAboveLimit t) = method.high_above_limit t
as_ground (code.EndFailsTest t) = method.end_fails_test t
as_ground (code.BandTooWide t) = method.band_too_wide t
as_ground code.MonthAboveLast = method.month_above_last
as_ground code.MonthBeforeTold = method.month_before_told
as_ground code.YearOutside = method.year_outside
as_ground code.NoCurve = method.no_curve
as_ground code.BufferTooShort = method.buffer_too_short
as_ground code.AgeAboveLimit = method.age_above_limit
as_ground code.NoHighRate = method.no_high_rate
as_ground code.NoPostLeft = method.no_post_left
as_ground code.UnknownProfile = method.unknown_profile
as_ground code.WrongCount = method.wrong_count
as_ground (code.FlowYearOutside i) = method.flow_year_outside i
as_ground (code.CentsAboveLimit i) = method.cents_above_limit i
as_ground code.NoShift = method.no_shift

-- the value by the view of its type
abbrev pub outcome_of : {A B : Type 0} → (A → B) → Result A Ground → Outcome B
outcome_of view (Ok a) = done (view a)
outcome_of view (Err g) = refused (as_ground g)

-- where the value is one of the definitions' own
abbrev pub as_answered : {A : Type 0} → Result A Ground → Outcome A
as_answered r = outcome_of (λ a. a) r

-- ---- number and place, 0 and 0 where nothing was refused

abbrev pub refusal_number : {A : Type 0} → Result A Ground → ℕ
refusal_number (Ok a) = 0
refusal_number (Err g) = number_of (as_ground g)

abbrev pub refusal_place : {A : Type 0} → Result A Ground → ℕ
refusal_place (Ok a) = 0
refusal_place (Err g) = place_of (as_ground g)
