-- SPECIFICATION 9: the grounds, each with its number and place.
use Rattle.std.specs.Prelude.{Bool, true, false, ℕ}

pub data Ground : Type 0 where
  wrong_length : Ground
  wrong_record : ℕ → Ground
  out_of_range : ℕ → Ground
  no_volume : Ground
  after_told_month : Ground
  before_standing_curve : Ground
  low_below_one : ℕ → Ground
  high_above_limit : ℕ → Ground
  end_fails_test : ℕ → Ground
  band_too_wide : ℕ → Ground
  month_above_last : Ground
  month_before_told : Ground
  year_outside : Ground
  no_curve : Ground
  buffer_too_short : Ground
  age_above_limit : Ground
  no_high_rate : Ground
  no_post_left : Ground
  unknown_profile : Ground
  wrong_count : Ground
  flow_year_outside : ℕ → Ground
  cents_above_limit : ℕ → Ground
  no_shift : Ground

abbrev pub number_of : Ground → ℕ
number_of wrong_length = 1
number_of (wrong_record i) = 2
number_of (out_of_range i) = 3
number_of no_volume = 4
number_of after_told_month = 5
number_of before_standing_curve = 6
number_of (low_below_one t) = 7
number_of (high_above_limit t) = 8
number_of (end_fails_test t) = 9
number_of (band_too_wide t) = 10
number_of month_above_last = 11
number_of month_before_told = 12
number_of year_outside = 13
number_of no_curve = 14
number_of buffer_too_short = 15
number_of age_above_limit = 16
number_of no_high_rate = 17
number_of no_post_left = 18
number_of unknown_profile = 19
number_of wrong_count = 20
number_of (flow_year_outside i) = 21
number_of (cents_above_limit i) = 22
number_of no_shift = 23

-- a record from 1, a year, an entry of a list from 1, or 0 where none is named
abbrev pub place_of : Ground → ℕ
place_of wrong_length = 0
place_of (wrong_record i) = i
place_of (out_of_range i) = i
place_of no_volume = 0
place_of after_told_month = 0
place_of before_standing_curve = 0
place_of (low_below_one t) = t
place_of (high_above_limit t) = t
place_of (end_fails_test t) = t
place_of (band_too_wide t) = t
place_of month_above_last = 0
place_of month_before_told = 0
place_of year_outside = 0
place_of no_curve = 0
place_of buffer_too_short = 0
place_of age_above_limit = 0
place_of no_high_rate = 0
place_of no_post_left = 0
place_of unknown_profile = 0
place_of wrong_count = 0
place_of (flow_year_outside i) = i
place_of (cents_above_limit i) = i
place_of no_shift = 0

-- ---- a result, or the first ground that applies

pub data Outcome (A : Type 0) : Type 0 where
  refused : Ground → Outcome A
  done : A → Outcome A

-- what comes next is tried only where nothing was refused
infixl 10 ◌>>=◌
abbrev pub ◌>>=◌ : {A B : Type 0} → Outcome A → (A → Outcome B) → Outcome B
refused g >>= f = refused g
done a >>= f = f a

-- a ground that applies where its test fails
abbrev pub demand : Bool → Ground → Outcome (Unit {0})
demand true g = done tt
demand false g = refused g
