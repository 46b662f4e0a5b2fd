-- SPECIFICATION 2: the sheet, with grounds 19 and 1 to 4.
use Rattle.std.specs.Prelude.{Bool, true, false, cond, not, ◌&&◌, ◌||◌, List, [], ◌∷◌, ◌++◌, map, ℕ, suc, ◌+◌, ◌-◌, eqb, leb, ltb, ℤ, pos, negsuc, nat_abs, ◌-ℤ◌, length, take, drop, get_or}
use Rattle.std.specs.Int.Signed.{le_z}
use Rattle.method.specs.Bytes.{big_endian}
use Rattle.method.specs.Grounds.{unknown_profile, wrong_length, wrong_record, out_of_range, no_volume, Outcome, done, ◌>>=◌, demand}

-- ---- the records

pub data Kind : Type 0 where
  month : Kind
  rate : Kind
  volume : Kind
  ultimate : Kind
  limit : Kind
  phase_in : Kind
  adjustment : Kind
  profile : Kind

abbrev pub kind_byte : Kind → ℕ
kind_byte month = 0x01
kind_byte rate = 0x02
kind_byte volume = 0x03
kind_byte ultimate = 0x04
kind_byte limit = 0x05
kind_byte phase_in = 0x06
kind_byte adjustment = 0x07
kind_byte profile = 0x08

-- the maturity's bytes and the number's: together the body
abbrev pub maturity_bytes : Kind → ℕ
maturity_bytes month = 0
maturity_bytes rate = 1
maturity_bytes volume = 1
maturity_bytes ultimate = 0
maturity_bytes limit = 0
maturity_bytes phase_in = 0
maturity_bytes adjustment = 0
maturity_bytes profile = 0

abbrev pub number_bytes : Kind → ℕ
number_bytes month = 2
number_bytes rate = 2
number_bytes volume = 4
number_bytes ultimate = 2
number_bytes limit = 4
number_bytes phase_in = 2
number_bytes adjustment = 2
number_bytes profile = 1

abbrev pub body_length : Kind → ℕ
body_length k = maturity_bytes k + number_bytes k

abbrev pub lowest : Kind → ℤ
lowest month = pos 0
lowest rate = negsuc 1_999
lowest volume = pos 0
lowest ultimate = pos 0
lowest limit = pos 1
lowest phase_in = pos 10_000
lowest adjustment = negsuc 499
lowest profile = pos 1

abbrev pub highest : Kind → ℤ
highest month = pos 2_399
highest rate = pos 12_000
highest volume = pos 1_000_000
highest ultimate = pos 10_000
highest limit = pos 100_000
highest phase_in = pos 20_000
highest adjustment = pos 500
highest profile = pos 3

unfoldable pub maturities : List ℕ
maturities = 1 ∷ 2 ∷ 3 ∷ 4 ∷ 5 ∷ 6 ∷ 7 ∷ 8 ∷ 9 ∷ 10 ∷ 12 ∷ 15 ∷ 20 ∷ 25 ∷ 30 ∷ 40 ∷ 50 ∷ []

-- ---- the markets

-- 1 is the euro; 2 smooths from 10 and 3 from 15
pub data Profile : Type 0 where
  euro : Profile
  from_ten : Profile
  from_fifteen : Profile

-- how many of the maturities a market quotes, the first ones; and which of them, from 0, is the smoothing year
pub record Market : Type 0 where
  pub quotes : ℕ
  pub smoothing : ℕ

abbrev pub market_of : Profile → Market
market_of euro = record { quotes = 17; smoothing = 12 }
market_of from_ten = record { quotes = 10; smoothing = 9 }
market_of from_fifteen = record { quotes = 12; smoothing = 11 }

abbrev pub quote_count : Profile → ℕ
quote_count p = (market_of p).quotes

abbrev pub smoothing_index : Profile → ℕ
smoothing_index p = (market_of p).smoothing

-- the volumes run from the smoothing year to the last maturity
abbrev pub volume_count : Profile → ℕ
volume_count p = quote_count p - smoothing_index p

unfoldable pub quoted_maturities : Profile → List ℕ
quoted_maturities p = take (quote_count p) maturities

unfoldable pub volume_maturities : Profile → List ℕ
volume_maturities p = drop (smoothing_index p) (quoted_maturities p)

-- years to it come from the quotes, all later ones from the extrapolation
unfoldable pub smoothing_year : Profile → ℕ
smoothing_year p = get_or maturities (smoothing_index p) 0

-- an adjustment goes with the euro only
abbrev pub adjustable : Profile → Bool
adjustable euro = true
adjustable from_ten = false
adjustable from_fifteen = false

-- by its number; any other than 1 to 3 is turned down (19)
abbrev pub profile_by : ℕ → Profile
profile_by n = cond (eqb n 2) from_ten (cond (eqb n 3) from_fifteen euro)

-- ---- what is due

-- a record's kind, and its maturity (0 where it has none)
pub record Entry : Type 0 where
  pub kind : Kind
  pub maturity : ℕ

abbrev pub entry : Kind → ℕ → Entry
entry k m = record { kind = k; maturity = m }

-- a record that stands only in some sheets
abbrev pub optional : Bool → Kind → List Entry
optional stands k = cond stands (entry k 0 ∷ []) []

unfoldable pub total : List ℕ → ℕ
total [] = 0
total (n ∷ ns) = n + total ns

-- how many bytes some records have, with their kind bytes
unfoldable pub bytes_of : List Entry → ℕ
bytes_of es = total (map (λ e. 1 + body_length e.kind) es)

-- ---- the layout: which records a sheet has

-- whether the profile's record stands first, and the profile; whether the phase-in's follows the limit's, and whether the adjustment's
-- stands last
pub record Layout : Type 0 where
  pub led : Bool
  pub profile : Profile
  pub phased : Bool
  pub adjusts : Bool

unfoldable pub entries_of : Layout → List Entry
entries_of l =
    optional l.led profile
    ++ (entry month 0
    ∷ (map (entry rate) (quoted_maturities l.profile)
    ++ (map (entry volume) (volume_maturities l.profile)
    ++ (entry ultimate 0 ∷ entry limit 0 ∷ (optional l.phased phase_in ++ optional l.adjusts adjustment)))))

unfoldable pub size_of : Layout → ℕ
size_of l = bytes_of (entries_of l)

-- neither the phase-in's record nor the adjustment's
abbrev pub shortest : Bool → Profile → Layout
shortest led p = record { led = led; profile = p; phased = false; adjusts = false }

-- hex 08 stands first
abbrev pub names_profile : List ℕ → Bool
names_profile s = eqb (get_or s 0 0) (kind_byte profile)

-- the euro's also without the record
abbrev pub profile_of : List ℕ → Profile
profile_of s = cond (names_profile s) (profile_by (get_or s 1 0)) euro

-- chosen by the sheet's bytes: past the limit's record stands one more, the adjustment's where the market may have it and the kind byte
-- there is its own, and else the phase-in's; past that one stand both, or the length is wrong
unfoldable pub layout_of : List ℕ → Layout
layout_of s =
    let p = profile_of s in
    let first = size_of (shortest (names_profile s) p) in
    let more = ltb first (length s) in
    let both = ltb (first + 1 + body_length phase_in) (length s) in
    let named = eqb (get_or s first 0) (kind_byte adjustment) in
    record {
      led = names_profile s;
      profile = p;
      phased = more && (both || not (adjustable p && named));
      adjusts = adjustable p && (more && (both || named));
    }

-- a slot: the kind and the maturity that are due there, and the byte at which its record starts
pub record Slot : Type 0 where
  pub kind : Kind
  pub maturity : ℕ
  pub start : ℕ

-- each record starts where the one before it ends
unfoldable pub slots_from : ℕ → List Entry → List Slot
slots_from s [] = []
slots_from s (e ∷ es) = record { kind = e.kind; maturity = e.maturity; start = s } ∷ slots_from (s + 1 + body_length e.kind) es

unfoldable pub slots_of : Layout → List Slot
slots_of l = slots_from 0 (entries_of l)

abbrev pub slot : Kind → ℕ → ℕ → Slot
slot k m s = record { kind = k; maturity = m; start = s }

-- what stands past the last slot
abbrev pub no_slot : Slot
no_slot = slot month 0 0

-- the slot at index i
abbrev pub slot_at : Layout → ℕ → Slot
slot_at l i = get_or (slots_of l) i no_slot

-- ---- a record's body and number

-- a part of the sheet
abbrev pub body_of : List ℕ → Slot → List ℕ
body_of s t = take (body_length t.kind) (drop (t.start + 1) s)

abbrev pub twos_complement16 : ℕ → ℤ
twos_complement16 n = cond (ltb n 0x8000) (pos n) (pos n -ℤ pos 0x10000)

abbrev pub reading : Kind → ℕ → ℤ
reading month n = pos n
reading rate n = twos_complement16 n
reading volume n = pos n
reading ultimate n = pos n
reading limit n = pos n
reading phase_in n = pos n
reading adjustment n = twos_complement16 n
reading profile n = pos n

abbrev pub number_of_record : List ℕ → Slot → ℤ
number_of_record s t = reading t.kind (big_endian 0 (drop (maturity_bytes t.kind) (body_of s t)))

-- ---- grounds 19 and 1 to 4

-- a profile that is named is 1 to 3; a lone hex 08 names none, and has the wrong length
abbrev pub profile_known : List ℕ → Bool
profile_known s = not (names_profile s && ltb 1 (length s)) || (leb 1 (get_or s 1 0) && leb (get_or s 1 0) 3)

abbrev pub maturity_right : Kind → ℕ → List ℕ → Bool
maturity_right month m body = true
maturity_right rate m body = eqb (get_or body 0 0) m
maturity_right volume m body = eqb (get_or body 0 0) m
maturity_right ultimate m body = true
maturity_right limit m body = true
maturity_right phase_in m body = true
maturity_right adjustment m body = true
maturity_right profile m body = true

abbrev pub right_record : List ℕ → Slot → Bool
right_record s t = eqb (get_or s t.start 0) (kind_byte t.kind) && maturity_right t.kind t.maturity (body_of s t)

abbrev pub in_range : List ℕ → Slot → Bool
in_range s t = le_z (lowest t.kind) (number_of_record s t) && le_z (number_of_record s t) (highest t.kind)

-- the place of the first record that fails a test, counted on from i; 0 where none does
unfoldable pub first_failure : (Slot → Bool) → ℕ → List Slot → ℕ
first_failure p i [] = 0
first_failure p i (t ∷ ts) = let rest = first_failure p (suc i) ts in cond (p t) rest i

-- the sheet's numbers
pub record Numbers : Type 0 where
  pub profile : Profile
  pub month : ℕ
  pub rates : List ℤ
  pub volumes : List ℕ
  pub ultimate : ℕ
  pub limit : ℕ
  pub phase_in : ℕ
  pub adjusts : Bool
  pub adjustment : ℤ

-- the indices of the records, from 0
abbrev pub month_index : Layout → ℕ
month_index l = cond l.led 1 0

abbrev pub rate_index : Layout → ℕ
rate_index l = month_index l + 1

abbrev pub volume_index : Layout → ℕ
volume_index l = rate_index l + quote_count l.profile

abbrev pub ultimate_index : Layout → ℕ
ultimate_index l = volume_index l + volume_count l.profile

-- a sheet without the phase-in's record counts as one with 10,000; the adjustment's stands last
abbrev pub numbers_of : Layout → List ℤ → Numbers
numbers_of l zs =
    record {
      profile = l.profile;
      month = nat_abs (get_or zs (month_index l) (pos 0));
      rates = take (quote_count l.profile) (drop (rate_index l) zs);
      volumes = map nat_abs (take (volume_count l.profile) (drop (volume_index l) zs));
      ultimate = nat_abs (get_or zs (ultimate_index l) (pos 0));
      limit = nat_abs (get_or zs (ultimate_index l + 1) (pos 0));
      phase_in = cond l.phased (nat_abs (get_or zs (ultimate_index l + 2) (pos 0))) 10_000;
      adjusts = l.adjusts;
      adjustment = cond l.adjusts (get_or zs (length zs - 1) (pos 0)) (pos 0);
    }

-- the numbers of all records
abbrev pub all_numbers : List ℕ → List ℤ
all_numbers s = map (number_of_record s) (slots_of (layout_of s))

abbrev pub sheet_numbers : List ℕ → Numbers
sheet_numbers s = numbers_of (layout_of s) (all_numbers s)

unfoldable pub read_sheet : List ℕ → Outcome Numbers
read_sheet s = do
  let slots = slots_of (layout_of s)
  _ ← demand (profile_known s) unknown_profile
  _ ← demand (eqb (length s) (size_of (layout_of s))) wrong_length
  let wrong = first_failure (right_record s) 1 slots
  _ ← demand (eqb wrong 0) (wrong_record wrong)
  let outside = first_failure (in_range s) 1 slots
  _ ← demand (eqb outside 0) (out_of_range outside)
  _ ← demand (ltb 0 (total (sheet_numbers s).volumes)) no_volume
  done (sheet_numbers s)
