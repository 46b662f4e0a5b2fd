-- SPECIFICATION 12: the figures marked *, those marked +, those of the phase-in, of dropped quotes, of the adjustment and of the markets, each as one list;
-- and those that a known logarithm or growth had earlier, at slack 1.
use Rattle.std.specs.Prelude.{◌≡◌, List, [], ◌∷◌, ◌++◌, map, ℕ, zero, suc, ◌+◌, ◌-◌, ℤ, pos, negsuc, replicate, get_or, take, drop}
use Rattle.fraction.specs.Rounding.{U}
use Rattle.method.specs.Bytes.{bytes2, bytes4}
use Rattle.method.specs.Units.{Which, plain, adjusted, Pair, pair, SignedPair}
use Rattle.method.specs.Grounds.{number_of, place_of, Outcome, refused, done}
use Rattle.method.specs.Sheet.{maturities}
use Rattle.method.specs.Quotes.{Bootstrap, bootstrap, quotes_of}
use Rattle.method.specs.Series.{GWith, G, growth_low, growth_high_with, growth_high}
use Rattle.method.specs.Extrapolation.{convergence_factor, weights}
use Rattle.method.specs.Curve.{Curve, Held, none, some, Curves, curve_named, answer}
use Rattle.method.specs.Earlier.{earlier_answer}

-- ---- sheets, byte by byte

unfoldable pub rate_records : List ℕ → List ℕ → List ℕ
rate_records [] rs = []
rate_records (m ∷ ms) [] = []
rate_records (m ∷ ms) (r ∷ rs) = 0x02 ∷ m ∷ bytes2 r ++ rate_records ms rs

unfoldable pub volume_records : List ℕ → List ℕ → List ℕ
volume_records [] vs = []
volume_records (m ∷ ms) [] = []
volume_records (m ∷ ms) (v ∷ vs) = 0x03 ∷ m ∷ bytes4 v ++ volume_records ms vs

-- of volumes at these maturities, and any month, rates (16-bit numbers), volumes, ultimate rate and limit
abbrev pub sheet_at : List ℕ → ℕ → List ℕ → List ℕ → ℕ → ℕ → List ℕ
sheet_at traded month rates volumes ufr limit =
    0x01 ∷ bytes2 month
    ++ rate_records maturities rates
    ++ volume_records traded volumes
    ++ 0x04 ∷ bytes2 ufr
    ++ 0x05 ∷ bytes4 limit

-- the euro's
abbrev pub sheet_of : ℕ → List ℕ → List ℕ → ℕ → ℕ → List ℕ
sheet_of = sheet_at (20 ∷ 25 ∷ 30 ∷ 40 ∷ 50 ∷ [])

-- a smaller market's: its profile, the smoothing year, the rates and the volume there
abbrev pub market_sheet : ℕ → ℕ → List ℕ → ℕ → List ℕ
market_sheet profile year rates volume = 0x08 ∷ profile ∷ sheet_at (year ∷ []) 0 rates (volume ∷ []) 345 100_000

-- profiles 2 and 3, with volume 1
abbrev pub to_ten : List ℕ → List ℕ
to_ten rates = market_sheet 2 10 rates 1

abbrev pub to_fifteen : List ℕ → List ℕ
to_fifteen rates = market_sheet 3 15 rates 1

-- the zero sheet with other rates and limit
abbrev pub sheet_with : List ℕ → ℕ → List ℕ
sheet_with rates limit = sheet_of 0 rates (replicate 5 1) 0 limit

-- month, rates and UFR 0, volumes 1
abbrev pub zero_sheet : ℕ → List ℕ
zero_sheet limit = sheet_with (replicate 17 0) limit

-- -2,000 in 16 bits
abbrev pub minus2000 : ℕ
minus2000 = 0xF830

-- n below 0 in 16 bits
abbrev pub minus : ℕ → ℕ
minus n = 0x10000 - n

-- a sheet of low rates, with the phase-in paper's 20-year rate of November 2020, 0.014%
abbrev pub november_rates : List ℕ
november_rates =
    minus 52 ∷ minus 53 ∷ minus 51 ∷ minus 48 ∷ minus 44 ∷ minus 39 ∷ minus 33 ∷ minus 27 ∷ minus 21 ∷ minus 15 ∷ minus 4 ∷ 5 ∷ 14 ∷ 12 ∷ 8 ∷ minus 2
    ∷ minus 9 ∷ []

abbrev pub november : List ℕ
november = sheet_of 0 november_rates (14 ∷ 5 ∷ 40 ∷ 6 ∷ 8 ∷ []) 360 100_000

-- with a 26th record
abbrev pub phased : List ℕ → ℕ → List ℕ
phased s x = s ++ 0x06 ∷ bytes2 x

-- with the adjustment's record last
abbrev pub adjusted_by : List ℕ → ℕ → List ℕ
adjusted_by s a = s ++ 0x07 ∷ bytes2 a

-- rates and UFR of 3%
abbrev pub three_percent : ℕ → List ℕ
three_percent limit = sheet_of 0 (replicate 17 3_000) (replicate 5 1) 3_000 limit

-- rates far below 0 that rise past 20 years, traded at 20 all but alone
abbrev pub deep_rates : List ℕ
deep_rates =
    sheet_of 0 (replicate 13 (minus 1_900) ++ minus 1_750 ∷ minus 1_600 ∷ minus 1_400 ∷ minus 1_300 ∷ []) (1_000_000 ∷ replicate 4 1) 0 100_000

-- a sheet of rising rates, with these volumes
abbrev pub rising_rates : List ℕ
rising_rates =
    500 ∷ 700 ∷ 900 ∷ 1_100 ∷ 1_300 ∷ 1_500 ∷ 1_700 ∷ 1_850 ∷ 2_000 ∷ 2_100 ∷ 2_250 ∷ 2_400 ∷ 2_500 ∷ 2_550 ∷ 2_580 ∷ 2_590 ∷ 2_580 ∷ []

abbrev pub traded_as : List ℕ → List ℕ → List ℕ
traded_as rates volumes = sheet_of 0 rates volumes 345 100_000

-- 3,000 but for the 25-year rate
abbrev pub high_at25 : ℕ → List ℕ
high_at25 rate = replicate 13 3_000 ++ rate ∷ replicate 3 3_000

-- the 25-year quote named as one of 26
abbrev pub renamed25 : List ℕ → List ℕ
renamed25 s = take 56 s ++ 26 ∷ drop 57 s

-- ---- what is read off an answer, as numbers

abbrev pub ends : List Pair → List ℤ
ends [] = []
ends (p ∷ ps) = pos p.low ∷ pos p.high ∷ ends ps

abbrev pub signed_ends : SignedPair → List ℤ
signed_ends p = p.low ∷ p.high ∷ []

unfoldable pub factors_of : Outcome Bootstrap → List Pair
factors_of (refused g) = []
factors_of (done b) = b.factors

-- years from `first` on, so many of them
unfoldable pub years_in : ℕ → ℕ → Held Curve → List Pair
years_in first n none = []
years_in first zero (some c) = []
years_in first (suc n) (some c) = pair (get_or c.lows (first - 1) 0) (get_or c.highs (first - 1) 0) ∷ years_in (first + 1) n (some c)

unfoldable pub years_of : Which → ℕ → ℕ → Outcome Curves → List Pair
years_of w first n (refused g) = []
years_of w first n (done cs) = years_in first n (curve_named w cs)

-- number and place, 0 and 0 where the sheet is accepted
unfoldable pub answer_of : Outcome Curves → List ℤ
answer_of (refused g) = pos (number_of g) ∷ pos (place_of g) ∷ []
answer_of (done cs) = pos 0 ∷ pos 0 ∷ []

-- ---- the figures: what the definitions compute, beside what is stated

pub record Figure : Type 0 where
  pub computed : List ℤ
  pub stated : List ℕ

infixl 2 ◌is◌
abbrev pub ◌is◌ : List ℤ → List ℕ → Figure
◌is◌ c s = record { computed = c; stated = s }

-- one test for any list of them
abbrev pub FiguresHold : List Figure → Type 0
FiguresHold fs = map (λ f. f.computed) fs ≡ map (λ f. map pos f.stated) fs

-- marked *, of quotes: rate 1 at 3,000; rate 2 too; rate 1 at -500
abbrev pub quote_figures : List Figure
quote_figures =
    (ends (factors_of (bootstrap (quotes_of (1 ∷ []) (pos 3_000 ∷ [])))) is (970_873_786 ∷ 970_873_787 ∷ []))
    ∷ (ends (factors_of (bootstrap (quotes_of (1 ∷ 2 ∷ []) (pos 3_000 ∷ pos 3_000 ∷ [])))) is (970_873_786 ∷ 970_873_787 ∷ 942_595_909 ∷ 942_595_910 ∷ []))
    ∷ (ends (factors_of (bootstrap (quotes_of (1 ∷ []) (negsuc 499 ∷ [])))) is (1_005_025_125 ∷ 1_005_025_126 ∷ []))
    ∷ []

-- marked *
unfoldable pub marked : List Figure
marked =
    quote_figures
    -- G(U), E(0), the high of E(1)
    ++ (signed_ends (G U) is (0 ∷ 0 ∷ []))
    ∷ (ends (pair (growth_low 0) (growth_high 0) ∷ []) is (U ∷ U ∷ []))
    ∷ (pos (growth_high 1) ∷ [] is (1_000_000_008 ∷ []))
    -- the zero sheet: every year, and the smallest limit
    ∷ (ends (years_of plain 1 150 (answer (zero_sheet 1))) is replicate 300 U)
    ∷ (answer_of (answer (zero_sheet 1)) is (0 ∷ 0 ∷ []))
    ∷ []

-- marked +
unfoldable pub others : List Figure
others =
    -- rates of 3% with UFR 0: year 150
    (ends (years_of plain 150 1 (answer (sheet_with (replicate 17 3_000) 100_000))) is (411_986_547 ∷ 411_987_183 ∷ []))
    -- all rates at -2,000; 1 to 9 at -2,000 and 10 at 12,000; all at 3,000 but 12 at 12,000
    ∷ (answer_of (answer (sheet_with (replicate 17 minus2000) 100_000)) is (8 ∷ 35 ∷ []))
    ∷ (answer_of (answer (sheet_with (replicate 9 minus2000 ++ 12_000 ∷ replicate 7 0) 100_000)) is (7 ∷ 10 ∷ []))
    ∷ (answer_of (answer (sheet_with (replicate 10 3_000 ++ 12_000 ∷ replicate 6 3_000) 100_000)) is (9 ∷ 12 ∷ []))
    ∷ []

-- the phase-in's
unfoldable pub phase_in_figures : List Figure
phase_in_figures =
    -- the phase-in paper's own factors, at X 20,000 and 20-year rates of 0.014%, -0.086%, -0.186%, 0.114%, 0.214%
    (map (λ r. pos (convergence_factor 20_000 r)) (pos 14 ∷ negsuc 85 ∷ negsuc 185 ∷ pos 114 ∷ pos 214 ∷ [])
    is (14_860_000 ∷ 15_860_000 ∷ 16_860_000 ∷ 13_860_000 ∷ 12_860_000 ∷ []))
    -- the rate is cut; 10,000 adds nothing
    ∷ (map (λ r. pos (convergence_factor 20_000 r)) (negsuc 1_999 ∷ negsuc 499 ∷ pos 500 ∷ pos 12_000 ∷ [])
    is (20_000_000 ∷ 20_000_000 ∷ 10_000_000 ∷ 10_000_000 ∷ []))
    ∷ (pos (convergence_factor 10_000 (negsuc 499)) ∷ [] is (10_000_000 ∷ []))
    -- at 14.86%: E at ten times the factor; κ of h = 1, 2 and 130
    ∷ (ends (pair (growth_low 148_600_000) (growth_high 148_600_000) ∷ []) is (1_160_208_810 ∷ 1_160_208_816 ∷ []))
    ∷ (ends (take 2 (weights 14_860_000 130)) is (929_247_550 ∷ 929_247_585 ∷ 800_931_295 ∷ 800_931_331 ∷ []))
    ∷ (ends (drop 129 (weights 14_860_000 130)) is (0 ∷ 8 ∷ []))
    -- November with X 20,000: years 21, 60, 150; and year 150 without the record
    ∷ (ends (years_of plain 21 1 (answer (phased november 20_000))) is (996_928_761 ∷ 996_928_786 ∷ []))
    ∷ (ends (years_of plain 60 1 (answer (phased november 20_000))) is (884_663_358 ∷ 884_664_093 ∷ []))
    ∷ (ends (years_of plain 150 1 (answer (phased november 20_000))) is (640_244_924 ∷ 640_246_623 ∷ []))
    ∷ (ends (years_of plain 150 1 (answer november)) is (647_775_926 ∷ 647_777_646 ∷ []))
    -- 110, 111 and 113 bytes; another kind; X beyond its range
    ∷ (answer_of (answer (november ++ 0x06 ∷ [])) is (1 ∷ 0 ∷ []))
    ∷ (answer_of (answer (november ++ 0x06 ∷ 78 ∷ [])) is (1 ∷ 0 ∷ []))
    ∷ (answer_of (answer (phased november 20_000 ++ 0 ∷ [])) is (1 ∷ 0 ∷ []))
    ∷ (answer_of (answer (november ++ 0x05 ∷ bytes2 20_000)) is (2 ∷ 26 ∷ []))
    ∷ (answer_of (answer (phased november 9_999)) is (3 ∷ 26 ∷ []))
    ∷ (answer_of (answer (phased november 20_001)) is (3 ∷ 26 ∷ []))
    ∷ []

-- those of dropped quotes
unfoldable pub dropped_figures : List Figure
dropped_figures =
    -- year 21 with volume at 20 and 50, at 20 and 30, at 20 alone; year 150 of the first
    (ends (years_of plain 21 1 (answer (traded_as rising_rates (1 ∷ 0 ∷ 0 ∷ 0 ∷ 1 ∷ [])))) is (584_050_196 ∷ 584_050_213 ∷ []))
    ∷ (ends (years_of plain 21 1 (answer (traded_as rising_rates (1 ∷ 0 ∷ 1 ∷ 0 ∷ 0 ∷ [])))) is (583_661_829 ∷ 583_661_847 ∷ []))
    ∷ (ends (years_of plain 21 1 (answer (traded_as rising_rates (1 ∷ 0 ∷ 0 ∷ 0 ∷ 0 ∷ [])))) is (583_457_516 ∷ 583_457_533 ∷ []))
    ∷ (ends (years_of plain 150 1 (answer (traded_as rising_rates (1 ∷ 0 ∷ 0 ∷ 0 ∷ 1 ∷ [])))) is (301_117_935 ∷ 301_118_796 ∷ []))
    -- a 25-year rate of 12,000 fails 9, and where it is dropped does nothing; so does one of 50 years where 40 is dropped
    ∷ (answer_of (answer (traded_as (high_at25 12_000) (replicate 5 1))) is (9 ∷ 25 ∷ []))
    ∷ (ends (years_of plain 150 1 (answer (traded_as (high_at25 12_000) (1 ∷ 0 ∷ replicate 3 1)))) is (272_517_314 ∷ 272_518_113 ∷ []))
    ∷ (answer_of (answer (traded_as (replicate 16 3_000 ++ 12_000 ∷ []) (1 ∷ 1 ∷ 1 ∷ 0 ∷ 1 ∷ []))) is (9 ∷ 50 ∷ []))
    -- rates below 0, over a gap of thirty years; all at -2,000, with it and without
    ∷ (ends (years_of plain 20 1 (answer (traded_as (replicate 17 (minus 500)) (1 ∷ 0 ∷ 0 ∷ 0 ∷ 1 ∷ [])))) is (1_105_448_169 ∷ 1_105_448_171 ∷ []))
    ∷ (ends (years_of plain 150 1 (answer (traded_as (replicate 17 (minus 500)) (1 ∷ 0 ∷ 0 ∷ 0 ∷ 1 ∷ [])))) is (768_808_537 ∷ 768_810_555 ∷ []))
    ∷ (answer_of (answer (traded_as (replicate 17 minus2000) (1 ∷ 0 ∷ 0 ∷ 0 ∷ 1 ∷ []))) is (8 ∷ 35 ∷ []))
    ∷ (answer_of (answer (traded_as (replicate 17 minus2000) (1 ∷ 0 ∷ 0 ∷ 0 ∷ 0 ∷ []))) is (0 ∷ 0 ∷ []))
    -- a dropped quote is tested like any other: the 25-year quote under another maturity, and beyond its range; no volume at all
    ∷ (answer_of (answer (renamed25 (traded_as rising_rates (1 ∷ 0 ∷ 0 ∷ 0 ∷ 1 ∷ [])))) is (2 ∷ 15 ∷ []))
    ∷ (answer_of (answer (traded_as (high_at25 12_001) (1 ∷ 0 ∷ 0 ∷ 0 ∷ 1 ∷ []))) is (3 ∷ 15 ∷ []))
    ∷ (answer_of (answer (traded_as rising_rates (replicate 5 0))) is (4 ∷ 0 ∷ []))
    ∷ []

-- those of the adjustment
unfoldable pub adjustment_figures : List Figure
adjustment_figures =
    -- 3% with an adjustment of 100: years 1, 20 and 150 of the adjusted curve; year 150 of the plain one, with it and without
    (ends (years_of adjusted 1 1 (answer (adjusted_by (three_percent 100_000) 100))) is (969_903_391 ∷ 969_903_399 ∷ []))
    ∷ (ends (years_of adjusted 20 1 (answer (adjusted_by (three_percent 100_000) 100))) is (542_712_164 ∷ 542_712_255 ∷ []))
    ∷ (ends (years_of adjusted 150 1 (answer (adjusted_by (three_percent 100_000) 100))) is (11_610_751 ∷ 11_610_817 ∷ []))
    ∷ (ends (years_of plain 150 1 (answer (adjusted_by (three_percent 100_000) 100))) is (11_869_019 ∷ 11_869_083 ∷ []))
    ∷ (ends (years_of plain 150 1 (answer (three_percent 100_000))) is (11_869_019 ∷ 11_869_083 ∷ []))
    -- November with X 20,000 and an adjustment of -75
    ∷ (ends (years_of adjusted 20 1 (answer (adjusted_by (phased november 20_000) (minus 75)))) is (1_012_269_593 ∷ 1_012_269_756 ∷ []))
    ∷ (ends (years_of adjusted 150 1 (answer (adjusted_by (phased november 20_000) (minus 75)))) is (650_550_363 ∷ 650_552_197 ∷ []))
    -- an adjustment of 0 is a curve, the plain one; a sheet without one has none
    ∷ (ends (years_of adjusted 1 150 (answer (adjusted_by (zero_sheet 1) 0))) is replicate 300 U)
    ∷ (ends (years_of adjusted 20 1 (answer (zero_sheet 100_000))) is [])
    -- 8 and 10 on the adjusted curve alone, after the plain one's 10
    ∷ (answer_of (answer deep_rates) is (0 ∷ 0 ∷ []))
    ∷ (answer_of (answer (adjusted_by deep_rates (minus 500))) is (8 ∷ 41 ∷ []))
    ∷ (answer_of (answer (adjusted_by (three_percent 159) 100)) is (10 ∷ 51 ∷ []))
    ∷ (answer_of (answer (adjusted_by (three_percent 160) 100)) is (10 ∷ 29 ∷ []))
    -- another kind; beyond the range on either side; before the phase-in's record; 113 and 116 bytes
    ∷ (answer_of (answer (zero_sheet 100_000 ++ 0x05 ∷ 0 ∷ 0 ∷ [])) is (2 ∷ 26 ∷ []))
    ∷ (answer_of (answer (adjusted_by (zero_sheet 100_000) 501)) is (3 ∷ 26 ∷ []))
    ∷ (answer_of (answer (adjusted_by (zero_sheet 100_000) (minus 501))) is (3 ∷ 26 ∷ []))
    ∷ (answer_of (answer (phased (adjusted_by (zero_sheet 100_000) 0) 10_000)) is (2 ∷ 26 ∷ []))
    ∷ (answer_of (answer (adjusted_by (zero_sheet 100_000) 0 ++ 0 ∷ [])) is (1 ∷ 0 ∷ []))
    ∷ (answer_of (answer (adjusted_by (phased (zero_sheet 100_000) 10_000) 0 ++ 0 ∷ [])) is (1 ∷ 0 ∷ []))
    ∷ []

-- 100, 107, .. by 7, twelve of them
abbrev pub by_sevens : List ℕ
by_sevens = 100 ∷ 107 ∷ 114 ∷ 121 ∷ 128 ∷ 135 ∷ 142 ∷ 149 ∷ 156 ∷ 163 ∷ 170 ∷ 177 ∷ []

-- those of the markets
unfoldable pub market_figures : List Figure
market_figures =
    -- flat at 3,000: profile 2 in years 10, 11 and 150; profile 3 in years 15, 16 and 150
    (ends (years_of plain 10 2 (answer (to_ten (replicate 10 3_000)))) is (744_093_914 ∷ 744_093_916 ∷ 723_334_460 ∷ 723_334_480 ∷ []))
    ∷ (ends (years_of plain 150 1 (answer (to_ten (replicate 10 3_000)))) is (353_841_506 ∷ 353_842_578 ∷ []))
    ∷ (ends (years_of plain 15 2 (answer (to_fifteen (replicate 12 3_000)))) is (641_861_946 ∷ 641_861_948 ∷ 623_954_660 ∷ 623_954_676 ∷ []))
    ∷ (ends (years_of plain 150 1 (answer (to_fifteen (replicate 12 3_000)))) is (310_528_470 ∷ 310_529_388 ∷ []))
    -- profile 3 with X 20,000: the factor goes by the 15-year rate
    ∷ (ends (years_of plain 16 1 (answer (phased (to_fifteen by_sevens) 20_000))) is (971_702_115 ∷ 971_702_138 ∷ []))
    ∷ (ends (years_of plain 150 1 (answer (phased (to_fifteen by_sevens) 20_000))) is (618_168_163 ∷ 618_169_865 ∷ []))
    -- profile 2, nine rates of 3,000: the tenth at 2,000; at 1,800 and at 5,000, where x lies past an end of the halving
    ∷ (ends (years_of plain 11 1 (answer (to_ten (replicate 9 3_000 ++ 2_000 ∷ [])))) is (890_464_081 ∷ 890_464_101 ∷ []))
    ∷ (answer_of (answer (to_ten (replicate 9 3_000 ++ 1_800 ∷ []))) is (9 ∷ 10 ∷ []))
    ∷ (answer_of (answer (to_ten (replicate 9 3_000 ++ 5_000 ∷ []))) is (9 ∷ 10 ∷ []))
    -- 7 of year 10 is tried before that
    ∷ (answer_of (answer (to_ten (replicate 9 minus2000 ++ 12_000 ∷ []))) is (7 ∷ 10 ∷ []))
    -- the euro with its record, and without; a lone 08; profiles 4, 0 and 255, however long the sheet
    ∷ (ends (years_of plain 150 1 (answer (0x08 ∷ 0x01 ∷ november))) is (647_775_926 ∷ 647_777_646 ∷ []))
    ∷ (answer_of (answer (0x08 ∷ [])) is (1 ∷ 0 ∷ []))
    ∷ (answer_of (answer (0x08 ∷ 0x04 ∷ [])) is (19 ∷ 0 ∷ []))
    ∷ (answer_of (answer (0x08 ∷ 0x00 ∷ november)) is (19 ∷ 0 ∷ []))
    ∷ (answer_of (answer (0x08 ∷ 0xFF ∷ 7 ∷ 7 ∷ [])) is (19 ∷ 0 ∷ []))
    -- places count the profile's record: X of profiles 1, 2 and 3 out of range; an adjustment in its place; one behind it; no volume
    ∷ (answer_of (answer (0x08 ∷ 0x01 ∷ phased november 9_999)) is (3 ∷ 27 ∷ []))
    ∷ (answer_of (answer (phased (to_ten (replicate 10 3_000)) 9_999)) is (3 ∷ 16 ∷ []))
    ∷ (answer_of (answer (phased (to_fifteen by_sevens) 9_999)) is (3 ∷ 18 ∷ []))
    ∷ (answer_of (answer (adjusted_by (to_ten (replicate 10 3_000)) 0)) is (2 ∷ 16 ∷ []))
    ∷ (answer_of (answer (adjusted_by (to_fifteen by_sevens) 0)) is (2 ∷ 18 ∷ []))
    ∷ (answer_of (answer (adjusted_by (phased (to_ten (replicate 10 3_000)) 10_000) 0)) is (1 ∷ 0 ∷ []))
    ∷ (answer_of (answer (market_sheet 2 10 (replicate 10 3_000) 0)) is (4 ∷ 0 ∷ []))
    -- a volume at another year than the smoothing year's; profile 3's quotes under profile 2
    ∷ (answer_of (answer (market_sheet 2 15 (replicate 10 3_000) 1)) is (2 ∷ 13 ∷ []))
    ∷ (answer_of (answer (market_sheet 2 15 by_sevens 1)) is (1 ∷ 0 ∷ []))
    ∷ []

-- at slack 1: those marked * as document 01 has them, and others that changed where a known result gains nothing
unfoldable pub earlier_figures : List Figure
earlier_figures =
    quote_figures
    -- G(U), E(0), the high of E(1)
    ++ (signed_ends (GWith 1 U) is (0 ∷ 1 ∷ []))
    ∷ (ends (pair (growth_low 0) (growth_high_with 1 0) ∷ []) is (U ∷ 1_000_000_001 ∷ []))
    ∷ (pos (growth_high_with 1 1) ∷ [] is (1_000_000_008 ∷ []))
    -- the zero sheet: years 1 to 20; 21 and 22; 150; its limit
    ∷ (ends (years_of plain 1 20 (earlier_answer (zero_sheet 100_000))) is replicate 40 U)
    ∷ (ends (years_of plain 21 2 (earlier_answer (zero_sheet 100_000))) is (999_999_992 ∷ 1_000_000_008 ∷ 999_999_984 ∷ 1_000_000_017 ∷ []))
    ∷ (ends (years_of plain 150 1 (earlier_answer (zero_sheet 100_000))) is (999_998_960 ∷ 1_000_001_169 ∷ []))
    ∷ (answer_of (earlier_answer (zero_sheet 2_209)) is (0 ∷ 0 ∷ []))
    ∷ (answer_of (earlier_answer (zero_sheet 2_208)) is (10 ∷ 150 ∷ []))
    -- rates of 3% with UFR 0: year 150
    ∷ (ends (years_of plain 150 1 (earlier_answer (sheet_with (replicate 17 3_000) 100_000))) is (411_986_547 ∷ 411_987_233 ∷ []))
    -- the zero sheet with an adjustment of 0: year 20, its limit
    ∷ (ends (years_of adjusted 20 1 (earlier_answer (adjusted_by (zero_sheet 100_000) 0))) is (999_999_980 ∷ 1_000_000_000 ∷ []))
    ∷ (answer_of (earlier_answer (adjusted_by (zero_sheet 2_208) 0)) is (10 ∷ 150 ∷ []))
    ∷ (answer_of (earlier_answer (adjusted_by (zero_sheet 2_209) 0)) is (10 ∷ 149 ∷ []))
    ∷ []
