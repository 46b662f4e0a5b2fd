-- Inputs and what is printed for them, byte by byte: a wrong line or a wrong offset shows here in numbers.
use Rattle.std.proofs.Common.{◌≡◌, ℕ, List, [], ◌∷◌, ◌++◌, replicate, refl}
use Rattle.figures.specs.Figures.{sheet_of, rate_records, volume_records, three_percent}
use Rattle.method.proofs.Computes.{computes}
use Rattle.zero_rates.proofs.Computes.{rates_compute}
use Rattle.ledger.specs.Book.{post, post_outcome, turn, turn_outcome, look_in}
use Rattle.journal.specs.Journal.{desk_front}
use Rattle.desk_core.specs.Lines.{digits_to}
use Rattle.desk_core.specs.Desk.{printed_from, printed}

-- opens what the examples compute with
opens : ℕ
unfolding computes rates_compute rate_records volume_records post post_outcome turn turn_outcome look_in desk_front digits_to printed_from printed
opens = 0

-- ---- the specification's

-- year 1, month 5, month 4, year 0
records : List ℕ
records = 0x4C ∷ 0x01 ∷ 0x4D ∷ 0x00 ∷ 0x05 ∷ 0x4D ∷ 0x00 ∷ 0x04 ∷ 0x4C ∷ 0x00 ∷ []

-- R 14 0, M 5, R 12 0, R 13 0
lines : List ℕ
lines =
    (0x52 ∷ 0x20 ∷ 0x31 ∷ 0x34 ∷ 0x20 ∷ 0x30 ∷ 0x0A ∷ [])
    ++ (0x4D ∷ 0x20 ∷ 0x35 ∷ 0x0A ∷ [])
    ++ (0x52 ∷ 0x20 ∷ 0x31 ∷ 0x32 ∷ 0x20 ∷ 0x30 ∷ 0x0A ∷ [])
    ++ (0x52 ∷ 0x20 ∷ 0x31 ∷ 0x33 ∷ 0x20 ∷ 0x30 ∷ 0x0A ∷ [])

-- X 10
x_10 : List ℕ
x_10 = 0x58 ∷ 0x20 ∷ 0x31 ∷ 0x30 ∷ 0x0A ∷ []

unknown_kind : printed (records ++ (0x51 ∷ [])) ≡ lines ++ x_10
unfolding opens records lines x_10
unknown_kind = refl

cut_body : printed (records ++ (0x4D ∷ 0x00 ∷ [])) ≡ lines ++ x_10
unfolding opens records lines x_10
cut_body = refl

-- a sheet with a byte less than its length says; a length of one byte
cut_sheet : printed (records ++ (0x50 ∷ 0x00 ∷ 0x03 ∷ 7 ∷ 8 ∷ [])) ≡ lines ++ x_10
unfolding opens records lines x_10
cut_sheet = refl

cut-length : printed (records ++ (0x50 ∷ 0x00 ∷ [])) ≡ lines ++ x_10
unfolding opens records lines x_10
cut-length = refl

ends_before_a_kind : printed records ≡ lines
unfolding opens records lines
ends_before_a_kind = refl

nothing_at_all : printed [] ≡ []
unfolding opens
nothing_at_all = refl

-- ---- a sheet

-- month 5 is told, the sheet of 3% posted, year 21 looked up: M 5, P 0, L 21 537549266 537549282 0 5
found : List ℕ
found =
    (0x4D ∷ 0x20 ∷ 0x35 ∷ 0x0A ∷ [])
    ++ (0x50 ∷ 0x20 ∷ 0x30 ∷ 0x0A ∷ [])
    ++ (0x4C ∷ 0x20 ∷ 0x32 ∷ 0x31 ∷ [])
    ++ (0x20 ∷ 0x35 ∷ 0x33 ∷ 0x37 ∷ 0x35 ∷ 0x34 ∷ 0x39 ∷ 0x32 ∷ 0x36 ∷ 0x36 ∷ [])
    ++ (0x20 ∷ 0x35 ∷ 0x33 ∷ 0x37 ∷ 0x35 ∷ 0x34 ∷ 0x39 ∷ 0x32 ∷ 0x38 ∷ 0x32 ∷ [])
    ++ (0x20 ∷ 0x30 ∷ 0x20 ∷ 0x35 ∷ 0x0A ∷ [])

told_posted_found : printed (0x4D ∷ 0x00 ∷ 0x05 ∷ 0x50 ∷ 0x00 ∷ 109 ∷ three_percent 100_000 ++ (0x4C ∷ 21 ∷ [])) ≡ found
unfolding opens found
told_posted_found = refl

-- a sheet whose year 10 has no high rate up to 100,000: P 0, R 17 0
steep : List ℕ
steep = sheet_of 0 (replicate 9 0 ++ replicate 8 11_111) (replicate 5 1) 10_000 100_000

posted_unrated : printed (0x50 ∷ 0x00 ∷ 109 ∷ steep ++ (0x4C ∷ 10 ∷ []))
    ≡ (0x50 ∷ 0x20 ∷ 0x30 ∷ 0x0A ∷ []) ++ (0x52 ∷ 0x20 ∷ 0x31 ∷ 0x37 ∷ 0x20 ∷ 0x30 ∷ 0x0A ∷ [])
unfolding opens steep
posted_unrated = refl

-- 109 zeros are no sheet: R 2 1
no_sheet : printed (0x50 ∷ 0x00 ∷ 109 ∷ replicate 109 0) ≡ 0x52 ∷ 0x20 ∷ 0x32 ∷ 0x20 ∷ 0x31 ∷ 0x0A ∷ []
unfolding opens
no_sheet = refl

-- nor are 3 bytes or none, whose records are whole: R 1 0, and a year is looked up, R 14 0
wrong_length_lem : printed (0x50 ∷ 0x00 ∷ 0x03 ∷ 7 ∷ 8 ∷ 9 ∷ 0x50 ∷ 0x00 ∷ 0x00 ∷ 0x4C ∷ 0x01 ∷ [])
    ≡ (0x52 ∷ 0x20 ∷ 0x31 ∷ 0x20 ∷ 0x30 ∷ 0x0A ∷ [])
    ++ (0x52 ∷ 0x20 ∷ 0x31 ∷ 0x20 ∷ 0x30 ∷ 0x0A ∷ [])
    ++ (0x52 ∷ 0x20 ∷ 0x31 ∷ 0x34 ∷ 0x20 ∷ 0x30 ∷ 0x0A ∷ [])
unfolding opens
wrong_length_lem = refl
