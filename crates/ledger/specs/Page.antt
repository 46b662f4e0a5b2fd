-- SPECIFICATION 7: the 1,505 bytes of a page.
use Rattle.std.specs.Prelude.{List, [], ◌∷◌, ◌++◌, ℕ, ◌+◌}
use Rattle.method.specs.Bytes.{bytes2, bytes4}

-- hex 48, month, age
abbrev pub page_head : ℕ → ℕ → List ℕ
page_head month age = 0x48 ∷ bytes2 month ++ bytes2 age

-- hex 59, year, low, high
abbrev pub year_record : ℕ → ℕ → ℕ → List ℕ
year_record year low high = 0x59 ∷ year ∷ bytes4 low ++ bytes4 high

-- the records of the years from `year` on
unfoldable pub year_records : ℕ → List ℕ → List ℕ → List ℕ
year_records year [] highs = []
year_records year (l ∷ lows) [] = []
year_records year (l ∷ lows) (h ∷ highs) = year_record year l h ++ year_records (year + 1) lows highs

unfoldable pub page_bytes : ℕ → ℕ → List ℕ → List ℕ → List ℕ
page_bytes month age lows highs = page_head month age ++ year_records 1 lows highs

abbrev pub page_length : ℕ
page_length = 1_505
