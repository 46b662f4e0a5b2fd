-- SPECIFICATION 8: the count, from what the calls bring alone. Whatever it needs of a sheet it reads from the bytes in its own words.
use Rattle.std.specs.Prelude.{Bool, true, false, cond, ◌&&◌, List, [], ◌∷◌, map, ℕ, zero, suc, ◌+◌, ◌-◌, ◌*◌, min, leb, ltb, eqb, ℤ, pos, ◌-ℤ◌, length, get_or, drop}
use Rattle.method.specs.Units.{Which, plain, adjusted}
use Rattle.method.specs.Grounds.{Outcome, refused, done}
use Rattle.method.specs.Sheet.{Profile, euro, from_ten, from_fifteen, Numbers}
use Rattle.method.specs.Curve.{Held, none, some, answer}
use Rattle.ledger.specs.Calls.{Call, post_of, turn_to, withdrawal, asks}

-- ---- a sheet's numbers by the offsets of their bytes, the high byte first

abbrev pub byte2 : List ℕ → ℕ → ℕ
byte2 s i = get_or s i 0 * 256 + get_or s (i + 1) 0

abbrev pub byte4 : List ℕ → ℕ → ℕ
byte4 s i = ((get_or s i 0 * 256 + get_or s (i + 1) 0) * 256 + get_or s (i + 2) 0) * 256 + get_or s (i + 3) 0

-- the market: the number behind a first byte of hex 08, and 1 where another byte stands first
abbrev pub market_number : List ℕ → ℕ
market_number s = cond (eqb (get_or s 0 0) 0x08) (get_or s 1 0) 1

-- 2 has ten rates, 3 twelve, each with one volume; 1 has seventeen and five
abbrev pub rates_of : ℕ → ℕ
rates_of m = cond (eqb m 2) 10 (cond (eqb m 3) 12 17)

abbrev pub volumes_of : ℕ → ℕ
volumes_of m = cond (eqb m 2) 1 (cond (eqb m 3) 1 5)

abbrev pub market_named : ℕ → Profile
market_named m = cond (eqb m 2) from_ten (cond (eqb m 3) from_fifteen euro)

-- the byte at which the month's record starts, behind the market's two where they stand
abbrev pub month_start : List ℕ → ℕ
month_start s = cond (eqb (get_or s 0 0) 0x08) 2 0

-- the one at which the volumes start, behind the month's three and four for each rate; and the one behind six for each volume
abbrev pub volumes_start : List ℕ → ℕ
volumes_start s = month_start s + 3 + 4 * rates_of (market_number s)

abbrev pub volumes_end : List ℕ → ℕ
volumes_end s = volumes_start s + 6 * volumes_of (market_number s)

-- the one behind the ultimate rate's three and the limit's five
abbrev pub limit_end : List ℕ → ℕ
limit_end s = volumes_end s + 8

abbrev pub month_of : List ℕ → ℕ
month_of s = byte2 s (month_start s + 1)

abbrev pub limit_of : List ℕ → ℕ
limit_of s = byte4 s (volumes_end s + 4)

-- from 32,768 on a rate or an adjustment is 65,536 less
abbrev pub rate_at : List ℕ → ℕ → ℤ
rate_at s i = pos (byte2 s i) -ℤ pos (cond (leb 32_768 (byte2 s i)) 65_536 0)

-- so many offsets, d apart
unfoldable pub offsets : ℕ → ℕ → ℕ → List ℕ
offsets i d zero = []
offsets i d (suc n) = i ∷ offsets (i + d) d n

-- X, behind a hex 06 that follows the limit; any other sheet counts as 10,000
abbrev pub phase_in_of : List ℕ → ℕ
phase_in_of s = cond (ltb (limit_end s) (length s) && eqb (get_or s (limit_end s) 0) 0x06) (byte2 s (limit_end s + 1)) 10_000

-- the last three bytes are an adjustment's, past those that every sheet of its market has: hex 07 and the number
abbrev pub has_adjustment : List ℕ → Bool
has_adjustment s = ltb (limit_end s) (length s) && eqb (get_or s (length s - 3) 0) 0x07

abbrev pub adjustment_of : List ℕ → ℤ
adjustment_of s = cond (has_adjustment s) (rate_at s (length s - 2)) (pos 0)

-- every sheet carries a plain curve
abbrev pub carries : Which → List ℕ → Bool
carries plain s = true
carries adjusted s = has_adjustment s

-- each rate stands two bytes behind the start of its record, and so does each volume
unfoldable pub typed : List ℕ → Numbers
typed s =
    record {
      profile = market_named (market_number s);
      month = month_of s;
      rates = map (rate_at s) (offsets (month_start s + 5) 4 (rates_of (market_number s)));
      volumes = map (byte4 s) (offsets (volumes_start s + 2) 6 (volumes_of (market_number s)));
      ultimate = byte2 s (volumes_end s + 1);
      limit = limit_of s;
      phase_in = phase_in_of s;
      adjusts = has_adjustment s;
      adjustment = adjustment_of s;
    }

-- ---- a told month, at first 0; the sheets of all accepted posts not withdrawn, at first none, the latest first; how many of them can be
-- withdrawn one after the other, at first 0

pub record Count : Type 0 where
  pub told : ℕ
  pub posts : List (List ℕ)
  pub depth : ℕ

abbrev pub latest : List (List ℕ) → Held (List ℕ)
latest [] = none
latest (s ∷ ss) = some s

-- the last accepted post not withdrawn
abbrev pub last_sheet : Count → Held (List ℕ)
last_sheet c = latest c.posts

abbrev pub is_done : {A : Type 0} → Outcome A → Bool
is_done (refused g) = false
is_done (done a) = true

-- none of 19, 1 to 4 and 7 to 10 applies
abbrev pub works : List ℕ → Bool
works s = is_done (answer s)

-- while there is no sheet 6 does not apply
abbrev pub in_order : Held (List ℕ) → ℕ → Bool
in_order none m = true
in_order (some s) m = leb (month_of s) m

-- 5 with the count's told month, 6 with the month of its sheet
unfoldable pub accepts_sheet : Count → List ℕ → Bool
accepts_sheet c s = works s && (leb (month_of s) c.told && in_order (last_sheet c) (month_of s))

unfoldable pub accepts_month : Count → ℕ → Bool
accepts_month c m = leb m 2_399 && leb c.told m

-- 18 at depth 0
unfoldable pub accepts_withdrawal : Count → Bool
accepts_withdrawal c = ltb 0 c.depth

-- refused calls and questions change nothing
abbrev pub counted : Count → Call → Count
counted c (post_of s) = cond (accepts_sheet c s) (record { told = c.told; posts = s ∷ c.posts; depth = min (c.depth + 1) 3 }) c
counted c (turn_to m) = cond (accepts_month c m) (record { told = m; posts = c.posts; depth = c.depth }) c
counted c withdrawal = cond (accepts_withdrawal c) (record { told = c.told; posts = drop 1 c.posts; depth = c.depth - 1 }) c
counted c (asks q) = c

abbrev pub count_from : Count → List Call → Count
count_from c [] = c
count_from c (d ∷ ds) = count_from (counted c d) ds

abbrev pub nothing : Count
nothing = record { told = 0; posts = []; depth = 0 }

abbrev pub count : List Call → Count
count cs = count_from nothing cs
