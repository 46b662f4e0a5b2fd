-- SPECIFICATION 11: records, calls written as bytes. Any bytes mean some list of calls.
use Rattle.std.specs.Prelude.{cond, List, [], ◌∷◌, ◌++◌, ℕ, zero, suc, ◌+◌, ◌<◌, leb, eqb, length, get_or, take, drop}
use Rattle.method.specs.Units.{plain, adjusted}
use Rattle.method.specs.Bytes.{bytes2}
use Rattle.ledger.specs.Answers.{factor, sum}
use Rattle.ledger.specs.Calls.{look_at, page_into, value_of, Call, post_of, turn_to, withdrawal, asks}
use Rattle.ledger.specs.Tells.{read2}

-- what stands at the front of the bytes: the call of a whole record of so many bytes; a record that is cut, or no byte at all;
-- an unknown kind
pub data Front : Type 0 where
  whole : Call → ℕ → Front
  cut : Front
  unknown : Front

-- ---- a post's record: the kind byte, the sheet's length in two bytes, the sheet

abbrev pub sheet_at : ℕ
sheet_at = 3

abbrev pub sheet_length : List ℕ → ℕ
sheet_length s = read2 s 1

abbrev pub sheet_in : List ℕ → List ℕ
sheet_in s = take (sheet_length s) (drop sheet_at s)

-- ---- any record

-- of n bytes, with its kind byte
abbrev pub record_of : List ℕ → ℕ → Call → Front
record_of s n c = cond (leb n (length s)) (whole c n) cut

-- a sheet
abbrev pub post_front : List ℕ → Front
post_front s = record_of s (sheet_at + sheet_length s) (post_of (sheet_in s))

-- a month in two bytes
abbrev pub turn_front : List ℕ → Front
turn_front s = record_of s 3 (turn_to (read2 s 1))

-- a year in one
abbrev pub look_front : List ℕ → Front
look_front s = record_of s 2 (asks (look_at plain factor (get_or s 1 0)))

-- the three that the desk knows
unfoldable pub desk_front : List ℕ → Front
desk_front s =
    cond (eqb (length s) 0) cut
    (cond (eqb (get_or s 0 0) 0x50) (post_front s)
    (cond (eqb (get_or s 0 0) 0x4D) (turn_front s)
    (cond (eqb (get_or s 0 0) 0x4C) (look_front s)
    unknown)))

-- and a withdrawal, which is its kind byte alone
unfoldable pub front : List ℕ → Front
front s = cond (eqb (get_or s 0 0) 0x57) (record_of s 1 withdrawal) (desk_front s)

-- ---- a journal: its records one after the other, read until an unknown kind or a cut record

abbrev pub and_then : Front → (List ℕ → List Call) → List ℕ → List Call
and_then (whole c n) calls s = c ∷ calls (drop n s)
and_then cut calls s = []
and_then unknown calls s = []

-- the first calls, at most so many
unfoldable pub decode_from : ℕ → List ℕ → List Call
decode_from zero s = []
decode_from (suc most) s = and_then (front s) (decode_from most) s

-- all of them: each takes at least a byte
unfoldable pub decode : List ℕ → List Call
decode s = decode_from (length s) s

-- ---- the other way: a call as bytes. A page, a sum and a look-up of the adjusted curve, which leave the book as it is, are not written

unfoldable pub encoded : Call → List ℕ
encoded (post_of s) = 0x50 ∷ bytes2 (length s) ++ s
encoded (turn_to m) = 0x4D ∷ bytes2 m
encoded withdrawal = 0x57 ∷ []
encoded (asks (look_at plain factor y)) = 0x4C ∷ y ∷ []
encoded (asks (look_at plain sum y)) = []
encoded (asks (look_at adjusted v y)) = []
encoded (asks (page_into w l)) = []
encoded (asks (value_of fs)) = []

abbrev pub encode : List Call → List ℕ
encode [] = []
encode (c ∷ cs) = encoded c ++ encode cs

-- numbers that are bytes
abbrev pub AreBytes : List ℕ → Type 0
AreBytes [] = Unit {0}
AreBytes (b ∷ bs) = (b < 256) × AreBytes bs

-- what a record has room for
abbrev pub Fits : Call → Type 0
Fits (post_of s) = (length s < 65_536) × AreBytes s
Fits (turn_to m) = m < 65_536
Fits withdrawal = Unit {0}
Fits (asks (look_at plain factor y)) = y < 256
Fits (asks (look_at plain sum y)) = ⊥
Fits (asks (look_at adjusted v y)) = ⊥
Fits (asks (page_into w l)) = ⊥
Fits (asks (value_of fs)) = ⊥

abbrev pub AllFit : List Call → Type 0
AllFit [] = Unit {0}
AllFit (c ∷ cs) = Fits c × AllFit cs
