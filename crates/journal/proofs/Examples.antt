-- Worked examples of the journal.
use mathlib.Core.Path.{◌≡◌, refl}
use mathlib.Core.List.{[], ◌∷◌}
use Rattle.method.specs.Units.{plain}
use Rattle.ledger.specs.Answers.{factor}
use Rattle.ledger.specs.Calls.{post_of, turn_to, withdrawal, look_at, asks}
use Rattle.journal.specs.Journal.{cut, unknown, desk_front, front, decode_from, decode}

-- a turn to month 2 × 256 + 1, a post of two bytes, a look-up of year 150
day : decode (0x4D ∷ 2 ∷ 1 ∷ 0x50 ∷ 0 ∷ 2 ∷ 7 ∷ 8 ∷ 0x4C ∷ 150 ∷ []) ≡ turn_to 513 ∷ post_of (7 ∷ 8 ∷ []) ∷ asks (look_at plain factor 150) ∷ []
unfolding decode decode_from front desk_front
day = refl

-- an unknown kind ends the reading, whatever comes after it
unknown_kind : decode (0x4D ∷ 0 ∷ 5 ∷ 0x51 ∷ 0x4D ∷ 0 ∷ 6 ∷ []) ≡ turn_to 5 ∷ []
unfolding decode decode_from front desk_front
unknown_kind = refl

-- so does a sheet with a byte less than its length says, a month or a length of one byte, a missing year
cut_sheet : decode (0x4D ∷ 0 ∷ 5 ∷ 0x50 ∷ 0 ∷ 3 ∷ 7 ∷ 8 ∷ []) ≡ turn_to 5 ∷ []
unfolding decode decode_from front desk_front
cut_sheet = refl

cut_month : decode (0x4D ∷ 0 ∷ []) ≡ []
unfolding decode decode_from front desk_front
cut_month = refl

cut-length : decode (0x50 ∷ 0 ∷ []) ≡ []
unfolding decode decode_from front desk_front
cut-length = refl

no_year_lem : decode (0x4C ∷ []) ≡ []
unfolding decode decode_from front desk_front
no_year_lem = refl

-- a post of no bytes at all is a call
empty_sheet : decode (0x50 ∷ 0 ∷ 0 ∷ []) ≡ post_of [] ∷ []
unfolding decode decode_from front desk_front
empty_sheet = refl

nothing : decode [] ≡ []
unfolding decode decode_from
nothing = refl

-- the length's first byte counts 256s: 2 bytes are not enough
long_sheet : front (0x50 ∷ 2 ∷ 0 ∷ 7 ∷ 8 ∷ []) ≡ cut
unfolding front desk_front
long_sheet = refl

no_kind : front (0x51 ∷ []) ≡ unknown
unfolding front desk_front
no_kind = refl

-- a withdrawal is one byte, and the desk does not know it
taken_back : decode (0x57 ∷ 0x4D ∷ 0 ∷ 5 ∷ 0x57 ∷ 0x57 ∷ []) ≡ withdrawal ∷ turn_to 5 ∷ withdrawal ∷ withdrawal ∷ []
unfolding decode decode_from front desk_front
taken_back = refl

not_at_desk : desk_front (0x57 ∷ 0x4D ∷ 0 ∷ 5 ∷ []) ≡ unknown
unfolding desk_front
not_at_desk = refl
