-- The byte that begins a record, as the code decodes it, and what then stands at the front of the bytes.
use Rattle.std.specs.Prelude.{◌≡◌, cond, List, [], ◌∷◌, ℕ, leb, eqb, length, Result}
use Rattle.std.specs.declared.result.Result.TheVariants.{Ok, Err}
use Rattle.ledger.specs.Calls.{withdrawal}
use Rattle.ledger.specs.Tells.{read2}
use Rattle.journal.specs.declared.NoCall.{NoCall}
use Rattle.journal.specs.declared.NoCall.TheVariants.{CutShort, NotKnown}
use Rattle.journal.specs.declared.kind.Kind.{Kind}
use Rattle.journal.specs.declared.kind.Kind.TheVariants.{Post, Turn, Look, Withdrawal}
use Rattle.journal.specs.Journal.{Front, record_of, post_front, turn_front, look_front}

abbrev pub kind_by : ℕ → Result Kind NoCall
kind_by byte =
    cond (eqb byte 0x50) (Ok Post)
    (cond (eqb byte 0x4D) (Ok Turn)
    (cond (eqb byte 0x4C) (Ok Look)
    (cond (eqb byte 0x57) (Ok Withdrawal)
    (Err NotKnown))))

abbrev pub Decodes : ℕ → Result Kind NoCall → Type 0
Decodes byte r = r ≡ kind_by byte

-- of the first byte, where there is one
abbrev pub kind_at : List ℕ → Result Kind NoCall
kind_at [] = Err CutShort
kind_at (byte ∷ rest) = kind_by byte

-- the number of the two bytes behind it
abbrev pub word_at : List ℕ → Result ℕ NoCall
word_at s = cond (leb 3 (length s)) (Ok (read2 s 1)) (Err CutShort)

abbrev pub front_by : Kind → List ℕ → Front
front_by Post s = post_front s
front_by Turn s = turn_front s
front_by Look s = look_front s
front_by Withdrawal s = record_of s 1 withdrawal
