-- SPECIFICATION 10: what the desk prints for an input; and what it does for that, pass by pass, block by block.
use Rattle.std.specs.Prelude.{◌≡◌, ℕ, zero, suc, ◌+◌, ◌-◌, ◌<◌, ◌≤◌, Bool, true, false, cond, List, [], ◌∷◌, ◌++◌, length, drop, ◌==◌, nat_le}
use Rattle.ledger.specs.Book.{Book, largest_age_limit, fresh}
use Rattle.ledger.specs.Calls.{after}
use Rattle.journal.specs.Journal.{Front, whole, cut, unknown, desk_front}
use Rattle.journal.specs.Replies.{reply_to}
use Rattle.desk_core.specs.Lines.{line_of, broken_line}

-- a record's bytes at most: a kind byte, the two of a length, and a sheet of 65,535
abbrev pub longest_record : ℕ
longest_record = 65_538

-- ═══ All that is printed

-- at the end of the input: nothing, or the body of a record is cut
abbrev pub at_end : ℕ → List ℕ → List ℕ
at_end offset [] = []
at_end offset (kind ∷ body) = broken_line offset

abbrev pub printed_at : Front → Book → ℕ → List ℕ → (Book → ℕ → List ℕ → List ℕ) → List ℕ
printed_at (whole c n) b offset s next = line_of (reply_to b (whole c n)) ++ next (after b c) (offset + n) (drop n s)
printed_at cut b offset s next = at_end offset s
printed_at unknown b offset s next = broken_line offset

-- for the bytes from `offset` on, at most so many lines
unfoldable pub printed_from : ℕ → Book → ℕ → List ℕ → List ℕ
printed_from zero b offset s = []
printed_from (suc most) b offset s = printed_at (desk_front s) b offset s (printed_from most)

-- a fresh book with the largest age limit
abbrev pub desk_book : Book
desk_book = fresh largest_age_limit

-- all of them: each record takes at least a byte
unfoldable pub printed : List ℕ → List ℕ
printed input = printed_from (length input) desk_book 0 input

-- ═══ One pass: the whole records at the front of the bytes that are held, while the text has room for one line more

-- the book after them, their bytes and their lines; whether an unknown kind is next
pub record Serving : Type 0 where
  pub book : Book
  pub taken : ℕ
  pub text : List ℕ
  pub unknown : Bool

abbrev pub stopping : Book → Bool → Serving
stopping b next = record { book = b; taken = 0; text = []; unknown = next }

abbrev pub behind : ℕ → List ℕ → Serving → Serving
behind n line r = record { book = r.book; taken = n + r.taken; text = line ++ r.text; unknown = r.unknown }

-- any line's
abbrev pub line_room : ℕ
line_room = 128

abbrev pub served_at : Front → ℕ → Book → List ℕ → (ℕ → Book → List ℕ → Serving) → Serving
served_at (whole c n) room b s next =
    let line = line_of (reply_to b (whole c n)) in
    behind n line (next (room - length line) (after b c) (drop n s))
served_at cut room b s next = stopping b false
served_at unknown room b s next = stopping b true

-- at most so many records
unfoldable pub served_from : ℕ → ℕ → Book → List ℕ → Serving
served_from zero room b s = stopping b false
served_from (suc most) room b s = cond (nat_le line_room room) (served_at (desk_front s) room b s (served_from most)) (stopping b false)

unfoldable pub served : ℕ → Book → List ℕ → Serving
served room b held = served_from (length held) room b held

-- ═══ The input in blocks: each pass serves what is held, and where it took nothing a block is read behind that

-- between two passes: the book, the bytes that are held, and the offset of the first of them
pub record Desk : Type 0 where
  pub book : Book
  pub offset : ℕ
  pub held : List ℕ

abbrev pub opened : Desk
opened = record { book = desk_book; offset = 0; held = [] }

abbrev pub pass : ℕ → Desk → Serving
pass room d = served room d.book d.held

-- what a pass took is no longer held
abbrev pub passed : Desk → Serving → Desk
passed d r = record { book = r.book; offset = d.offset + r.taken; held = drop r.taken d.held }

abbrev pub with_block : Desk → List ℕ → Desk
with_block d block = record { book = d.book; offset = d.offset; held = d.held ++ block }

abbrev pub reading : (Desk → List (List ℕ) → List ℕ) → Desk → List (List ℕ) → List ℕ
reading next d [] = at_end d.offset d.held
reading next d (block ∷ blocks) = next (with_block d block) blocks

abbrev pub after_pass : Serving → (Desk → List (List ℕ) → List ℕ) → Desk → List (List ℕ) → List ℕ
after_pass r next d blocks = cond r.unknown (broken_line d.offset) (cond (r.taken == 0) (reading next d blocks) (next d blocks))

-- what so many passes print, each into a text with that room, which is written out after it
unfoldable pub printed_in : ℕ → ℕ → Desk → List (List ℕ) → List ℕ
printed_in room zero d blocks = []
printed_in room (suc passes) d blocks =
    let r = pass room d in
    r.text ++ after_pass r (printed_in room passes) (passed d r) blocks

abbrev pub printed_blocks : ℕ → ℕ → List (List ℕ) → List ℕ
printed_blocks room passes blocks = printed_in room passes opened blocks

abbrev pub joined : List (List ℕ) → List ℕ
joined [] = []
joined (block ∷ blocks) = block ++ joined blocks

-- ═══ The promise: however the input is cut into blocks, and however often the text is written out, the desk prints `printed`
-- of the whole. Each pass takes a byte, or reads a block, or is the last: so many passes are enough.

abbrev pub HoweverCut : Type 0
HoweverCut =
    (room passes : ℕ) (blocks : List (List ℕ)) → line_room ≤ room → length (joined blocks) + length blocks < passes →
    printed_blocks room passes blocks ≡ printed (joined blocks)
