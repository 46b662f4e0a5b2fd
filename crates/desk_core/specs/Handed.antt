-- What the desk's functions hand back.
use Rattle.std.specs.Prelude.{◌≡◌, ℕ, ◌+◌, ◌-◌, ◌%◌, ◌^◌, ◌<◌, ◌≤◌, Bool, true, false, List, ◌++◌, length, take, drop}
use Rattle.std.specs.Prelude.{[], ◌∷◌, Option}
use Rattle.std.specs.declared.option.Option.TheVariants.{None, Some}
use Rattle.method.specs.Grounds.{Ground, number_of, place_of}
use Rattle.book.specs.declared.Book.{Book}
use Rattle.book.specs.Views.{as_book}
use Rattle.journal.specs.declared.NoCall.{NoCall}
use Rattle.journal.specs.declared.NoCall.TheVariants.{CutShort, NotKnown}
use Rattle.desk_core.specs.Lines.{line}
use Rattle.desk_core.specs.Desk.{longest_record, line_room, Serving, Desk, opened, pass, passed, with_block}
use Rattle.desk_core.specs.declared.Desk as code
use Rattle.desk_core.specs.declared.Served.{Served}

-- bytes put behind the first `at` of a text
pub record Puts (bytes entry : List ℕ) (at : ℕ) (exit : List ℕ) (end : ℕ) : Type 0 where
  pub ends : end ≡ at + length bytes
  pub written : take end exit ≡ take at entry ++ bytes

-- of a call that was turned down
abbrev pub refusal_line : Ground → List ℕ
refusal_line g = line 0x52 (number_of g ∷ place_of g ∷ [])

-- ---- a pass made, with its lines at the front of a text

-- whether an unknown kind is next
abbrev pub is_not_known : Option NoCall → Bool
is_not_known (Some NotKnown) = true
is_not_known (Some CutShort) = false
is_not_known None = false

pub record Serves (p : Serving) (text : List ℕ) (after : Book) (r : Served) : Type 0 where
  pub book : as_book after ≡ p.book
  pub taken : r.taken ≡ p.taken
  pub written : r.written ≡ length p.text
  pub text_put : take r.written text ≡ p.text
  pub unknown : is_not_known r.stop ≡ p.unknown

-- where a pass had room for a line, took nothing and met no unknown kind, less than one record is held
abbrev pub Waits : ℕ → List ℕ → ℕ → Bool → Type 0
Waits room held taken strange = line_room ≤ room → taken ≡ 0 → strange ≡ false → length held < longest_record

-- ---- the desk, with the block whose first bytes it holds

abbrev pub as_desk : code.Desk → List ℕ → Desk
as_desk d block = record { book = as_book d.book; offset = d.offset; held = take d.held block }

-- before the first pass
pub record Opens (r : code.Desk) : Type 0 where
  pub book : as_book r.book ≡ opened.book
  pub offset : r.offset ≡ opened.offset
  pub held : r.held ≡ length opened.held

-- a pass made from d, with the block, the text and the desk at exit; the offset is counted in 64 bits
pub record Passes (room : ℕ) (d : Desk) (block text : List ℕ) (after : code.Desk) (r : Served) : Type 0 where
  pub book : as_book after.book ≡ (passed d (pass room d)).book
  pub offset : after.offset ≡ (passed d (pass room d)).offset % 2 ^ 64
  pub held : take after.held block ≡ (passed d (pass room d)).held
  pub count : after.held ≡ length (passed d (pass room d)).held
  pub taken : r.taken ≡ (pass room d).taken
  pub written : r.written ≡ length (pass room d).text
  pub text_put : take r.written text ≡ (pass room d).text
  pub unknown : is_not_known r.stop ≡ (pass room d).unknown

-- a read's bytes at most
abbrev pub most_read : ℕ
most_read = 4_096

-- some bytes read behind those that are held
pub record Reads (d : code.Desk) (entry exit : List ℕ) (n : ℕ) (r : code.Desk) : Type 0 where
  pub more : r.held ≡ d.held + n
  pub within : r.held ≤ length entry
  pub behind : as_desk r exit ≡ with_block (as_desk d entry) (take (r.held - d.held) (drop d.held exit))
