-- SPECIFICATION 7.2: what a lent buffer holds inside the writing of a page.
use Rattle.std.specs.Prelude.{◌≡◌, List, ◌++◌, ℕ, ◌+◌, ◌*◌, length, take, drop}
use Rattle.ledger.specs.Page.{page_bytes}

-- once years 1 to t are written: the first 5 + 10 t bytes are the page's, all others are still as lent
abbrev pub written_to : ℕ → List ℕ → List ℕ → List ℕ
written_to t page lent = take (5 + 10 * t) page ++ drop (5 + 10 * t) lent

-- all years have their low and their high
abbrev pub Bands : List ℕ → List ℕ → Type 0
Bands lows highs = (length lows ≡ 150) × (length highs ≡ 150)

-- from the lent buffer to no year, whichever bands are to follow the head
abbrev pub Begun : ℕ → ℕ → List ℕ → List ℕ → Type 0
Begun month age lent out = (lows highs : List ℕ) → out ≡ written_to 0 (page_bytes month age lows highs) lent

-- years 1 to t of some page of these bands are written
pub record Underway (t : ℕ) (lows highs out : List ℕ) : Type 0 where
  pub month : ℕ
  pub age : ℕ
  pub lent : List ℕ
  pub so_far : out ≡ written_to t (page_bytes month age lows highs) lent

-- from years 1 to t to the year after, whichever page and lent buffer it is
abbrev pub OneYearOn : ℕ → List ℕ → List ℕ → List ℕ → List ℕ → Type 0
OneYearOn t lows highs before after = (month age : ℕ) (lent : List ℕ) →
    before ≡ written_to t (page_bytes month age lows highs) lent → after ≡ written_to (t + 1) (page_bytes month age lows highs) lent
