-- What the states inside the writing are, byte by byte, for every page, lent buffer and year; that no year can be written before its turn;
-- and figures.
use mathlib.Core.Path.{◌≡◌, refl, ap, sym, ◌∙◌}
use mathlib.Core.List.{List, [], ◌∷◌, ◌++◌, append-nil}
use Prim.Native.Nat.{ℕ, ◌+◌, ◌*◌, ◌-◌, ◌≤◌, ◌<◌}
use native.Mathlib.Nat.{add-zero}
use native.Mathlib.Omega.{arith}
use lib.ListN.{replicate, length, get_or, take, drop, length-append, length-drop, get_or-append}
use lib.Seq.{length-take-le, get_or-take, get_or-drop, get_or-append-add}
use Rattle.ledger.specs.Page.{page_head, year_records, page_bytes, page_length}
use Rattle.ledger.proofs.PageLaws.{record_at, page-length}
use Rattle.page_writer.specs.Written.{written_to, Bands, Underway}

-- ---- byte by byte

module _ (month age : ℕ) (lows highs : List ℕ) (bands : Bands lows highs) (lent : List ℕ) (t : ℕ) (year : t ≤ 150) where
  abbrev page : List ℕ
  page = page_bytes month age lows highs

  abbrev out : List ℕ
  out = written_to t page lent

  front : length (take (5 + 10 * t) page) ≡ 5 + 10 * t
  front = length-take-le (5 + 10 * t) page (omega (arith, page-length month age lows highs [] bands.0 bands.1))

  pub as_long : page_length ≤ length lent → length out ≡ length lent
  as_long room = simp (length-append, length-drop) (omega (arith, front))

  pub first_of_the_page : (i : ℕ) → i < 5 + 10 * t → get_or out i 0 ≡ get_or page i 0
  first_of_the_page i h =
      get_or-append (take (5 + 10 * t) page) (drop (5 + 10 * t) lent) 0 i (omega (arith, front)) ∙ get_or-take (5 + 10 * t) page i 0 h

  pub others_as_lent : (i : ℕ) → 5 + 10 * t ≤ i → get_or out i 0 ≡ get_or lent i 0
  others_as_lent i h =
      let k = i - (5 + 10 * t) in
      let behind : i ≡ length (take (5 + 10 * t) page) + k = omega (arith, front) in
      let there : 5 + 10 * t + k ≡ i = omega arith in
      ap (λ (j : ℕ). get_or out j 0) behind
      ∙ get_or-append-add (take (5 + 10 * t) page) (drop (5 + 10 * t) lent) k 0
      ∙ get_or-drop (5 + 10 * t) lent k 0
      ∙ ap (λ (j : ℕ). get_or lent j 0) there

-- ---- every year in its turn: what `put_next_year` asks for is not to be had earlier

year_mark : (month age : ℕ) (lows highs : List ℕ) → Bands lows highs → (k : ℕ) → k < 150 → get_or (page_bytes month age lows highs) (5 + 10 * k) 0 ≡ 0x59
unfolding page_bytes
year_mark month age lows highs bands k h =
    get_or-append-add (page_head month age) (year_records 1 lows highs) (10 * k) 0
    ∙ ap (λ (l : List ℕ). get_or l (10 * k) 0) (sym (append-nil (year_records 1 lows highs)))
    ∙ ap (λ (j : ℕ). get_or (year_records 1 lows highs ++ []) j 0) (sym (add-zero (10 * k)))
    ∙ record_at lows highs [] 1 k 0 (bands.0 ∙ sym bands.1) (omega (arith, bands.0)) (omega arith)

module _ (month age : ℕ) (lows highs : List ℕ) (bands : Bands lows highs) (lent : List ℕ) where
  -- years 1 to s are written, and the next ten bytes are no record yet
  pub in_its_turn : (s t : ℕ) → s < t → t ≤ 150 → (get_or lent (5 + 10 * s) 0 ≡ 0x59 → ⊥) →
      Underway t lows highs (written_to s (page_bytes month age lows highs) lent) → ⊥
  in_its_turn s t h k unmarked further =
      let lent-byte = others_as_lent month age lows highs bands lent s (omega arith) (5 + 10 * s) (omega arith) in
      let page-byte = first_of_the_page further.month further.age lows highs bands further.lent t k (5 + 10 * s) (omega arith) in
      let marked = year_mark further.month further.age lows highs bands s (omega arith) in
      unmarked (sym lent-byte ∙ ap (λ (l : List ℕ). get_or l (5 + 10 * s) 0) further.so_far ∙ page-byte ∙ marked)

  -- nor any year before the head
  pub head_first : (t : ℕ) → t ≤ 150 → (get_or lent 0 0 ≡ 0x48 → ⊥) → Underway t lows highs lent → ⊥
  unfolding page_bytes
  head_first t k unmarked begun =
      let page-byte = first_of_the_page begun.month begun.age lows highs bands begun.lent t k 0 (omega arith) in
      unmarked (ap (λ (l : List ℕ). get_or l 0 0) begun.so_far ∙ page-byte)

-- ---- of a page of month 5 and age 2 into 1,506 sevens: 5, 15 and 1,505 bytes are the page's, all others sevens

state : ℕ → List ℕ
state t = written_to t (page_bytes 5 2 (replicate 150 0x01020304) (replicate 150 0x05060708)) (replicate 1_506 7)

worked : List (List ℕ)
worked = take 6 (state 0) ∷ drop 5 (state 0) ∷ take 16 (state 1) ∷ drop 15 (state 1) ∷ drop 1_495 (state 150) ∷ []

seen : worked ≡
    (0x48 ∷ 0 ∷ 5 ∷ 0 ∷ 2 ∷ 7 ∷ [])
    ∷ replicate 1_501 7
    ∷ (0x48 ∷ 0 ∷ 5 ∷ 0 ∷ 2 ∷ 0x59 ∷ 1 ∷ 1 ∷ 2 ∷ 3 ∷ 4 ∷ 5 ∷ 6 ∷ 7 ∷ 8 ∷ 7 ∷ [])
    ∷ replicate 1_491 7
    ∷ (0x59 ∷ 150 ∷ 1 ∷ 2 ∷ 3 ∷ 4 ∷ 5 ∷ 6 ∷ 7 ∷ 8 ∷ 7 ∷ [])
    ∷ []
unfolding worked state page_bytes year_records
seen = refl
