-- A page's bytes, read back: each record stands at its place, and the numbers that fit are those that were written.
use mathlib.Core.Path.{◌≡◌, refl, ap, sym, ◌∙◌}
use mathlib.Core.List.{List, [], ◌∷◌, ◌++◌}
use Prim.Native.Nat.{ℕ, zero, suc, ◌+◌, ◌*◌, ◌-◌, ◌/◌, ◌%◌, ◌≤◌, ◌<◌}
use native.Mathlib.Nat.{suc_inj, add-zero, zero-add, le_of_suc-le-suc, div-div-eq-div-mul, div-add-mod'}
use native.Mathlib.Omega.{arith}
use lib.ListN.{length, get_or, length-append, get_or-append}
use lib.Seq.{get_or-append-add}
use Rattle.method.specs.Bytes.{bytes4}
use Rattle.method.specs.Units.{pair}
use Rattle.ledger.specs.Page.{page_head, year_record, year_records, page_bytes}
use Rattle.ledger.specs.Tells.{read4, PageRead}

-- ---- the record of a year

shift : (y k : ℕ) → y + 1 + k ≡ y + suc k
shift y k = omega arith

next : (k i : ℕ) → 10 * suc k + i ≡ 10 + (10 * k + i)
next k i = omega arith

pub record_at : (ls hs rest : List ℕ) (y k i : ℕ) → length ls ≡ length hs → k < length ls → i < 10 →
    get_or (year_records y ls hs ++ rest) (10 * k + i) 0 ≡ get_or (year_record (y + k) (get_or ls k 0) (get_or hs k 0)) i 0
unfolding year_records
record_at [] hs rest y k i e h l = absurd (omega arith)
record_at (a ∷ ls) [] rest y k i e h l = absurd (omega arith)
record_at (a ∷ ls) (b ∷ hs) rest y zero i e h l =
    ap (λ (j : ℕ). get_or (year_records y (a ∷ ls) (b ∷ hs) ++ rest) j 0) (zero-add i)
    ∙ get_or-append (year_record y a b) (year_records (y + 1) ls hs ++ rest) 0 i l
    ∙ ap (λ (z : ℕ). get_or (year_record z a b) i 0) (sym (add-zero y))
record_at (a ∷ ls) (b ∷ hs) rest y (suc k) i e h l =
    ap (λ (j : ℕ). get_or (year_records y (a ∷ ls) (b ∷ hs) ++ rest) j 0) (next k i)
    ∙ get_or-append-add (year_record y a b) (year_records (y + 1) ls hs ++ rest) (10 * k + i) 0
    ∙ record_at ls hs rest (y + 1) k i (suc_inj e) (le_of_suc-le-suc h) l
    ∙ ap (λ (z : ℕ). get_or (year_record z (get_or ls k 0) (get_or hs k 0)) i 0) (shift y k)

pub records_length : (ls hs : List ℕ) (y : ℕ) → length ls ≡ length hs → length (year_records y ls hs) ≡ 10 * length ls
unfolding year_records
records_length [] hs y e = refl
records_length (a ∷ ls) [] y e = absurd (omega arith)
records_length (a ∷ ls) (b ∷ hs) y e = simp (length-append) (omega (arith, records_length ls hs (y + 1) (suc_inj e)))

-- ---- numbers that fit their bytes

pub two_bytes : (n : ℕ) → n < 65_536 → n / 256 % 256 * 256 + n % 256 ≡ n
two_bytes n h = omega arith

low_half : (n : ℕ) → n / 256 % 256 * 256 + n % 256 ≡ n % 65_536
low_half n =
    let q : n / 256 / 256 ≡ n / 65_536 = div-div-eq-div-mul n 256 256 in
    omega (arith, q)

four_bytes : (n : ℕ) → n < 4_294_967_296 →
    (n / 16_777_216 % 256 * 256 + n / 65_536 % 256) * 65_536 + (n / 256 % 256 * 256 + n % 256) ≡ n
four_bytes n h =
    let high : n / 65_536 / 256 ≡ n / 16_777_216 = div-div-eq-div-mul n 65_536 256 in
    rw (← high, two_bytes (n / 65_536) (omega arith), low_half n) (div-add-mod' n 65_536)

each_of_4 : (P : ℕ → Type 0) → P 0 → P 1 → P 2 → P 3 → (k : ℕ) → k < 4 → P k
each_of_4 P a b c d zero h = a
each_of_4 P a b c d (suc zero) h = b
each_of_4 P a b c d (suc (suc zero)) h = c
each_of_4 P a b c d (suc (suc (suc zero))) h = d
each_of_4 P a b c d (suc (suc (suc (suc k)))) h = absurd (omega arith)

-- ---- the page

module _ (month age : ℕ) (ls hs rest : List ℕ) (hl : length ls ≡ 150) (hh : length hs ≡ 150) where
  abbrev out : List ℕ
  out = page_bytes month age ls hs ++ rest

  pub page-length : length (page_bytes month age ls hs) ≡ 1_505
  unfolding page_bytes
  page-length = simp (length-append) (omega (arith, records_length ls hs 1 (hl ∙ sym hh)))

  -- byte i of the record of year y
  byte_of_year : (y i : ℕ) → 1 ≤ y → y ≤ 150 → i < 10 →
      get_or out (5 + i + 10 * (y - 1)) 0 ≡ get_or (year_record y (get_or ls (y - 1) 0) (get_or hs (y - 1) 0)) i 0
  unfolding page_bytes
  byte_of_year y i h k l =
      ap (λ (j : ℕ). get_or out j 0) (moved y i)
      ∙ get_or-append-add (page_head month age) (year_records 1 ls hs ++ rest) (10 * (y - 1) + i) 0
      ∙ record_at ls hs rest 1 (y - 1) i (hl ∙ sym hh) (omega arith) l
      ∙ ap (λ (z : ℕ). get_or (year_record z (get_or ls (y - 1) 0) (get_or hs (y - 1) 0)) i 0) (omega arith)
    where
      moved : (y i : ℕ) → 5 + i + 10 * (y - 1) ≡ 5 + (10 * (y - 1) + i)
      moved y i = omega arith

  -- four bytes of a record from byte i on: the number that they were made of
  number_of_year : (y i v : ℕ) → 1 ≤ y → y ≤ 150 → i + 3 < 10 → v < 4_294_967_296 →
      (j : ℕ) → j ≡ 5 + i + 10 * (y - 1) →
      ((k : ℕ) → k < 4 → get_or (year_record y (get_or ls (y - 1) 0) (get_or hs (y - 1) 0)) (i + k) 0 ≡ get_or (bytes4 v) k 0) →
      read4 out j ≡ v
  number_of_year y i v from to l b j e f =
      let first = byte 0 (omega arith) j (omega arith) in
      let second = byte 1 (omega arith) (j + 1) (omega arith) in
      let third = byte 2 (omega arith) (j + 2) (omega arith) in
      let fourth = byte 3 (omega arith) (j + 2 + 1) (omega arith) in
      rw (first, second, third, fourth) (four_bytes v b)
    where
      byte : (k : ℕ) → k < 4 → (m : ℕ) → m ≡ 5 + (i + k) + 10 * (y - 1) → get_or out m 0 ≡ get_or (bytes4 v) k 0
      byte k u m e = ap (λ (j : ℕ). get_or out j 0) e ∙ byte_of_year y (i + k) from to (omega arith) ∙ f k u

  pub page_read :
      month < 65_536 → age < 65_536 →
      ((k : ℕ) → k < 150 → get_or ls k 0 < 4_294_967_296) → ((k : ℕ) → k < 150 → get_or hs k 0 < 4_294_967_296) →
      PageRead out month age (λ y. pair (get_or ls (y - 1) 0) (get_or hs (y - 1) 0))
  unfolding page_bytes
  page_read hm ha bl bh =
      record {
        mark = refl;
        month_read = two_bytes month hm;
        age_read = two_bytes age ha;
        year_mark = λ y h k. byte_of_year y 0 h k (omega arith);
        year_read = λ y h k. byte_of_year y 1 h k (omega arith);
        low_read = λ y h k.
            number_of_year y 2 (get_or ls (y - 1) 0) h k (omega arith) (bl (y - 1) (omega arith)) (7 + 10 * (y - 1)) (omega arith)
            (each_of_4 _ refl refl refl refl);
        high_read = λ y h k.
            number_of_year y 6 (get_or hs (y - 1) 0) h k (omega arith) (bh (y - 1) (omega arith)) (11 + 10 * (y - 1)) (omega arith)
            (each_of_4 _ refl refl refl refl);
      }
