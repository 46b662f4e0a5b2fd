-- A page written over a lent buffer part by part: its head, then the record of each year behind what stands already.
use mathlib.Core.Path.{◌≡◌, refl, ap, sym, ◌∙◌}
use mathlib.Core.List.{List, [], ◌∷◌, ◌++◌, append_assoc, append-nil}
use Prim.Native.Nat.{ℕ, ◌+◌, ◌*◌, ◌≤◌, ◌<◌}
use native.Mathlib.Omega.{arith}
use lib.Dec.{lit<}
use lib.ListN.{length, get_or, take, drop, length-drop}
use lib.Seq.{length-take-le, take_at, drop_at, take_all, take-add, drop-drop, drop-length, get_or-take, get_or-drop, ext_get_or}
use Rattle.method.specs.Bytes.{bytes2, bytes4, in_bytes, put_at}
use Rattle.method.proofs.InBytes.{in_one, in_two, in_four}
use Rattle.big_endian.proofs.Putting.{put_behind}
use Rattle.ledger.specs.Page.{page_head, year_record, year_records, page_bytes, page_length}
use Rattle.ledger.proofs.PageLaws.{record_at, records_length, page-length}
use Rattle.page_writer.specs.Written.{written_to, Bands}

-- ---- any list over any other

drop-behind : (front rest : List ℕ) (n k : ℕ) → length front ≡ n → drop (n + k) (front ++ rest) ≡ drop k rest
drop-behind front rest n k e = sym (drop-drop k n (front ++ rest)) ∙ ap (drop k) (drop_at front rest n e)

-- the next part of the list is put behind the n elements that stand already
next_part : (page lent part : List ℕ) (n k : ℕ) {out : List ℕ} → n ≤ length page → take k (drop n page) ≡ part →
    out ≡ take n page ++ drop n lent →
    take n out ++ (part ++ drop k (drop n out)) ≡ take (n + k) page ++ drop (n + k) lent
next_part page lent part n k h e so_far =
    let long = length-take-le n page h in
    rw (so_far, take_at (take n page) (drop n lent) n long, drop_at (take n page) (drop n lent) n long, drop-drop k n lent, take-add n k page, e, append_assoc)

-- ---- numbers one behind the other, over a buffer l

pub head_put : (month age : ℕ) (l : List ℕ) {o p q : List ℕ} → 5 ≤ length l →
    o ≡ put_at 0 (in_bytes 1 0x48) l → p ≡ put_at 1 (in_bytes 2 month) o → q ≡ put_at 3 (in_bytes 2 age) p → q ≡ page_head month age ++ drop 5 l
head_put month age l room mark then-month then-age =
    let marked = rw (in_one 0x48 (lit< tt)) at mark in
    let dated = put_behind (0x48 ∷ []) (bytes2 month) l 1 refl (omega arith) marked (rw (in_two month) at then-month) in
    put_behind (0x48 ∷ bytes2 month) (bytes2 age) l 3 refl (omega arith) dated (rw (in_two age) at then-age)

pub record_put : (year low high : ℕ) (l : List ℕ) {o p q r : List ℕ} → year < 256 → length l ≡ 10 →
    o ≡ put_at 0 (in_bytes 1 0x59) l → p ≡ put_at 1 (in_bytes 1 year) o → q ≡ put_at 2 (in_bytes 4 low) p → r ≡ put_at 6 (in_bytes 4 high) q →
    r ≡ year_record year low high
record_put year low high l small ten mark then-year then-low then-high =
    let marked = rw (in_one 0x59 (lit< tt)) at mark in
    let named = put_behind (0x59 ∷ []) (year ∷ []) l 1 refl (omega arith) marked (rw (in_one year small) at then-year) in
    let half = put_behind (0x59 ∷ year ∷ []) (bytes4 low) l 2 refl (omega arith) named (rw (in_four low) at then-low) in
    let full = put_behind (0x59 ∷ year ∷ bytes4 low) (bytes4 high) l 6 refl (omega arith) half (rw (in_four high) at then-high) in
    full ∙ ap (λ (rest : List ℕ). year_record year low high ++ rest) (ap (λ (n : ℕ). drop n l) (sym ten) ∙ drop-length l)

-- ---- the record of a year

record_part : (ls hs : List ℕ) (y k : ℕ) → length ls ≡ length hs → k < length ls →
    take 10 (drop (10 * k) (year_records y ls hs)) ≡ year_record (y + k) (get_or ls k 0) (get_or hs k 0)
record_part ls hs y k e h =
    let from = drop (10 * k) (year_records y ls hs) in
    let long : length (take 10 from) ≡ 10 = length-take-le 10 from (simp length-drop (omega (arith, records_length ls hs y e))) in
    ext_get_or 0 (take 10 from) (year_record (y + k) (get_or ls k 0) (get_or hs k 0)) long (λ i l. byte i (omega arith))
  where
    byte : (i : ℕ) → i < 10 → get_or (take 10 (drop (10 * k) (year_records y ls hs))) i 0 ≡ get_or (year_record (y + k) (get_or ls k 0) (get_or hs k 0)) i 0
    byte i b =
        get_or-take 10 (drop (10 * k) (year_records y ls hs)) i 0 b
        ∙ get_or-drop (10 * k) (year_records y ls hs) i 0
        ∙ ap (λ (l : List ℕ). get_or l (10 * k + i) 0) (sym (append-nil (year_records y ls hs)))
        ∙ record_at ls hs [] y k i e h b

-- ---- the page

pub no_year_lem : (month age : ℕ) (lows highs lent : List ℕ) → written_to 0 (page_bytes month age lows highs) lent ≡ page_head month age ++ drop 5 lent
unfolding page_bytes
no_year_lem month age lows highs lent = refl

module _ (month age : ℕ) (lows highs : List ℕ) (bands : Bands lows highs) where
  abbrev page : List ℕ
  page = page_bytes month age lows highs

  whole : length page ≡ page_length
  whole = page-length month age lows highs [] bands.0 bands.1

  record_of_year : (k : ℕ) → k < 150 → take 10 (drop (5 + 10 * k) page) ≡ year_record (k + 1) (get_or lows k 0) (get_or highs k 0)
  unfolding page_bytes
  record_of_year k h =
      let year : 1 + k ≡ k + 1 = omega arith in
      rw (drop-behind (page_head month age) (year_records 1 lows highs) 5 (10 * k) refl, ← year)
      (record_part lows highs 1 k (bands.0 ∙ sym bands.1) (omega (arith, bands.0)))

  -- of so many bytes, behind what stands
  pub next_year_lem : (lent : List ℕ) (t count : ℕ) {out part : List ℕ} → t < 150 → count ≡ 10 →
      part ≡ year_record (t + 1) (get_or lows t 0) (get_or highs t 0) → out ≡ written_to t page lent →
      take (5 + 10 * t) out ++ (part ++ drop count (drop (5 + 10 * t) out)) ≡ written_to (t + 1) page lent
  next_year_lem lent t count {out} {part} h ten e so_far =
      let end : 5 + 10 * t + 10 ≡ 5 + 10 * (t + 1) = omega arith in
      rw ten (rw end at (next_part page lent part (5 + 10 * t) 10 (omega (arith, whole)) (record_of_year t h ∙ sym e) so_far))

  pub all_years : (lent : List ℕ) → written_to 150 page lent ≡ page ++ drop page_length lent
  all_years lent = rw (take_all page_length page (omega (arith, whole)))
