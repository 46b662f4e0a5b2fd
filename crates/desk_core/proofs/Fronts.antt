-- What stands at the front of some bytes s, and of the same bytes with more behind them.
use Rattle.std.proofs.Common.{◌≡◌, ℕ, ◌+◌, ◌<◌, ◌≤◌, Bool, true, false, cond, eqb, leb, List, [], ◌∷◌, ◌++◌, length, get_or, drop, refl, ap, arith}
use Rattle.std.proofs.Common.{length-append, length-drop, ne_eqb, le-leb, leb-false, leb-true}
use lib.ListN.{get_or-append}
use lib.Seq.{take-append-le, drop-append-le}
use Rattle.method.specs.Units.{plain}
use Rattle.ledger.specs.Answers.{factor}
use Rattle.ledger.specs.Calls.{look_at, page_into, value_of, Call, post_of, turn_to, withdrawal, asks}
use Rattle.ledger.specs.Tells.{read2}
use Rattle.journal.specs.Replies.{taken}
use Rattle.journal.specs.Journal.{Front, whole, cut, unknown, sheet_at, sheet_length, sheet_in, record_of, desk_front}
use Rattle.desk_core.specs.Desk.{longest_record}

-- no record is a page
abbrev pub HasRecord : Call → Type 0
HasRecord (post_of s) = Unit {0}
HasRecord (turn_to m) = Unit {0}
HasRecord withdrawal = ⊥
HasRecord (asks (look_at w v y)) = Unit {0}
HasRecord (asks (page_into w l)) = ⊥
HasRecord (asks (value_of fs)) = ⊥

-- x stands at the front of s, y with more bytes behind s; no record there has more bytes than a post's
pub record Stands (s : List ℕ) (x y : Front) : Type 0 where
  pub within : {c : Call} {n : ℕ} → x ≡ whole c n → (0 < n) × (n ≤ length s)
  pub recorded : {c : Call} {n : ℕ} → x ≡ whole c n → HasRecord c
  pub whole_stays : {c : Call} {n : ℕ} → x ≡ whole c n → y ≡ whole c n
  pub unknown_stays : x ≡ unknown → y ≡ unknown
  pub cut_short : x ≡ cut → length s < sheet_at + sheet_length s

-- two fronts that differ prove anything
differ : {A : Type 0} → ◌≡◌ {A = ℕ} 0 1 → A
differ e = absurd (omega arith)

choose : (t : Bool) {s : List ℕ} {x y v w : Front} → Stands s x y → Stands s v w → Stands s (cond t x v) (cond t y w)
choose true p q = p
choose false p q = q

unknown_stands : (s : List ℕ) → Stands s unknown unknown
unknown_stands s =
    record {
      within = λ f. differ (cc);
      recorded = λ f. differ (cc);
      whole_stays = λ f. differ (cc);
      unknown_stays = λ f. f;
      cut_short = λ f. differ (cc);
    }

cut_stands : (s : List ℕ) (y : Front) → length s < sheet_at + sheet_length s → Stands s cut y
cut_stands s y h =
    record {
      within = λ f. differ (cc);
      recorded = λ f. differ (cc);
      whole_stays = λ f. differ (cc);
      unknown_stays = λ f. differ (cc);
      cut_short = λ f. h;
    }

whole_stands : (s : List ℕ) (n : ℕ) (c : Call) → 0 < n → n ≤ length s → HasRecord c → Stands s (whole c n) (whole c n)
whole_stands s n c h k r =
    record {
      within = λ {c = d} {n = m} f. let e : m ≡ n = cc in rw e (h, k);
      recorded = λ {c = d} {n = m} f. let e : d ≡ c = cc in rw e r;
      whole_stays = λ f. f;
      unknown_stays = λ f. differ (cc);
      cut_short = λ f. differ (cc);
    }

-- a record of n bytes; what is read of it where it is whole is read of the longer bytes too
record_stands : (s t : List ℕ) (n m : ℕ) (c d : Call) → 0 < n → n ≤ sheet_at + sheet_length s → HasRecord c →
    (n ≤ length s → (m ≡ n) × (d ≡ c)) → Stands s (record_of s n c) (record_of (s ++ t) m d)
record_stands s t n m c d h k r same = go (leb n (length s)) refl
  where
    go : (b : Bool) → leb n (length s) ≡ b → Stands s (record_of s n c) (record_of (s ++ t) m d)
    go true e =
        let l = leb-true n (length s) e in
        let longer : leb n (length (s ++ t)) ≡ true = le-leb n (length (s ++ t)) (omega (arith, length-append s t)) in
        rw (e, (same l).0, (same l).1, longer) (whole_stands s n c h l r)
    go false e = rw e (cut_stands s _ (omega (arith, leb-false n (length s) e)))

-- ---- the parts of a record, with more bytes behind it

module _ (s t : List ℕ) where
  same_number : 3 ≤ length s → read2 (s ++ t) 1 ≡ read2 s 1
  same_number h = rw (get_or-append s t 0 1 (omega arith), get_or-append s t 0 2 (omega arith))

  same_sheet : sheet_at + sheet_length s ≤ length s → sheet_in (s ++ t) ≡ sheet_in s
  same_sheet h =
      rw (same_number (omega arith), drop-append-le sheet_at s t (omega arith))
      (take-append-le (sheet_length s) (drop sheet_at s) t (omega (arith, length-drop sheet_at s)))

some_byte : (k : ℕ) (s : List ℕ) → eqb (length (k ∷ s)) 0 ≡ false
some_byte k s = ne_eqb (length (k ∷ s)) 0 (λ e. omega arith)

pub front_stands : (s t : List ℕ) → Stands s (desk_front s) (desk_front (s ++ t))
unfolding desk_front
front_stands [] t = cut_stands [] _ (omega arith)
front_stands (kind ∷ s) t =
    let same = same_number (kind ∷ s) t in
    rw (some_byte kind s, some_byte kind (s ++ t))
    (choose (eqb kind 0x50)
    (record_stands (kind ∷ s) t _ _ _ _ (omega arith) (omega arith) tt
    (λ i. (ap (λ (n : ℕ). sheet_at + n) (same (omega arith)), ap post_of (same_sheet (kind ∷ s) t i))))
    (choose (eqb kind 0x4D)
    (record_stands (kind ∷ s) t 3 3 _ _ (omega arith) (omega arith) tt (λ i. (refl, ap turn_to (same i))))
    (choose (eqb kind 0x4C)
    (record_stands (kind ∷ s) t 2 2 _ _ (omega arith) (omega arith) tt
    (λ i. (refl, ap (λ (y : ℕ). asks (look_at plain factor y)) (get_or-append (kind ∷ s) t 0 1 i))))
    (unknown_stands (kind ∷ s)))))

-- what is cut is shorter than the longest record, as its bytes are bytes
pub cut_short : (s : List ℕ) → get_or s 1 0 < 256 → get_or s 2 0 < 256 → desk_front s ≡ cut → length s < longest_record
cut_short s h k e = omega (arith, (front_stands s []).cut_short e)

pub taken-within : (s : List ℕ) → taken (desk_front s) ≤ length s
taken-within s = go (desk_front s) refl
  where
    go : (x : Front) → desk_front s ≡ x → taken x ≤ length s
    go (whole c n) e = ((front_stands s []).within e).1
    go cut e = omega arith
    go unknown e = omega arith
