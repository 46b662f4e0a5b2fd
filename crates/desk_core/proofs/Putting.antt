-- Bytes put behind bytes.
use Rattle.std.proofs.Common.{◌≡◌, ℕ, ◌+◌, ◌-◌, ◌<◌, ◌≤◌, List, [], ◌∷◌, ◌++◌, length, get_or, take, drop, sym, refl, ap, ◌∙◌, append_assoc}
use Rattle.std.proofs.Common.{append-nil, zero-add, add-one, arith, length-append, take-append-drop, length-take-le, take_all, take-suc, take_at}
use lib.Seq.{take-length}
use Rattle.desk_core.specs.Lines.{decimal, spaced}
use Rattle.desk_core.specs.Handed.{Puts}

-- a part of the text that begins with the bytes, back in its place
pub put_back : (bytes text part : List ℕ) (at : ℕ) → at + length bytes ≤ length text →
    part ≡ take (length bytes) bytes ++ drop (length bytes) (take (length text - at) (drop at text)) →
    Puts bytes text at (take at text ++ (part ++ drop (length text - at) (drop at text))) (at + length bytes)
put_back bytes text part at h e = record { ends = refl; written = rw whole (take_at (take at text ++ bytes) tail (at + length bytes) front) }
  where
    tail : List ℕ
    tail = drop (length bytes) (take (length text - at) (drop at text)) ++ drop (length text - at) (drop at text)

    whole : take at text ++ (part ++ drop (length text - at) (drop at text)) ≡ (take at text ++ bytes) ++ tail
    whole = rw (e, take-length bytes) (simp append_assoc)

    front : length (take at text ++ bytes) ≡ at + length bytes
    front = length-append (take at text) bytes ∙ omega (arith, length-take-le at text (omega arith))

pub nothing : (text : List ℕ) (at : ℕ) → Puts [] text at text at
nothing text at = record { ends = omega arith; written = sym (append-nil (take at text)) }

infixl 20 ◌then◌
pub ◌then◌ : {s t text mid exit : List ℕ} {at a e : ℕ} → Puts s text at mid a → Puts t mid a exit e → Puts (s ++ t) text at exit e
◌then◌ {s} {t} p q = record { ends = q.ends ∙ omega (arith, p.ends, length-append s t); written = q.written ∙ rw (p.written, append_assoc) }

-- put at the very front
pub at_front : {bytes text exit : List ℕ} {end : ℕ} → Puts bytes text 0 exit end → take (length bytes) exit ≡ bytes
at_front {bytes} {text} {exit} p = ap (λ (n : ℕ). take n exit) (sym (p.ends ∙ zero-add (length bytes))) ∙ p.written

-- ---- numbers, one by one

spaced_append : (ns ms : List ℕ) → spaced (ns ++ ms) ≡ spaced ns ++ spaced ms
spaced_append [] ms = refl
spaced_append (n ∷ ns) ms = ap (λ (l : List ℕ). 0x20 ∷ l) (rw (spaced_append ns ms) (sym (append_assoc (decimal n) (spaced ns) (spaced ms))))

-- the first i numbers, and one more
spaced-suc : (ns : List ℕ) (i : ℕ) → i < length ns → spaced (take (i + 1) ns) ≡ spaced (take i ns) ++ (0x20 ∷ decimal (get_or ns i 0))
spaced-suc ns i h = rw (add-one, take-suc ns i 0, spaced_append, append-nil)

pub one_more : (ns : List ℕ) (i : ℕ) {text mid exit : List ℕ} {at a e : ℕ} → i < length ns → Puts (spaced (take i ns)) text at mid a →
    Puts (0x20 ∷ decimal (get_or ns i 0)) mid a exit e → Puts (spaced (take (i + 1) ns)) text at exit e
one_more ns i h p q = rw (spaced-suc ns i) (p then q)

-- the next number fits where all of them do
pub room_for : (ns : List ℕ) (i : ℕ) → i < length ns → length (spaced (take i ns)) + length (0x20 ∷ decimal (get_or ns i 0)) ≤ length (spaced ns)
room_for ns i h =
    let split = ap (λ (l : List ℕ). length (spaced l)) (take-append-drop (i + 1) ns) in
    let first = ap length (spaced-suc ns i h) in
    omega (arith, simp (spaced_append, length-append) at split, simp length-append at first)

pub all_of : (ns : List ℕ) (i : ℕ) {text exit : List ℕ} {at e : ℕ} → length ns ≤ i → Puts (spaced (take i ns)) text at exit e → Puts (spaced ns) text at exit e
all_of ns i h p = rw (take_all i ns h) at p
