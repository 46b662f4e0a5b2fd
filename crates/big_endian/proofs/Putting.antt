-- Bytes put into a buffer, one part after the other.
use mathlib.Core.Path.{◌≡◌, refl, sym, ap, ◌∙◌}
use mathlib.Core.List.{List, [], ◌∷◌, ◌++◌, append_assoc, append-nil}
use Prim.Native.Nat.{ℕ, zero, suc, ◌+◌, ◌/◌, ◌%◌, ◌≤◌, ◌<◌}
use native.Mathlib.Omega.{arith}
use lib.ListN.{length, take, drop, set, length-append, length-drop, take-append-drop}
use lib.Seq.{length-take-le, take_at, drop_at, drop-drop, set_split, take-set-le}
use Rattle.method.specs.Bytes.{in_bytes, put_at}

pub in_bytes-length : (w n : ℕ) → length (in_bytes w n) ≡ w
unfolding in_bytes
in_bytes-length zero n = refl
in_bytes-length (suc w) n = length-append (in_bytes w (n / 256)) (n % 256 ∷ []) ∙ (omega (arith, in_bytes-length w (n / 256)))

pub put_none : (at : ℕ) (l : List ℕ) → put_at at [] l ≡ l
put_none at l =
    let e : at + 0 ≡ at = omega arith in
    rw (e, append-nil) (take-append-drop at l)

pub put_first : (bytes l : List ℕ) → put_at 0 bytes l ≡ bytes ++ drop (length bytes) l
put_first bytes l =
    let e : 0 + length bytes ≡ length bytes = omega arith in
    rw e

pub put_length : (at : ℕ) (bytes l : List ℕ) → at + length bytes ≤ length l → length (put_at at bytes l) ≡ length l
put_length at bytes l h = simp (length-append, length-drop) (omega (arith, length-take-le at l (omega arith)))

-- some bytes, and more behind them
pub put_next : (bytes more l : List ℕ) (at n : ℕ) → length bytes ≡ n → at + n ≤ length l →
    put_at (at + n) more (put_at at bytes l) ≡ put_at at (bytes ++ more) l
put_next bytes more l at n e h =
    let front = take at l ++ bytes in
    let rest = drop (at + n) l in
    let m = length more in
    let long : length front ≡ at + n = length-append (take at l) bytes ∙ (omega (arith, length-take-le at l (omega arith))) in
    let whole : put_at at bytes l ≡ front ++ rest = rw e in
    let kept : drop (at + n + m) (front ++ rest) ≡ drop (at + n + m) l =
    sym (drop-drop m (at + n) (front ++ rest)) ∙ ap (drop m) (drop_at front rest (at + n) long) ∙ drop-drop m (at + n) l in
    let end : at + length (bytes ++ more) ≡ at + n + m = omega (arith, length-append bytes more) in
    rw (whole, take_at front rest (at + n) long, kept, end, append_assoc (take at l) bytes more)

-- the same from the first byte on, where the bytes so far were put into a buffer that is as long as needed
pub put_behind : (bytes more l : List ℕ) (n : ℕ) {o p : List ℕ} → length bytes ≡ n → n ≤ length l → o ≡ put_at 0 bytes l → p ≡ put_at n more o →
    p ≡ put_at 0 (bytes ++ more) l
put_behind bytes more l n e h before after =
    let from : n ≡ 0 + n = omega arith in
    after ∙ ap (put_at n more) before ∙ ap (λ (k : ℕ). put_at k more (put_at 0 bytes l)) from ∙ put_next bytes more l 0 n e (omega arith)

-- with the last byte standing in the buffer already, the others are left to put
put_last : (bytes l : List ℕ) (at n b : ℕ) → length bytes ≡ n → at + n < length l →
    put_at at (bytes ++ b ∷ []) l ≡ put_at at bytes (set l (at + n) b)
put_last bytes l at n b e h =
    let i = at + n in
    let behind : drop i (set l i b) ≡ b ∷ drop (suc i) l =
    ap (drop i) (set_split l i b h) ∙ drop_at (take i l) (b ∷ drop (suc i) l) i (length-take-le i l (omega arith)) in
    let end : at + length (bytes ++ b ∷ []) ≡ suc i = omega (arith, length-append bytes (b ∷ [])) in
    rw (end, take-set-le at l i b (omega arith), e, behind) (simp append_assoc)

-- the low byte goes to the last place, and the others are put before it
pub put_low_byte : (at k n b : ℕ) (l : List ℕ) → b ≡ n % 256 → at + k < length l →
    put_at at (in_bytes (suc k) n) l ≡ put_at at (in_bytes k (n / 256)) (set l (at + k) b)
unfolding in_bytes
put_low_byte at k n b l e h = rw e (put_last (in_bytes k (n / 256)) l at k (n % 256) (in_bytes-length k (n / 256)) h)
