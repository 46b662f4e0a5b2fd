-- Every list of posts, turns, withdrawals and look-ups that records have room for is the meaning of some bytes.
use mathlib.Core.Path.{◌≡◌, refl, ap, ◌∙◌}
use mathlib.Core.List.{List, [], ◌∷◌, ◌++◌}
use Prim.Native.Nat.{ℕ, zero, suc, ◌+◌, ◌≤◌, ◌<◌}
use native.Mathlib.Omega.{arith}
use lib.Dec.{eqb-suc-zero}
use lib.ListN.{length, length-append}
use lib.Seq.{take_at, drop-append_seam}
use borrow.Author.Tests.{le-leb}
use Rattle.method.specs.Units.{plain, adjusted}
use Rattle.ledger.specs.Answers.{factor, sum}
use Rattle.ledger.specs.Calls.{Call, post_of, turn_to, withdrawal, look_at, page_into, value_of, asks}
use Rattle.ledger.proofs.PageLaws.{two_bytes}
use Rattle.journal.specs.Journal.{whole, record_of, desk_front, front, decode_from, decode, encoded, encode, AreBytes, Fits, AllFit}
use Rattle.journal.proofs.Decoding.{front_end}

record_read : (s : List ℕ) (n : ℕ) (c : Call) → n ≤ length s → record_of s n c ≡ whole c n
record_read s n c h = rw (le-leb n (length s) h)

-- a record has the bytes of its call
some_bytes : (c : Call) → Fits c → 0 < length (encoded c)
unfolding encoded
some_bytes (post_of s) h = omega arith
some_bytes (turn_to m) h = omega arith
some_bytes withdrawal h = omega arith
some_bytes (asks (look_at plain factor y)) h = omega arith
some_bytes (asks (look_at plain sum y)) h = absurd h
some_bytes (asks (look_at adjusted v y)) h = absurd h
some_bytes (asks (page_into w l)) h = absurd h
some_bytes (asks (value_of fs)) h = absurd h

reads_back : (c : Call) (rest : List ℕ) → Fits c → front (encoded c ++ rest) ≡ whole c (length (encoded c))
unfolding encoded front desk_front
reads_back (post_of s) rest h =
    let three : 3 + length s ≡ suc (suc (suc (length s))) = omega arith in
    rw (eqb-suc-zero (suc (suc (length (s ++ rest)))), two_bytes (length s) h.0, take_at s rest (length s) refl)
    (record_read (encoded (post_of s) ++ rest) (3 + length s) (post_of s) (omega (arith, length-append s rest)) ∙ ap (whole (post_of s)) three)
reads_back (turn_to m) rest h =
    rw (eqb-suc-zero (suc (suc (length rest))), two_bytes m h) (record_read (encoded (turn_to m) ++ rest) 3 (turn_to m) (omega arith))
reads_back withdrawal rest h = record_read (encoded withdrawal ++ rest) 1 withdrawal (omega arith)
reads_back (asks (look_at plain factor y)) rest h =
    rw (eqb-suc-zero (suc (length rest))) (record_read (encoded (asks (look_at plain factor y)) ++ rest) 2 (asks (look_at plain factor y)) (omega arith))
reads_back (asks (look_at plain sum y)) rest h = absurd h
reads_back (asks (look_at adjusted v y)) rest h = absurd h
reads_back (asks (page_into w l)) rest h = absurd h
reads_back (asks (value_of fs)) rest h = absurd h

reads_all : (most : ℕ) (cs : List Call) → AllFit cs → length (encode cs) ≤ most → decode_from most (encode cs) ≡ cs
unfolding decode_from
reads_all zero [] f h = refl
reads_all (suc most) [] f h = rw (front_end [] (omega arith))
reads_all zero (c ∷ cs) f h = absurd (omega (arith, length-append (encoded c) (encode cs), some_bytes c f.0))
reads_all (suc most) (c ∷ cs) f h =
    rw (reads_back c (encode cs) f.0, drop-append_seam (encoded c) (encode cs))
    (ap (λ (ds : List Call). c ∷ ds) (reads_all most cs f.1 (omega (arith, length-append (encoded c) (encode cs), some_bytes c f.0))))

pub decode-encode : (cs : List Call) → AllFit cs → decode (encode cs) ≡ cs
unfolding decode
decode-encode cs f = reads_all (length (encode cs)) cs f (omega arith)

-- and what is written are bytes
bytes_append : (s t : List ℕ) → AreBytes s → AreBytes t → AreBytes (s ++ t)
bytes_append [] t h k = k
bytes_append (b ∷ s) t h k = (h.0, bytes_append s t h.1 k)

encoded_bytes : (c : Call) → Fits c → AreBytes (encoded c)
unfolding encoded
encoded_bytes (post_of s) h = (omega arith, (omega arith, (omega arith, h.1)))
encoded_bytes (turn_to m) h = (omega arith, (omega arith, (omega arith, tt)))
encoded_bytes withdrawal h = (omega arith, tt)
encoded_bytes (asks (look_at plain factor y)) h = (omega arith, (h, tt))
encoded_bytes (asks (look_at plain sum y)) h = absurd h
encoded_bytes (asks (look_at adjusted v y)) h = absurd h
encoded_bytes (asks (page_into w l)) h = absurd h
encoded_bytes (asks (value_of fs)) h = absurd h

pub encode_bytes : (cs : List Call) → AllFit cs → AreBytes (encode cs)
encode_bytes [] f = tt
encode_bytes (c ∷ cs) f = bytes_append (encoded c) (encode cs) (encoded_bytes c f.0) (encode_bytes cs f.1)
