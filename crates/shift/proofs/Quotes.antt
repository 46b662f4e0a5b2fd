-- A sheet and the same one typed again, byte by byte: the length, the bytes outside the rates' numbers, and those numbers.
use mathlib.Core.Path.{◌≡◌, refl, ap}
use mathlib.Core.List.{List, [], ◌∷◌, ◌++◌}
use Prim.Native.Nat.{ℕ, zero, suc, ◌+◌, ◌-◌, ◌*◌, ◌/◌, ◌%◌, ◌≤◌, ◌<◌}
use native.Mathlib.Omega.{arith}
use borrow.Author.Tests.{lt-ltb, le-ltb}
use lib.IntN.{ℤ, pos, negsuc, nat_abs, ◌+ℤ◌}
use lib.ListN.{length, get_or, take, drop}
use Rattle.method.specs.Bytes.{big_endian, in_bytes, twos_complement32}
use Rattle.method.specs.Sheet.{rate, twos_complement16, slot, number_of_record}
use Rattle.shift.specs.Meaning.{quotes_retyped}

-- an integer that is typed in two bytes, as it is read
abbrev pub read_again : ℤ → ℤ
read_again z = twos_complement16 (big_endian 0 (in_bytes 2 (twos_complement32 z)))

-- is itself, where two bytes are enough
pub read_again_lem : (z : ℤ) → nat_abs z ≤ 32_767 → read_again z ≡ z
unfolding big_endian in_bytes
read_again_lem (pos n) h =
    let same : (0 + n / 256 % 256) * 256 + n % 256 ≡ n = omega arith in
    rw (same, lt-ltb n 32_768 (omega arith))
read_again_lem (negsuc n) h =
    let m : ℕ = 4_294_967_295 - n % 4_294_967_296 in
    let same : (0 + m / 256 % 256) * 256 + m % 256 ≡ 65_535 - n = omega arith in
    rw (same, le-ltb (65_535 - n) 32_768 (omega arith), lt-ltb (65_535 - n) 65_536 (omega arith)) (ap negsuc (omega arith))

-- the number of a rate's record that starts at byte j
abbrev pub rate_from : List ℕ → ℕ → ℤ
rate_from bytes j = number_of_record bytes (slot rate 0 j)

-- k records of four bytes each start at byte a: their last two bytes are typed again, and every other byte is as it was
pub record Retyped (s : ℤ) (a k : ℕ) (old new : List ℕ) : Type 0 where
  pub long : length new ≡ length old
  pub kept : (j : ℕ) → (a ≤ j → (j - a) / 4 < k → (j - a) % 4 < 2) → get_or new j 0 ≡ get_or old j 0
  pub number : (i : ℕ) → i < k → rate_from new (a + 4 * i) ≡ read_again (rate_from old (a + 4 * i) +ℤ s)

module _ (s : ℤ) where
  -- a byte in front
  byte_more : (b a k : ℕ) {old new : List ℕ} → Retyped s a k old new → Retyped s (suc a) k (b ∷ old) (b ∷ new)
  byte_more b a k {old} {new} r = record { long = ap suc r.long; kept = kept; number = number }
    where
      kept : (j : ℕ) → (suc a ≤ j → (j - suc a) / 4 < k → (j - suc a) % 4 < 2) → get_or (b ∷ new) j 0 ≡ get_or (b ∷ old) j 0
      kept zero h = refl
      kept (suc j) h = r.kept j (λ from inside. omega (arith, h (omega arith) (omega arith)))

      number : (i : ℕ) → i < k → rate_from (b ∷ new) (suc a + 4 * i) ≡ read_again (rate_from (b ∷ old) (suc a + 4 * i) +ℤ s)
      number i h = let next : suc a + 4 * i + 1 ≡ suc (a + 4 * i + 1) = omega arith in rw next (r.number i h)

  -- the two bytes for c and d
  abbrev two : ℕ → ℕ → List ℕ
  two c d = in_bytes 2 (twos_complement32 (twos_complement16 (c * 256 + d) +ℤ s))

  -- a record in front
  record_more : (a b c d k : ℕ) {old new : List ℕ} → Retyped s 0 k old new → Retyped s 0 (suc k) (a ∷ b ∷ c ∷ d ∷ old) (a ∷ b ∷ (two c d ++ new))
  unfolding in_bytes big_endian
  record_more a b c d k {old} {new} r = record { long = ap (λ (n : ℕ). suc (suc (suc (suc n)))) r.long; kept = kept; number = number }
    where
      kept : (j : ℕ) → (0 ≤ j → (j - 0) / 4 < suc k → (j - 0) % 4 < 2) → get_or (a ∷ b ∷ (two c d ++ new)) j 0 ≡ get_or (a ∷ b ∷ c ∷ d ∷ old) j 0
      kept zero h = refl
      kept (suc zero) h = refl
      kept (suc (suc zero)) h = absurd (omega (arith, h (omega arith) (omega arith)))
      kept (suc (suc (suc zero))) h = absurd (omega (arith, h (omega arith) (omega arith)))
      kept (suc (suc (suc (suc j)))) h = r.kept j (λ from inside. omega (arith, h (omega arith) (omega arith)))

      number : (i : ℕ) → i < suc k → rate_from (a ∷ b ∷ (two c d ++ new)) (0 + 4 * i) ≡ read_again (rate_from (a ∷ b ∷ c ∷ d ∷ old) (0 + 4 * i) +ℤ s)
      number zero h = let same : 0 + c ≡ c = omega arith in rw same
      number (suc i) h = let next : 0 + 4 * suc i + 1 ≡ suc (suc (suc (suc (0 + 4 * i + 1)))) = omega arith in rw next (r.number i (omega arith))

  quotes : (k : ℕ) (bytes : List ℕ) → 4 * k ≤ length bytes → Retyped s 0 k bytes (quotes_retyped s k bytes)
  unfolding quotes_retyped
  quotes zero bytes h = record { long = refl; kept = λ j h. refl; number = λ i h. absurd (omega arith) }
  quotes (suc k) [] h = absurd (omega arith)
  quotes (suc k) (a ∷ []) h = absurd (omega arith)
  quotes (suc k) (a ∷ b ∷ []) h = absurd (omega arith)
  quotes (suc k) (a ∷ b ∷ c ∷ []) h = absurd (omega arith)
  quotes (suc k) (a ∷ b ∷ c ∷ d ∷ bytes) h = record_more a b c d k (quotes k bytes (omega arith))

  pub typed_again : (k a : ℕ) (sheet : List ℕ) → a + 4 * k ≤ length sheet →
      Retyped s a k sheet (take a sheet ++ quotes_retyped s k (drop a sheet))
  typed_again k zero sheet h = quotes k sheet (omega arith)
  typed_again k (suc a) [] h = absurd (omega arith)
  typed_again k (suc a) (b ∷ sheet) h = byte_more b a k (typed_again k a sheet (omega arith))
