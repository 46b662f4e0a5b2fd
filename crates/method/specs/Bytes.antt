-- SPECIFICATION 1: numbers in bytes have the high byte first.
use Rattle.std.specs.Prelude.{List, [], ◌∷◌, ◌++◌, ℕ, zero, suc, ◌+◌, ◌-◌, ◌*◌, ◌/◌, ◌%◌, length, take, drop, ℤ, pos, negsuc}

-- the number of some bytes, read on from n
unfoldable pub big_endian : ℕ → List ℕ → ℕ
big_endian n [] = n
big_endian n (b ∷ bs) = big_endian (n * 256 + b) bs

-- and the bytes of a number
abbrev pub bytes2 : ℕ → List ℕ
bytes2 n = n / 256 % 256 ∷ n % 256 ∷ []

abbrev pub bytes4 : ℕ → List ℕ
bytes4 n = n / 16_777_216 % 256 ∷ n / 65_536 % 256 ∷ n / 256 % 256 ∷ n % 256 ∷ []

-- the lowest bytes of a number, so many, the high one first
unfoldable pub in_bytes : ℕ → ℕ → List ℕ
in_bytes zero n = []
in_bytes (suc w) n = in_bytes w (n / 256) ++ n % 256 ∷ []

-- an integer in two's complement, in 32 bits
abbrev pub twos_complement32 : ℤ → ℕ
twos_complement32 (pos n) = n
twos_complement32 (negsuc n) = 4_294_967_295 - n % 4_294_967_296

-- some bytes put into a buffer from a place on, all others as they were
abbrev pub put_at : ℕ → List ℕ → List ℕ → List ℕ
put_at at bytes l = take at l ++ bytes ++ drop (at + length bytes) l
