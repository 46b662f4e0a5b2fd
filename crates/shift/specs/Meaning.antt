-- SPECIFICATION 7.4 and 8: what is promised of the shift, in words of its own: over the bytes of the sheet that is typed again with the shift in it.
use Rattle.std.specs.Prelude.{◌≡◌, cond, List, [], ◌∷◌, ◌++◌, ◌↔◌, ℕ, zero, suc, ◌+◌, ◌*◌, ◌≤◌, eqb, ℤ, pos, negsuc, ◌+ℤ◌, length, get_or, take, drop, ◌≤ℤ◌}
use Rattle.method.specs.Bytes.{in_bytes, twos_complement32}
use Rattle.method.specs.Grounds.{Ground, no_shift, Outcome, refused, done}
use Rattle.method.specs.Sheet.{twos_complement16, Numbers, read_sheet}
use Rattle.method.specs.Curve.{Curves, answer}
use Rattle.method.specs.Enclosure.{high_of}
use Rattle.valuation.specs.Block.{Flow}
use Rattle.valuation.specs.Meaning.{Counted, RightTo, cost_of, SmallestCovering, ListTells}

-- ---- the sheet typed again

-- a market's quotes: ten behind hex 08 and 2, twelve behind hex 08 and 3, else seventeen
abbrev pub quotes_typed : List ℕ → ℕ
quotes_typed sheet = cond (eqb (get_or sheet 0 0) 0x08) (cond (eqb (get_or sheet 1 0) 2) 10 (cond (eqb (get_or sheet 1 0) 3) 12 17)) 17

-- their records start behind the month's three bytes, and behind the two of hex 08 where they stand
abbrev pub quotes_start : List ℕ → ℕ
quotes_start sheet = cond (eqb (get_or sheet 0 0) 0x08) 5 3

-- each has four bytes, the last two being the rate in two's complement
unfoldable pub quotes_retyped : ℤ → ℕ → List ℕ → List ℕ
quotes_retyped s zero bytes = bytes
quotes_retyped s (suc k) [] = []
quotes_retyped s (suc k) (a ∷ []) = a ∷ []
quotes_retyped s (suc k) (a ∷ b ∷ []) = a ∷ b ∷ []
quotes_retyped s (suc k) (a ∷ b ∷ c ∷ []) = a ∷ b ∷ c ∷ []
quotes_retyped s (suc k) (a ∷ b ∷ c ∷ d ∷ bytes) =
    a ∷ b ∷ (in_bytes 2 (twos_complement32 (twos_complement16 (c * 256 + d) +ℤ s)) ++ quotes_retyped s k bytes)

-- the same bytes but for the rates, s being added to each
unfoldable pub retyped : ℤ → List ℕ → List ℕ
retyped s sheet = take (quotes_start sheet) sheet ++ quotes_retyped s (quotes_typed sheet) (drop (quotes_start sheet) sheet)

-- ---- a shift that does

-- whole, from -500 to 500; none of 19, 1 to 4 and 7 to 10 applies to the sheet typed again; the block's high on its plain curve is at most the target
pub record Does (sheet : List ℕ) (fs : List Flow) (target : ℕ) (s : ℤ) : Type 0 where
  pub from : negsuc 499 ≤ℤ s
  pub to : s ≤ℤ pos 500
  pub curves : Curves
  pub passes : answer (retyped s sheet) ≡ done curves
  pub high : ℕ
  pub covers : SmallestCovering (cost_of (high_of curves.plain) fs) high
  pub within : high ≤ target

pub record Smallest (Passes : ℤ → Type 0) (s : ℤ) : Type 0 where
  pub passes : Passes s
  pub none_below : (w : ℤ) → Passes w → s ≤ℤ w

-- ---- the answer

pub record ShiftTells (sheet : List ℕ) (fs : List Flow) (target : ℕ) (a : Outcome ℤ) : Type 0 where
  -- 19 and 1 to 4 of the sheet as it is typed, whatever the list
  pub sheet_refused : (g : Ground) → read_sheet sheet ≡ refused g → a ≡ refused g
  -- then 20 to 22 of the list
  pub list_refused : (n : Numbers) → read_sheet sheet ≡ done n → ListTells fs a
  -- then the smallest, or 23 exactly when there is none
  pub smallest :
      (n : Numbers) → read_sheet sheet ≡ done n → Counted fs → RightTo fs (length fs) → (s : ℤ) → (a ≡ done s) ↔ Smallest (Does sheet fs target) s
  pub none :
      (n : Numbers) → read_sheet sheet ≡ done n → Counted fs → RightTo fs (length fs) → (a ≡ refused no_shift) ↔ ((s : ℤ) → Does sheet fs target s → ⊥)
