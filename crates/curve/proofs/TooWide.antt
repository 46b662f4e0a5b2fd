-- Ground 10 on two arrays: the first year too wide, by the first index.
use mathlib.Core.Path.{◌≡◌, refl}
use mathlib.Core.Bool.{Bool, true, false, cond, not}
use mathlib.Core.List.{List, [], ◌∷◌, zip_with}
use Prim.Native.Nat.{ℕ, ◌+◌, ◌-◌}
use native.Mathlib.Numerals.{add-one}
use native.Mathlib.Omega.{arith}
use lib.Dec.{leb, ltb}
use Rattle.std.specs.Prelude.{Option}
use Rattle.std.specs.List.{position, position_from, zip}
use Rattle.std.specs.Option.{option_map}
use Rattle.std.specs.declared.option.Option.TheVariants.{Some}
use Rattle.std.proofs.lemmas.Bool.Decides.{nat_tests}
use Rattle.std.proofs.lemmas.Iterator.Adapters.{position_from-zero}
use Rattle.method.specs.Extrapolation.{first_too_wide}
use Rattle.method.specs.Units.{pairs_of}
use Rattle.curve.specs.Curves.{year_or_none}

-- a band passes the limit
abbrev pub is_wide : ℕ → ℕ × ℕ → Bool
is_wide limit p = ltb limit (p.1 - p.0)

tests_opposed : (a b : ℕ) → ltb b a ≡ not (leb a b)
tests_opposed a b = grind (arith, nat_tests)

here : (narrow : Bool) (i later : ℕ) (rest : Option ℕ) → option_map (λ k. k + 1) rest ≡ year_or_none later →
    option_map (λ k. k + 1) (cond (not narrow) (Some i) rest) ≡ year_or_none (cond narrow later (i + 1))
here true i later rest e = e
here false i later rest e = rw add-one

from_index : (limit i : ℕ) (lows highs : List ℕ) →
    option_map (λ k. k + 1) (position_from (is_wide limit) i (zip lows highs)) ≡ year_or_none (first_too_wide limit (i + 1) (pairs_of lows highs))
unfolding first_too_wide zip_with
from_index limit i [] highs = refl
from_index limit i (low ∷ lows) [] = refl
from_index limit i (low ∷ lows) (high ∷ highs) =
    rw (tests_opposed (high - low) limit) (here (leb (high - low) limit) i _ _ (from_index limit (i + 1) lows highs))

pub first_wide : (limit : ℕ) (lows highs : List ℕ) →
    option_map (λ k. k + 1) (position (is_wide limit) (zip lows highs)) ≡ year_or_none (first_too_wide limit 1 (pairs_of lows highs))
first_wide limit lows highs = rw (position_from-zero (is_wide limit) (zip lows highs)) (from_index limit 0 lows highs)
