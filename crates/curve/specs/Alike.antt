-- A struct's fact has to have one proof at most. A property of each pair has, where that of a pair has.
use Rattle.std.specs.Prelude.{List, [], ◌∷◌}
use mathlib.Core.Path.{refl, ap₂}
use Rattle.method.specs.Units.{Pair}
use Rattle.method.specs.Ranges.{Each}

pub each_alike : {P : Pair → Type 0} → ((p : Pair) → IsProp (P p)) → (ps : List Pair) → IsProp (Each P ps)
each_alike f [] Each.none Each.none = refl
each_alike f (p ∷ ps) (Each.more x xs) (Each.more y ys) = ap₂ Each.more (f p x y) (each_alike f ps xs ys)
