-- Its forward, and zeros.
use mathlib.Core.Path.{ap}
use mathlib.Core.List.{[], ◌∷◌}
use Rattle.method.specs.Units.{SignedPair}
use Rattle.curve.proofs.Extending.{one_sizes}
use Rattle.curve.proofs.one_forward.Goals as goal

pub returns : goal.returns
returns c =
    let f = c.gap_forward in
    (ap (λ (p : SignedPair). p ∷ []) f.ensures.0, one_sizes f.result f.ensures.1)
