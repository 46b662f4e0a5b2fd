-- The kept sheets as the ledger's history.
use Rattle.std.specs.Prelude.{List, map, ℕ, take, Option, Some, None}
use Rattle.method.specs.Curve.{Held, none, some}
use Rattle.ledger.specs.History as ledger
use Rattle.history.specs.declared.Kept.{Kept}
use Rattle.history.specs.declared.History.{History}

-- a kept sheet's bytes at most
abbrev pub longest : ℕ
longest = 117

abbrev pub kept_bytes : Kept → List ℕ
kept_bytes k = take k.length k.bytes

abbrev pub as_kept : Option Kept → Held (List ℕ)
as_kept None = none
as_kept (Some k) = some (kept_bytes k)

abbrev pub as_history : History → ledger.History
as_history h = record { sheet = as_kept h.sheet; below = take h.depth (map as_kept h.below) }
