-- A sheet in its bytes; and the ways back, one more or none left.
use Rattle.std.proofs.Common.{◌≡◌, ℕ, zero, suc, ◌+◌, min, List, [], ◌∷◌, length, map, take, slice_index_or, Option, Some, None, ◌++◌, ap, ◌∙◌, arith}
use lib.Seq.{take-length, take-append_seam}
use Rattle.method.specs.Grounds.{no_post_left, refused}
use Rattle.method.specs.Curve.{Held, some}
use Rattle.ledger.specs.History.{deepest, way_back}
use Rattle.history.specs.declared.Kept.{Kept}
use Rattle.history.specs.Views.{as_kept}

-- what stood before the first way back, of which three are kept
pub one_more : (depth fewer : ℕ) (stood : Option Kept) (below : List (Option Kept)) → length below ≡ 3 → fewer ≡ min depth 2 →
    take (fewer + 1) (map as_kept (stood ∷ slice_index_or below 0 None ∷ slice_index_or below 1 None ∷ []))
    ≡ take deepest (as_kept stood ∷ take depth (map as_kept below))
one_more depth fewer stood [] h e = absurd (omega arith)
one_more depth fewer stood (a ∷ []) h e = absurd (omega arith)
one_more depth fewer stood (a ∷ b ∷ []) h e = absurd (omega arith)
one_more zero fewer stood (a ∷ b ∷ c ∷ cs) h e = rw e
one_more (suc zero) fewer stood (a ∷ b ∷ c ∷ cs) h e = rw e
one_more (suc (suc depth)) fewer stood (a ∷ b ∷ c ∷ cs) h e = let two : fewer ≡ 2 = omega arith in rw two

-- the sheet stands at the front of the bytes
pub kept_whole : (k : Kept) (s rest : List ℕ) → k.length ≡ length s → k.bytes ≡ take (length s) s ++ rest → as_kept (Some k) ≡ some s
kept_whole k s rest long e =
    let front = ap (take (length s)) (e ∙ ap (λ (l : List ℕ). l ++ rest) (take-length s)) ∙ take-append_seam s rest in
    rw (long, front)

pub none_left : (depth : ℕ) (ks : List (Held (List ℕ))) → depth ≡ 0 → refused no_post_left ≡ way_back (take depth ks)
none_left depth ks e = rw e
