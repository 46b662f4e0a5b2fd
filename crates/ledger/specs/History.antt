-- SPECIFICATION 7: the sheet that stands, and the ways back from it.
use Rattle.std.specs.Prelude.{List, [], ◌∷◌, ℕ, take}
use Rattle.method.specs.Grounds.{no_post_left, Outcome, refused, done}
use Rattle.method.specs.Curve.{Held, none, some}

-- the sheet of the last accepted post not withdrawn, or none; and what stood before that post, before the one before it, and so on
pub record History : Type 0 where
  pub sheet : Held (List ℕ)
  pub below : List (Held (List ℕ))

abbrev pub no_posts : History
no_posts = record { sheet = none; below = [] }

-- so many ways back at most
abbrev pub deepest : ℕ
deepest = 3

-- a post can be withdrawn; on a history that is three deep only the oldest way back is forgotten
abbrev pub with_post : List ℕ → History → History
with_post s h = record { sheet = some s; below = take deepest (h.sheet ∷ h.below) }

-- the post that stands is withdrawn: 18 where no way back is left
abbrev pub way_back : List (Held (List ℕ)) → Outcome History
way_back [] = refused no_post_left
way_back (k ∷ ks) = done (record { sheet = k; below = ks })
