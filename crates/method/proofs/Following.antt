-- Two computations of the same shape, walked side by side: where the second gives a result, so does the first, and the two results are
-- related; and lists that are related entry by entry.
use mathlib.Core.Path.{◌≡◌, refl, ap, subst}
use mathlib.Core.Bool.{Bool, true, false}
use mathlib.Core.List.{List, [], ◌∷◌, ◌++◌, map}
use Prim.Native.Nat.{ℕ, zero, suc}
use lib.ListN.{length, get_or}
use Rattle.method.specs.Grounds.{Ground, Outcome, refused, done, ◌>>=◌, demand}
use Rattle.method.proofs.Outcome.{refused_not_done, done_injective}

-- ---- where the second gives a result, so does the first, and R holds of the two

pub data Follows {A : Type 0} (R : A → A → Type 0) : Outcome A → Outcome A → Type 0 where
  refuses : {o : Outcome A} {g : Ground} → Follows R o (refused g)
  gives : {x y : A} → R x y → Follows R (done x) (done y)

pub follow : {A B : Type 0} {R : A → A → Type 0} {S : B → B → Type 0} {o e : Outcome A} {f g : A → Outcome B} →
    Follows R o e → ((x y : A) → R x y → Follows S (f x) (g y)) → Follows S (o >>= f) (e >>= g)
follow refuses k = refuses
follow (gives {x} {y} r) k = k x y r

-- from one result
pub follow_from : {A B : Type 0} {S : B → B → Type 0} (o : Outcome A) {f g : A → Outcome B} →
    ((x : A) → o ≡ done x → Follows S (f x) (g x)) → Follows S (o >>= f) (o >>= g)
follow_from (refused r) k = refuses
follow_from (done x) k = k x refl

-- through a test that the first passes where the second does
pub follow_test : {B : Type 0} {S : B → B → Type 0} (b c : Bool) (g h : Ground) {x y : Outcome B} → (c ≡ true → b ≡ true) →
    Follows S x y → Follows S (demand b g >>= λ u. x) (demand c h >>= λ u. y)
follow_test b false g h t k = refuses
follow_test b true g h t k = rw (t refl) k

pub result : {A : Type 0} {R : A → A → Type 0} {o e : Outcome A} {y : A} → Follows R o e → e ≡ done y → (x : A) × (o ≡ done x) × R x y
result refuses q = absurd (refused_not_done q)
result {R = R} (gives {x} r) q = (x, refl, subst (R x) (done_injective q) r)

-- ---- lists

pub data Pairwise {A : Type 0} (R : A → A → Type 0) : List A → List A → Type 0 where
  none : Pairwise R [] []
  more : {x y : A} {xs ys : List A} → R x y → Pairwise R xs ys → Pairwise R (x ∷ xs) (y ∷ ys)

pub pairwise_length : {A : Type 0} {R : A → A → Type 0} {xs ys : List A} → Pairwise R xs ys → length xs ≡ length ys
pairwise_length none = refl
pairwise_length (more r k) = ap suc (pairwise_length k)

pub pairwise_append : {A : Type 0} {R : A → A → Type 0} {ws xs ys zs : List A} → Pairwise R ws xs → Pairwise R ys zs → Pairwise R (ws ++ ys) (xs ++ zs)
pairwise_append none k = k
pairwise_append (more r j) k = more r (pairwise_append j k)

-- what is read off both, entry by entry; past the end stands the same on both sides
pub pairwise_at : {A B : Type 0} {R : A → A → Type 0} (S : B → B → Type 0) (read : A → B) (d : B) → S d d → ((x y : A) → R x y → S (read x) (read y)) →
    {xs ys : List A} → Pairwise R xs ys → (i : ℕ) → S (get_or (map read xs) i d) (get_or (map read ys) i d)
pairwise_at S read d past each none i = past
pairwise_at S read d past each (more {x} {y} r k) zero = each x y r
pairwise_at S read d past each (more r k) (suc i) = pairwise_at S read d past each k i
