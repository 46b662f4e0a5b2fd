-- What stands at the front of some bytes is what their first byte begins.
use mathlib.Core.Path.{◌≡◌, refl, subst⁻¹}
use mathlib.Core.Bool.{Bool, true, false, ◌&&◌}
use mathlib.Core.List.{List, [], ◌∷◌}
use Prim.Native.Nat.{ℕ}
use native.Mathlib.Omega.{arith}
use lib.Dec.{eqb, leb, eqb-suc-zero}
use lib.ListN.{length}
use borrow.Author.Tests.{eqb-true}
use Rattle.std.specs.Prelude.{Result}
use Rattle.std.specs.declared.result.Result.TheVariants.{Ok, Err}
use Rattle.method.proofs.Outcome.{split}
use Rattle.book.specs.declared.Book.{Book}
use Rattle.journal.specs.Journal.{Front, cut, unknown, desk_front, front}
use Rattle.journal.specs.Kinds.{kind_by, kind_at, front_by}
use Rattle.journal.specs.Made.{MakesFront, starts_look}
use Rattle.journal.specs.declared.Made.{Made}
use Rattle.journal.specs.declared.NoCall.{NoCall}
use Rattle.journal.specs.declared.NoCall.TheVariants.{CutShort, NotKnown}
use Rattle.journal.specs.declared.kind.Kind.{Kind}
use Rattle.journal.specs.declared.kind.Kind.TheVariants.{Post, Turn, Look, Withdrawal}

-- a byte is one of the four, or none of them
of_byte : (P : ℕ → Type 0) (b : ℕ) → P 0x50 → P 0x4D → P 0x4C → P 0x57 →
    (eqb b 0x50 ≡ false → eqb b 0x4D ≡ false → eqb b 0x4C ≡ false → eqb b 0x57 ≡ false → P b) → P b
of_byte P b post turn look withdrawn other =
    split (eqb b 0x50) (λ t. subst⁻¹ P (eqb-true b 0x50 t) post)
    (λ p. split (eqb b 0x4D) (λ t. subst⁻¹ P (eqb-true b 0x4D t) turn)
    (λ m. split (eqb b 0x4C) (λ t. subst⁻¹ P (eqb-true b 0x4C t) look)
    (λ l. split (eqb b 0x57) (λ t. subst⁻¹ P (eqb-true b 0x57 t) withdrawn) (other p m l))))

abbrev pub front_of : Result Kind NoCall → List ℕ → Front
front_of (Ok kind) s = front_by kind s
front_of (Err CutShort) s = cut
front_of (Err NotKnown) s = unknown

pub front_is : (s : List ℕ) → front s ≡ front_of (kind_at s) s
unfolding front desk_front
front_is [] = refl
front_is (b ∷ s) =
    let some = eqb-suc-zero (length s) in
    of_byte (λ b. front (b ∷ s) ≡ front_of (kind_by b) (b ∷ s)) b
    (rw some refl) (rw some refl) (rw some refl) refl (λ p m l w. rw (some, p, m, l, w) refl)

-- a withdrawal is unknown to the desk
abbrev pub desk_kind : Result Kind NoCall → Result Kind NoCall
desk_kind (Ok Post) = Ok Post
desk_kind (Ok Turn) = Ok Turn
desk_kind (Ok Look) = Ok Look
desk_kind (Ok Withdrawal) = Err NotKnown
desk_kind (Err why) = Err why

pub desk_knows : (kind : Kind) → (kind ≡ Withdrawal → ⊥) → desk_kind (Ok kind) ≡ Ok kind
desk_knows Post h = refl
desk_knows Turn h = refl
desk_knows Look h = refl
desk_knows Withdrawal h = absurd (h refl)

pub desk_front_is : (s : List ℕ) → desk_front s ≡ front_of (desk_kind (kind_at s)) s
unfolding desk_front
desk_front_is [] = refl
desk_front_is (b ∷ s) =
    let some = eqb-suc-zero (length s) in
    of_byte (λ b. desk_front (b ∷ s) ≡ front_of (desk_kind (kind_by b)) (b ∷ s)) b
    (rw some refl) (rw some refl) (rw some refl) (rw some refl) (λ p m l w. rw (some, p, m, l, w) refl)

abbrev pub is_look : Result Kind NoCall → Bool
is_look (Ok Post) = false
is_look (Ok Turn) = false
is_look (Ok Look) = true
is_look (Ok Withdrawal) = false
is_look (Err why) = false

pub starts_is : (s : List ℕ) → starts_look s ≡ (leb 2 (length s) && is_look (kind_at s))
starts_is [] = refl
starts_is (b ∷ s) =
    of_byte (λ b. starts_look (b ∷ s) ≡ (leb 2 (length (b ∷ s)) && is_look (kind_by b))) b refl refl refl refl (λ p m l w. rw (p, m, l, w) refl)

-- no call is made, and the book stays
pub uncalled : (book : Book) (s : List ℕ) (why : NoCall) (r : Result Made NoCall) → r ≡ Err why → MakesFront book book s (front_of (Err why) s) r
uncalled book s CutShort r e = rw e (record { reply = refl; book = refl; kept = refl; bytes = refl; within = omega arith })
uncalled book s NotKnown r e = rw e (record { reply = refl; book = refl; kept = refl; bytes = refl; within = omega arith })
