-- What a high gains: 1, but at the known argument only the slack, which is 0 at present. At slack 1, in the earlier definitions, it is 1
-- everywhere; and every other argument of G and E keeps its figures, whatever the slack.
use mathlib.Core.Path.{◌≡◌, refl, ap, sym, ◌∙◌}
use mathlib.Core.Bool.{Bool, cond}
use Prim.Native.Nat.{ℕ, ◌+◌, ◌-◌, ◌/◌, ◌≤◌, ◌<◌}
use native.Mathlib.Omega.{arith}
use borrow.Author.Tests.{eqb-true, eq-eqb, ne_eqb}
use lib.Dec.{leb, eqb}
use lib.IntN.{pos, neg_ℤ}
use Rattle.fraction.specs.Rounding.{U, ceil_div}
use Rattle.method.specs.Units.{pair, SignedPair, signed_pair}
use Rattle.method.specs.Series.{added, logarithm, GWith, G, growth, growth_low, growth_high_with, growth_high}
use Rattle.method.proofs.Computes.{computes}
use Rattle.method.proofs.Outcome.{split}

-- ---- the two known results, and their neighbours

pub G-known : G U ≡ signed_pair (pos 0) (pos 0)
unfolding computes
G-known = refl

pub G-next : G 999_999_999 ≡ signed_pair (pos 0) (pos 11)
unfolding computes
G-next = refl

pub E-known : pair (growth_low 0) (growth_high 0) ≡ pair U U
unfolding computes
E-known = refl

pub E-next : pair (growth_low 1) (growth_high 1) ≡ pair 1_000_000_001 1_000_000_008
unfolding computes
E-next = refl

-- ---- what is added

pub added_known : (slack known x : ℕ) → x ≡ known → added slack known x ≡ slack
unfolding added
added_known slack known x e = ap (λ (b : Bool). cond b slack 1) (eq-eqb x known e)

pub added_elsewhere : (slack known x : ℕ) → (x ≡ known → ⊥) → added slack known x ≡ 1
unfolding added
added_elsewhere slack known x f = ap (λ (b : Bool). cond b slack 1) (ne_eqb x known f)

pub added_cases : (slack known x : ℕ) (P : ℕ → Type 0) → (x ≡ known → P slack) → P 1 → P (added slack known x)
unfolding added
added_cases slack known x P at elsewhere = split (eqb x known) (λ t. rw t (at (eqb-true x known t))) (λ f. rw f elsewhere)

pub added_most : (known x : ℕ) → added 0 known x ≤ 1
added_most known x = added_cases 0 known x (λ m. m ≤ 1) (λ e. omega arith) (omega arith)

pub one_added : (known x : ℕ) → added 1 known x ≡ 1
one_added known x = added_cases 1 known x (λ m. m ≡ 1) (λ e. refl) refl

-- ---- all other arguments keep their figures

pub G-elsewhere : (slack x : ℕ) → (x ≡ U → ⊥) → GWith slack x ≡ G x
unfolding GWith
G-elsewhere slack x f =
    let d = (U - x) + (x - U) in
    let low = logarithm ◌/◌ d x in
    let ends : ℕ → SignedPair = λ high. cond (leb x U) (signed_pair (pos low) (pos high)) (signed_pair (neg_ℤ (pos high)) (neg_ℤ (pos low))) in
    ap (λ (m : ℕ). ends (logarithm ceil_div d x + m)) (added_elsewhere slack U x f ∙ sym (added_elsewhere 0 U x f))

pub E-elsewhere : (slack y : ℕ) → 0 < y → growth_high_with slack y ≡ growth_high y
E-elsewhere slack y h =
    let other : y ≡ 0 → ⊥ = λ e. omega arith in
    ap (λ (m : ℕ). growth ceil_div y + m) (added_elsewhere slack 0 y other ∙ sym (added_elsewhere 0 0 y other))
