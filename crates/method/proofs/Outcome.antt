-- A result that was not refused: every test on the way passed.
use mathlib.Core.Path.{◌≡◌, refl, ap}
use mathlib.Core.Bool.{Bool, true, false, ◌&&◌}
use Prim.Native.Nat.{ℕ}
use native.Mathlib.Omega.{arith}
use Rattle.method.specs.Grounds.{Ground, Outcome, refused, done, ◌>>=◌, demand}

is_done : {A : Type 0} → Outcome A → ℕ
is_done (refused g) = 0
is_done (done a) = 1

pub refused_not_done : {A : Type 0} {g : Ground} {a : A} → refused g ≡ done a → ⊥
unfolding is_done
refused_not_done e = let z : ◌≡◌ {A = ℕ} 0 1 = ap is_done e in omega arith

pub done_injective : {A : Type 0} {x y : A} → done x ≡ done y → x ≡ y
done_injective e = cc

pub bind_done : {A B : Type 0} (o : Outcome A) (f : A → Outcome B) {y : B} → (o >>= f) ≡ done y → (x : A) × (o ≡ done x) × (f x ≡ done y)
bind_done (refused g) f e = absurd (refused_not_done e)
bind_done (done x) f e = (x, refl, e)

-- one step after the other, however they are grouped
pub bind_assoc : {A B C : Type 0} (o : Outcome A) (f : A → Outcome B) (g : B → Outcome C) → ((o >>= f) >>= g) ≡ (o >>= λ a. f a >>= g)
bind_assoc (refused r) f g = refl
bind_assoc (done a) f g = refl

-- the same next step for the result that there is
pub bind_with : {A B : Type 0} (o : Outcome A) {f g : A → Outcome B} → ((a : A) → o ≡ done a → f a ≡ g a) → (o >>= f) ≡ (o >>= g)
bind_with (refused r) e = refl
bind_with (done a) e = e a refl

pub demand_done : {B : Type 0} (b : Bool) (g : Ground) (f : Unit {0} → Outcome B) {y : B} → (demand b g >>= f) ≡ done y → (b ≡ true) × (f tt ≡ done y)
demand_done true g f e = (refl, e)
demand_done false g f e = absurd (refused_not_done e)

pub both_true : (p q : Bool) → (p && q) ≡ true → (p ≡ true) × (q ≡ true)
both_true true q e = (refl, e)
both_true false q e = (e, cc)

-- by the two cases of a test
pub split : {P : Type 0} (b : Bool) → (b ≡ true → P) → (b ≡ false → P) → P
split true f g = f refl
split false f g = g refl
