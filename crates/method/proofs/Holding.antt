-- What is held, or not.
use mathlib.Core.Path.{◌≡◌, ap}
use Prim.Native.Nat.{ℕ}
use native.Mathlib.Omega.{arith}
use Rattle.method.specs.Curve.{Held, none, some}

is_held : {A : Type 0} → Held A → ℕ
is_held none = 0
is_held (some a) = 1

pub none_not_some : {A : Type 0} {a : A} → none ≡ some a → ⊥
unfolding is_held
none_not_some e = let z : ◌≡◌ {A = ℕ} 0 1 = ap is_held e in omega arith

pub some_injective : {A : Type 0} {x y : A} → some x ≡ some y → x ≡ y
some_injective e = cc
