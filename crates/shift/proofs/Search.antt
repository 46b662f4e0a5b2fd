-- The first shift that passes a test, among those from a place on: it passes, none before it does, and 23 where none does.
use mathlib.Core.Path.{◌≡◌, refl, ◌∙◌}
use mathlib.Core.Bool.{Bool, true, false}
use Prim.Native.Nat.{ℕ, zero, suc, ◌+◌, ◌≤◌, ◌<◌}
use native.Mathlib.Omega.{arith}
use lib.Dec.{eqb}
use lib.IntN.{ℤ}
use borrow.Author.Tests.{eqb-true, eqb-false}
use Rattle.method.specs.Grounds.{no_shift, refused, done}
use Rattle.method.proofs.Outcome.{split}
use Rattle.shift.specs.Shift.{shift_at, first_shift}

module _ (does : ℤ → Bool) where
  -- one step
  pub first_here : (k i : ℕ) → does (shift_at i) ≡ true → first_shift does (suc k) i ≡ done (shift_at i)
  unfolding first_shift
  first_here k i e = rw e

  pub first_later : (k i : ℕ) → does (shift_at i) ≡ false → first_shift does (suc k) i ≡ first_shift does k (suc i)
  unfolding first_shift
  first_later k i e = rw e

  pub first_none : (i : ℕ) → first_shift does 0 i ≡ refused no_shift
  unfolding first_shift
  first_none i = refl

  -- the shift that was found stands at j: each before it fails
  pub record Found (i k : ℕ) (s : ℤ) : Type 0 where
    pub j : ℕ
    pub from : i ≤ j
    pub to : j < i + k
    pub is : s ≡ shift_at j
    pub passes : does (shift_at j) ≡ true
    pub earlier : (m : ℕ) → i ≤ m → m < j → does (shift_at m) ≡ false

  pub data Searched (i k : ℕ) : Type 0 where
    found : (s : ℤ) → first_shift does k i ≡ done s → Found i k s → Searched i k
    failed : first_shift does k i ≡ refused no_shift → ((m : ℕ) → i ≤ m → m < i + k → does (shift_at m) ≡ false) → Searched i k

  -- by induction on how many are left
  pub searched : (k i : ℕ) → Searched i k
  searched zero i = failed (first_none i) (λ m from to. absurd (omega arith))
  searched (suc k) i = split (does (shift_at i)) here (λ e. on e (searched k (suc i)))
    where
      here : does (shift_at i) ≡ true → Searched i (suc k)
      here e =
          found (shift_at i) (first_here k i e)
          (record { j = i; from = omega arith; to = omega arith; is = refl; passes = e; earlier = λ m from to. absurd (omega arith) })

      -- i itself failed
      also : does (shift_at i) ≡ false → {n : ℕ} → ((m : ℕ) → suc i ≤ m → m < n → does (shift_at m) ≡ false) →
          (m : ℕ) → i ≤ m → m < n → does (shift_at m) ≡ false
      also e later m from to =
          split (eqb m i) (λ p. rw (eqb-true m i p) e) (λ p. let other = eqb-false m i p in later m (omega arith) to)

      on : does (shift_at i) ≡ false → Searched (suc i) k → Searched i (suc k)
      on e (found s is f) =
          found s (first_later k i e ∙ is)
          (record { j = f.j; from = omega (arith, f.from); to = omega (arith, f.to); is = f.is; passes = f.passes; earlier = also e f.earlier })
      on e (failed is none) = failed (first_later k i e ∙ is) (also e (λ m from to. none m from (omega arith)))
