-- Signed numbers on the machine. A local holds bits; an integer below 2^63 in size is read back from them as it was.
use mathlib.Core.Path.{◌≡◌, refl, sym, subst, ◌∙◌}
use mathlib.Core.Bool.{Bool, true, false}
use Prim.Native.Nat.{ℕ, ◌+◌, ◌*◌, ◌≤◌, ◌<◌, ◌^◌}
use native.Mathlib.Nat.{le_trans}
use native.Mathlib.Omega.{arith}
use lib.Dec.{T, ltb, ltb→lt}
use lib.IntN.{ℤ, pos, negsuc, nat_abs, neg_ℤ, ◌+ℤ◌, ◌-ℤ◌, ◌*ℤ◌, +ℤ_idl}
use lib.Signed.{mag, lt_z, le_z, non_neg, ◌≤ℤ◌}
use mir.Syntax.{w64}
use mir.Val.{SFits, of_z, to_z}
use mir.ValLaws.{to_z-of_z}
use mir.Facts.{to_z_pos}
use borrow.Author.Tests.{ltb-true, ltb-false, le-leb, lt-leb}
use Rattle.fraction.specs.Rounding.{round_ℤ}
use Rattle.method.proofs.Size.{Bounded, bounded-+, bounded-*, size_neg}

abbrev pub stored : ℤ → ℤ
stored z = to_z w64 (of_z w64 z)

-- a bound that a number of 64 bits has room for, by computation
abbrev pub Small : ℕ → Type 0
Small M = T (ltb M (2 ^ 63))

-- ---- an integer by its size

module _ (z : ℤ) {M : ℕ} (h : nat_abs z ≤ M) (s : Small M) where
  pub size_fits : SFits w64 z
  size_fits = go z h
    where
      go : (z : ℤ) → nat_abs z ≤ M → SFits w64 z
      go (pos n) h = record { sfits = omega (arith, ltb→lt M (2 ^ 63) s) }
      go (negsuc n) h = record { sfits = omega (arith, ltb→lt M (2 ^ 63) s) }

  pub stored_is : stored z ≡ z
  stored_is = to_z-of_z w64 z size_fits

  pub stored_size : nat_abs (stored z) ≤ M
  stored_size = rw stored_is h

pub natural_is : (n : ℕ) {M : ℕ} → n ≤ M → Small M → to_z w64 n ≡ pos n
natural_is n {M} h s = to_z_pos w64 (omega (arith, ltb→lt M (2 ^ 63) s))

-- a call's result is read back
pub returned : {r z : ℤ} → r ≡ z → mag r < 2 ^ 63 → stored r ≡ z
returned {r} e h = to_z-of_z w64 r (record { sfits = h }) ∙ e

-- ---- minus

module _ (z : ℤ) {M : ℕ} (h : nat_abs z ≤ M) (s : Small M) where
  minus_size : nat_abs (neg_ℤ z) ≤ M
  minus_size = rw (size_neg z) h

  minus : pos 0 -ℤ stored z ≡ neg_ℤ z
  minus = rw (stored_is z h s) (+ℤ_idl (neg_ℤ z))

  pub minus_fits : SFits w64 (pos 0 -ℤ stored z)
  minus_fits = rw minus (size_fits (neg_ℤ z) minus_size s)

  pub minus_read : stored (pos 0 -ℤ stored z) ≡ neg_ℤ z
  minus_read = rw minus (stored_is (neg_ℤ z) minus_size s)

  pub minus_read_size : nat_abs (stored (pos 0 -ℤ stored z)) ≤ M
  minus_read_size = rw minus_read minus_size

-- ---- sums and products: what the machine computes, the integer that it is, and a bound on its size

pub record Computed : Type 0 where
  pub machine : ℤ
  pub number : ℤ
  pub bound : ℕ
  pub is : machine ≡ number
  pub within : Bounded bound number

pub fits : (x : Computed) → Small x.bound → SFits w64 x.machine
fits x s = rw x.is (size_fits x.number x.within.bound s)

pub read : (x : Computed) → Small x.bound → stored x.machine ≡ x.number
read x s = to_z-of_z w64 x.machine (fits x s) ∙ x.is

pub machine_size : (x : Computed) {M : ℕ} → x.bound ≤ M → nat_abs x.machine ≤ M
machine_size x h = rw x.is (le_trans x.within.bound h)

-- each is held in a local before it is used again
abbrev pub held : (x : Computed) → Small x.bound → Computed
held x s = record { machine = stored x.machine; number = x.number; bound = x.bound; is = read x s; within = x.within }

abbrev pub integer : (z : ℤ) (M : ℕ) → nat_abs z ≤ M → Computed
integer z M h = record { machine = z; number = z; bound = M; is = refl; within = record { bound = h } }

-- what a call gives back
abbrev pub given : (r : ℤ) {z : ℤ} (M : ℕ) → r ≡ z → nat_abs r ≤ M → Computed
given r {z} M e h = record { machine = r; number = z; bound = M; is = e; within = record { bound = rw (← e) h } }

-- an unsigned number cast to a signed one
abbrev pub natural : (n M : ℕ) → n ≤ M → Small M → Computed
natural n M h s = record { machine = to_z w64 n; number = pos n; bound = M; is = natural_is n h s; within = record { bound = h } }

abbrev pub plus : Computed → Computed → Computed
plus x y =
    record {
      machine = x.machine +ℤ y.machine;
      number = x.number +ℤ y.number;
      bound = x.bound + y.bound;
      is = rw (x.is, y.is);
      within = bounded-+ x.within y.within;
    }

abbrev pub times : Computed → Computed → Computed
times x y =
    record {
      machine = x.machine *ℤ y.machine;
      number = x.number *ℤ y.number;
      bound = x.bound * y.bound;
      is = rw (x.is, y.is);
      within = bounded-* x.within y.within;
    }

-- ---- tests of a stored number

negative : (z : ℤ) → lt_z z (pos 0) ≡ true → non_neg z ≡ false
negative (pos n) h = absurd (omega (arith, ltb-true n 0 h))
negative (negsuc n) h = refl

non_negative : (z : ℤ) → lt_z z (pos 0) ≡ false → non_neg z ≡ true
non_negative (pos n) h = refl
non_negative (negsuc n) h = absurd (subst T h tt)

lt→not_le_z : (a b : ℤ) → lt_z a b ≡ true → le_z b a ≡ false
lt→not_le_z (pos a) (pos b) h = lt-leb b a (ltb-true a b h)
lt→not_le_z (pos a) (negsuc b) h = absurd (subst T (sym h) tt)
lt→not_le_z (negsuc a) (pos b) h = refl
lt→not_le_z (negsuc a) (negsuc b) h = lt-leb a b (ltb-true b a h)

not_lt→le_z : (a b : ℤ) → lt_z a b ≡ false → le_z b a ≡ true
not_lt→le_z (pos a) (pos b) h = le-leb b a (ltb-false a b h)
not_lt→le_z (pos a) (negsuc b) h = refl
not_lt→le_z (negsuc a) (pos b) h = absurd (subst T h tt)
not_lt→le_z (negsuc a) (negsuc b) h = le-leb a b (ltb-false b a h)

module _ {z : ℤ} (fits : SFits w64 z) where
  pub read_negative : lt_z (stored z) (pos 0) ≡ true → non_neg z ≡ false
  read_negative h = negative z (rw (to_z-of_z w64 z fits) at h)

  pub read_non_negative : lt_z (stored z) (pos 0) ≡ false → non_neg z ≡ true
  read_non_negative h = non_negative z (rw (to_z-of_z w64 z fits) at h)

  -- against a bound
  module _ (b : ℤ) where
    pub read_below : lt_z (stored z) b ≡ true → le_z b z ≡ false
    read_below h = lt→not_le_z z b (rw (to_z-of_z w64 z fits) at h)

    pub read_not_below : lt_z (stored z) b ≡ false → le_z b z ≡ true
    read_not_below h = not_lt→le_z z b (rw (to_z-of_z w64 z fits) at h)

    pub read_above : lt_z b (stored z) ≡ true → le_z z b ≡ false
    read_above h = lt→not_le_z b z (rw (to_z-of_z w64 z fits) at h)

    pub read_not_above : lt_z b (stored z) ≡ false → le_z z b ≡ true
    read_not_above h = not_lt→le_z b z (rw (to_z-of_z w64 z fits) at h)

pub one_non_neg : (z : ℤ) → le_z (pos 1) z ≡ true → T (non_neg z)
one_non_neg (pos n) h = tt
one_non_neg (negsuc n) h = absurd (subst T (sym h) tt)

pub above_non_neg : (a b : ℤ) → a ≤ℤ b → T (non_neg a) → T (non_neg b)
above_non_neg a (pos b) h t = tt
above_non_neg (pos a) (negsuc b) h t = h.le
above_non_neg (negsuc a) (negsuc b) h t = t

-- ---- a quotient of stored numbers

pub quotient_read : (up : Bool) {a b q : ℤ} → SFits w64 a → SFits w64 b → q ≡ round_ℤ up (stored a) (nat_abs (stored b)) → mag q < 2 ^ 63 →
    stored q ≡ round_ℤ up a (nat_abs b)
quotient_read up {a} {b} ha hb e h = returned (rw (to_z-of_z w64 a ha, to_z-of_z w64 b hb) at e) h
