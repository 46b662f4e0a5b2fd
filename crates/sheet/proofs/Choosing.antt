-- The profile and the layout by the tests of the code: the market and the length of its own records are the definition's.
use mathlib.Core.Path.{◌≡◌, refl, sym, ◌∙◌}
use mathlib.Core.Bool.{Bool, true, false, not, cond, ◌&&◌, ◌||◌}
use mathlib.Core.List.{List}
use Prim.Native.Nat.{ℕ, zero, suc, ◌+◌, ◌≤◌, ◌<◌}
use native.Mathlib.Omega.{arith}
use borrow.Author.Tests.{lt-ltb, le-ltb, ne_eqb}
use lib.Dec.{eqb, ltb, leb}
use lib.ListN.{length, get_or}
use Rattle.std.specs.Prelude.{Result, Ok, Err}
use Rattle.std.specs.Result.{result_unwrap_or}
use Rattle.method.specs.Grounds.{done, refused, unknown_profile, Outcome}
use Rattle.method.specs.Sheet.{Profile, euro, profile_by, profile_known, adjustable, names_profile, shortest, profile_of, layout_of, size_of}
use Rattle.method.proofs.Outcome.{split, done_injective, refused_not_done}
use Rattle.method.proofs.Slots.{size_is}
use Rattle.method.proofs.Layouts.{layout, layout_is, first_bytes}
use Rattle.grounds.specs.declared.Ground.{Ground}
use Rattle.grounds.specs.Answers.{as_ground, outcome_of}
use Rattle.sheet.specs.declared.Profile as code
use Rattle.sheet.specs.Views.{as_profile}

-- ---- the profile

-- a code that names none is the definition's euro
by_unknown : (n : ℕ) → (leb 1 n && leb n 3) ≡ false → profile_by n ≡ euro
by_unknown zero e = refl
by_unknown (suc zero) e = refl
by_unknown (suc (suc zero)) e = absurd cc
by_unknown (suc (suc (suc zero))) e = absurd cc
by_unknown (suc (suc (suc (suc n)))) e = rw (ne_eqb (suc (suc (suc (suc n)))) 2 (λ x. omega arith), ne_eqb (suc (suc (suc (suc n)))) 3 (λ x. omega arith)) refl

or_false : (a b : Bool) → (a || b) ≡ false → b ≡ false
or_false true b e = absurd cc
or_false false b e = e

unknown_euro : (s : List ℕ) → profile_known s ≡ false → profile_of s ≡ euro
unknown_euro s e =
    split (names_profile s) (λ t. rw t (by_unknown (get_or s 1 0) (or_false _ _ e))) (λ f. rw f refl)

abbrev Profiled : List ℕ → Result code.Profile Ground → Type 0
Profiled s r = outcome_of as_profile r ≡ cond (profile_known s) (done (profile_of s)) (refused unknown_profile)

pub chosen : (s : List ℕ) (r : Result code.Profile Ground) {p : code.Profile} → Profiled s r → p ≡ result_unwrap_or r code.Profile.Euro → as_profile p ≡ profile_of s
chosen s (Ok q) named is =
    split (profile_known s) (λ t. rw is (done_injective (rw t at named))) (λ f. absurd (refused_not_done (sym (rw f at named))))
chosen s (Err g) named is =
    split (profile_known s) (λ t. absurd (refused_not_done (rw t at named))) (λ f. rw is (sym (unknown_euro s f)))

pub known_by : (s : List ℕ) (p : code.Profile) → Profiled s (Ok p) → profile_known s ≡ true
known_by s p named = split (profile_known s) (λ t. t) (λ f. absurd (refused_not_done (sym (rw f at named))))

pub unknown_by : (s : List ℕ) (g : Ground) → Profiled s (Err g) → (profile_known s ≡ false) × (as_ground g ≡ unknown_profile)
unknown_by s g named =
    split (profile_known s) (λ t. absurd (refused_not_done (rw t at named)))
    (λ f. let e : ◌≡◌ {A = Outcome Profile} (refused (as_ground g)) (refused unknown_profile) = rw f at named in (f, cc))

-- ---- the layout

module _ (s : List ℕ) {led : Bool} {p : Profile} {n : ℕ} (named : led ≡ names_profile s) (market : p ≡ profile_of s)
    (bytes : n ≡ size_of (shortest led p)) where
  first : n ≡ first_bytes s
  first = bytes ∙ rw (named, market) (size_is (shortest (names_profile s) (profile_of s)) ∙ omega arith)

  pub neither : length s ≤ n → layout led p false false ≡ layout_of s
  neither h =
      rw (named, market, layout_is s, le-ltb (first_bytes s) (length s) (omega (arith, first)))
      (split (adjustable (profile_of s)) (λ t. rw t refl) (λ t. rw t refl))

  -- a market without an adjustment has the phase-in's record there
  pub phased_alone : n < length s → adjustable p ≡ false → layout led p true false ≡ layout_of s
  phased_alone h a =
      rw (named, market, layout_is s, lt-ltb (first_bytes s) (length s) (omega (arith, first)), rw market at a)
      (split (ltb (first_bytes s + 3) (length s)) (λ t. rw t refl) (λ t. rw t refl))

  pub both : n + 3 < length s → adjustable p ≡ true → layout led p true true ≡ layout_of s
  both h a =
      rw (
        named,
        market,
        layout_is s,
        lt-ltb (first_bytes s) (length s) (omega (arith, first)),
        rw market at a,
        lt-ltb (first_bytes s + 3) (length s) (omega (arith, first)),
      )
      refl

  -- by the kind byte
  pub one_more : n < length s → length s ≤ n + 3 → adjustable p ≡ true → layout led p (not (eqb (get_or s n 0) 0x07)) (eqb (get_or s n 0) 0x07) ≡ layout_of s
  one_more h few a =
      rw (
        named,
        market,
        layout_is s,
        lt-ltb (first_bytes s) (length s) (omega (arith, first)),
        rw market at a,
        le-ltb (first_bytes s + 3) (length s) (omega (arith, first)),
        first,
      )
      refl
