-- Steps one after the other, for any number of grounds: what an answer says of the outcome that its step is proved equal to.
use mathlib.Core.Path.{◌≡◌, refl, sym, ap, ◌∙◌}
use Rattle.std.specs.Prelude.{Result}
use Rattle.std.specs.declared.result.Result.TheVariants.{Ok, Err}
use Rattle.method.specs.Grounds.{Outcome, done, ◌>>=◌}
use Rattle.grounds.specs.declared.Ground.{Ground}
use Rattle.grounds.specs.Answers.{outcome_of}

module _ {A B : Type 0} (view : A → B) {r : Result A Ground} {o : Outcome B} where
  -- q is what a match found the step's answer r to be. Rewriting with it, what comes after the step computes.
  pub at_answer : {q : Result A Ground} → r ≡ q → outcome_of view r ≡ o → o ≡ outcome_of view q
  at_answer h e = sym e ∙ ap (λ (x : Result A Ground). outcome_of view x) h

  -- a refused step's ground, handed on by `?`: no later step is tried
  pub handed_on : {C D : Type 0} (other : C → D) (f : B → Outcome D) {g : Ground} → r ≡ Err g → outcome_of view r ≡ o → outcome_of other (Err g) ≡ (o >>= f)
  handed_on other f h e = rw (at_answer h e) refl

-- a step's answer in another shape, whether it was refused or not
pub answer_maps : {A B C : Type 0} (view : A → B) (f : B → C) (r : Result A Ground) →
    (outcome_of view r >>= λ b. done (f b)) ≡ outcome_of (λ a. f (view a)) r
answer_maps view f (Ok a) = refl
answer_maps view f (Err g) = refl
