-- What is cut is held against a bound like what is not; and what a confirmed candidate turns.
use Rattle.std.proofs.Common.{◌≡◌, ℕ, ◌+◌, ◌<◌, ◌≤◌, Bool, true, false, not, ◌&&◌, ◌||◌, ltb, leb, sym, ap, ◌∙◌}
use Rattle.std.proofs.Common.{arith, le-ltb, lt-ltb, le-leb, leb-false, leb-true}
use borrow.Author.Tests.{lt-leb, not-true}
use Rattle.method.proofs.Outcome.{split, both_true}
use Rattle.zero_rates.specs.Rates.{compound}
use Rattle.rate_search.specs.Search.{unit_squared, growth_cut, within, Between, confirmed, Turns}

-- ---- what is cut is held against a bound like what is not

module _ (up : Bool) (m t : ℕ) {bound g : ℕ} (small : bound ≤ unit_squared) (is : g ≡ growth_cut up m t) where
  pub cut-within : g ≤ bound → within up t bound m ≡ true
  cut-within h = le-leb (compound up m t) bound (omega (arith, is))

  pub cut_past : bound < g → within up t bound m ≡ false
  cut_past h = lt-leb (compound up m t) bound (omega (arith, is))

  pub cut_test : leb g bound ≡ within up t bound m
  cut_test = split (leb g bound) (λ q. q ∙ sym (cut-within (leb-true g bound q))) (λ q. q ∙ sym (cut_past (leb-false g bound q)))

  pub cut_beyond : ltb bound g ≡ not (within up t bound m)
  cut_beyond =
      split (leb g bound)
      (λ q. let h = leb-true g bound q in le-ltb bound g h ∙ ap not (sym (cut-within h)))
      (λ q. let h = leb-false g bound q in lt-ltb bound g h ∙ ap not (sym (cut_past h)))

-- ---- a candidate that the test confirms

module _ (up : Bool) (t bound hi m : ℕ) where
  abbrev here : Bool
  here = within up t bound m

  abbrev next : Bool
  next = within up t bound (m + 1)

  pub confirmed-not : here ≡ false → false ≡ confirmed up t bound hi m
  confirmed-not e = sym (ap (λ (b : Bool). b && (leb hi (m + 1) || not next)) e)

  pub confirmed_by : {r : Bool} → here ≡ true → m + 1 < hi → r ≡ not next → r ≡ confirmed up t bound hi m
  confirmed_by e h n = n ∙ sym (rw (e, lt-leb hi (m + 1) h))

  pub confirmed_last : here ≡ true → hi ≤ m + 1 → true ≡ confirmed up t bound hi m
  confirmed_last e h = sym (rw (e, le-leb hi (m + 1) h))

  pub turns_at : (lo : ℕ) → Between lo hi m → confirmed up t bound hi m ≡ true → Turns up t bound lo hi m
  turns_at lo between e =
      let parts = both_true here _ e in
      let past : m + 1 < hi → not next ≡ true = λ h. sym (ap (λ (b : Bool). b || not next) (lt-leb hi (m + 1) h)) ∙ parts.1 in
      record { between = between; here = λ h. parts.0; next = λ h. not-true next (past h) }
