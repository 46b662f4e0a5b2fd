-- What may be shown of a curve; and what a look-up, a page and a valuation come to by that.
use mathlib.Core.Path.{◌≡◌, refl, ap, sym, ◌∙◌}
use mathlib.Core.Bool.{Bool, true, false}
use mathlib.Core.List.{List, [], ◌++◌}
use Prim.Native.Nat.{ℕ, ◌-◌, ◌≤◌, ◌<◌}
use native.Mathlib.Omega.{arith}
use borrow.Author.Tests.{leb-true, leb-false, le-leb, lt-leb}
use lib.Dec.{leb}
use lib.ListN.{length, drop, length-append, length-drop}
use lib.Seq.{drop_at}
use Rattle.method.specs.Units.{Which, pair}
use Rattle.method.specs.Grounds.{Ground, number_of, year_outside, no_curve, buffer_too_short, age_above_limit, Outcome, refused, done, ◌>>=◌, demand}
use Rattle.method.specs.Curve.{Curve, Held, none, some}
use Rattle.method.specs.Enclosure.{low_of, high_of}
use Rattle.method.proofs.Outcome.{split}
use Rattle.zero_rates.specs.Rates.{zero_rates}
use Rattle.valuation.specs.Block.{Flow, value_on}
use Rattle.ledger.specs.Answers.{Wanted, factor, sum, Finding, answer_number, finding, dated}
use Rattle.ledger.specs.Sums.{Sums}
use Rattle.ledger.specs.Page.{page_bytes}
use Rattle.ledger.specs.Book.{Book, Paged, named, age, young, open_curve, band_at, look_in, shown, page_outcome, paged_by, page_in, page}
use Rattle.ledger.specs.Book.{value_in}
use Rattle.ledger.specs.Tells.{PageWritten}
use Rattle.ledger.specs.Demands.{CurveFits}
use Rattle.ledger.proofs.PageLaws.{page-length, page_read}

-- two answers that differ
pub refusal_kept : {A : Type 0} {a : Outcome A} {x : A} {g : Ground} → a ≡ done x → a ≡ refused g → ⊥
refusal_kept p q = let z : ◌≡◌ {A = ℕ} 0 1 = cc in omega arith

-- two grounds of other numbers
pub other_ground : {A : Type 0} {a : Outcome A} {g h : Ground} → a ≡ refused g → a ≡ refused h → (number_of g ≡ number_of h → ⊥) → ⊥
other_ground {a} p q n = n (sym (ap answer_number p) ∙ ap answer_number q)

-- ---- whatever is asked for, a look-up is refused on the same ground

pub shown_refused : (v : Wanted) (k : Held Sums) (y : ℕ) {o : Outcome Finding} {g : Ground} → o ≡ refused g → shown v k y o ≡ refused g
shown_refused factor k y e = e
shown_refused sum k y e = ap (shown sum k y) e

pub was_refused : (v : Wanted) (k : Held Sums) (y : ℕ) (o : Outcome Finding) {g : Ground} → shown v k y o ≡ refused g → o ≡ refused g
was_refused factor k y o e = e
was_refused sum k y (refused x) e = e
was_refused sum k y (done f) e = absurd (refusal_kept {a = done _} refl e)

pub shown_number : (v : Wanted) (k : Held Sums) (y : ℕ) (o : Outcome Finding) → answer_number (shown v k y o) ≡ answer_number o
shown_number factor k y o = refl
shown_number sum k y (refused g) = refl
shown_number sum k y (done f) = refl

module _ (s : Held Curve) (told limit : ℕ) where
  -- ---- open or closed

  pub open_within : (c : Curve) → s ≡ some c → told - c.month ≤ limit → open_curve s told limit ≡ done c
  open_within c e h = rw e (go (young c told limit) refl)
    where
      go : (t : Bool) → young c told limit ≡ t → (demand t age_above_limit >>= (λ _. done c)) ≡ done c
      go true q = refl
      go false q = absurd (omega (arith, h, leb-false (told - c.month) limit q))

  pub closed_old : (c : Curve) → s ≡ some c → limit < told - c.month → open_curve s told limit ≡ refused age_above_limit
  closed_old c e h = rw e (go (young c told limit) refl)
    where
      go : (t : Bool) → young c told limit ≡ t → (demand t age_above_limit >>= (λ _. done c)) ≡ refused age_above_limit
      go true q = absurd (omega (arith, h, leb-true (told - c.month) limit q))
      go false q = refl

  pub closed_none : s ≡ none → open_curve s told limit ≡ refused no_curve
  closed_none e = rw e

  -- ---- a look-up

  pub look_outside : (y : ℕ) → (1 ≤ y → y ≤ 150 → ⊥) → look_in s told limit y ≡ refused year_outside
  unfolding look_in
  look_outside y n =
      split (leb 1 y)
      (λ p. split (leb y 150) (λ q. absurd (n (leb-true 1 y p) (leb-true y 150 q))) (λ q. rw (p, q)))
      (λ p. rw p)

  -- what is found of an open curve, by its rates
  pub look_open : (y : ℕ) (c : Curve) → open_curve s told limit ≡ done c → 1 ≤ y → y ≤ 150 →
      look_in s told limit y ≡ (zero_rates y (band_at c y) >>= λ r. done (finding (band_at c y) r c.month (age told c)))
  unfolding look_in
  look_open y c e h k = rw (le-leb 1 y h, le-leb y 150 k, e)

  pub look_closed : (y : ℕ) {g : Ground} → open_curve s told limit ≡ refused g → 1 ≤ y → y ≤ 150 → look_in s told limit y ≡ refused g
  unfolding look_in
  look_closed y e h k = rw (le-leb 1 y h, le-leb y 150 k, e)

  -- ---- a page

  pub page_open : (l : List ℕ) (c : Curve) → open_curve s told limit ≡ done c → 1_505 ≤ length l →
      page_in s told limit l ≡ record { buffer = page_bytes c.month (age told c) c.lows c.highs ++ drop 1_505 l; answer = done tt }
  unfolding page_outcome
  page_open l c e h = rw (e, le-leb 1_505 (length l) h)

  pub page_short : (l : List ℕ) (c : Curve) → open_curve s told limit ≡ done c → length l < 1_505 →
      page_in s told limit l ≡ record { buffer = l; answer = refused buffer_too_short }
  unfolding page_outcome
  page_short l c e h = rw (e, lt-leb 1_505 (length l) h)

  pub page_closed : (l : List ℕ) {g : Ground} → open_curve s told limit ≡ refused g → page_in s told limit l ≡ record { buffer = l; answer = refused g }
  unfolding page_outcome
  page_closed l e = rw e

  -- ---- a valuation

  pub value_open : (fs : List Flow) (c : Curve) → open_curve s told limit ≡ done c →
      value_in s told limit fs ≡ (value_on c fs >>= λ worth. done (dated worth c.month (age told c)))
  unfolding value_in
  value_open fs c e = rw e

  pub value_closed : (fs : List Flow) {g : Ground} → open_curve s told limit ≡ refused g → value_in s told limit fs ≡ refused g
  unfolding value_in
  value_closed fs e = rw e

paged_refused : (l : List ℕ) (o : Outcome (List ℕ)) (g : Ground) → (paged_by l o).answer ≡ refused g → (paged_by l o).buffer ≡ l
paged_refused l (refused x) g e = refl
paged_refused l (done out) g e = absurd (refusal_kept {a = done tt} refl e)

pub page_refused : (b : Book) (w : Which) (l : List ℕ) (g : Ground) → (page b w l).answer ≡ refused g → (page b w l).buffer ≡ l
page_refused b w l g e = paged_refused l (page_outcome (named w b.standing) b.told b.age_limit l) g e

-- a page carries exactly the numbers of the book
pub page_of_book :
    (b : Book) (w : Which) (c : Curve) (l : List ℕ) →
    named w b.standing ≡ some c → CurveFits b.told c → b.told - c.month ≤ b.age_limit → 1_505 ≤ length l →
    PageWritten l c.month (b.told - c.month) (λ y. pair (low_of c y) (high_of c y)) (page b w l)
page_of_book b w c l e f within h =
    record {
      written = ap (λ (p : Paged). p.answer) whole;
      read = rw whole (page_read _ _ _ _ (drop 1_505 l) f.lows_150 f.highs_150 f.month_fits f.age_fits f.low_fits f.high_fits);
      same_length = rw whole (simp (length-append, length-drop) (omega (arith, bytes)));
      past_kept = rw whole (drop_at out (drop 1_505 l) 1_505 bytes);
    }
  where
    out : List ℕ
    out = page_bytes c.month (age b.told c) c.lows c.highs

    whole : page b w l ≡ record { buffer = out ++ drop 1_505 l; answer = done tt }
    whole =
        let k = named w b.standing in
        page_open k b.told b.age_limit l c (open_within k b.told b.age_limit c e within) h

    bytes : length out ≡ 1_505
    bytes = page-length _ _ _ _ [] f.lows_150 f.highs_150
