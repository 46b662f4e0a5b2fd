-- Without slack every band lies inside the earlier one, and what was accepted stays accepted. Each step grows with the ends that it is
-- worked from, so what is worked from narrower ends is narrower; the two computations are walked side by side (`Follows`).
use mathlib.Core.Path.{◌≡◌, refl, sym, subst, ◌∙◌}
use mathlib.Core.Bool.{Bool, true, false, cond}
use mathlib.Core.List.{List, [], ◌∷◌, map}
use Prim.Native.Nat.{ℕ, zero, suc, ◌+◌, ◌*◌, ◌-◌, ◌/◌, ◌≤◌, ◌<◌, suc-le-suc}
use native.Mathlib.Nat.{le_refl, le_trans, mul-le-mul, mul-le-mul_right}
use native.Mathlib.Omega.{arith}
use borrow.Author.Tests.{le-leb, leb-true, eqb-true}
use lib.Dec.{leb, eqb, leb→le, le→leb}
use lib.IntN.{ℤ, pos, negsuc, neg_ℤ, ◌+ℤ◌}
use lib.ListN.{get_or}
use lib.Signed.{le_z, ◌≤ℤ◌, ≤ℤ_refl}
use Rattle.fraction.specs.Rounding.{U, floor, ceiling, ceil_div}
use Rattle.fraction.proofs.Integer.{≤ℤ-trans}
use Rattle.fraction.proofs.Floor.{floor_mono, ceiling_mono}
use Rattle.fraction.proofs.Enclosure.{encloses_exact, encloses_ordered, between_ℤ, neg_ℤ_anti, encloses-+, encloses_times}
use Rattle.fraction.proofs.Rounding.{U-positive}
use Rattle.method.specs.Units.{plain, adjusted, Pair, pair, SignedPair, signed_pair}
use Rattle.method.specs.Grounds.{done}
use Rattle.method.specs.Sheet.{Numbers, total, read_sheet}
use Rattle.method.specs.Quotes.{highest_factor, Bootstrap, last_year}
use Rattle.method.specs.Series.{added, logarithm, GWith, G, gap_forward_with, gap_forward, ultimate_forward_with, ultimate_forward}
use Rattle.method.specs.Series.{growth_high, growth_high_with}
use Rattle.method.specs.Extrapolation.{llfr_numerator, llfr, smaller, larger, blend, forward, first_raised, billionths, first_too_wide}
use Rattle.method.specs.Extrapolation.{step_low_with, step_low, step_high_with, step_high, step_with, step, steps_with, steps}
use Rattle.method.specs.Extrapolation.{extrapolate_with, extrapolate, adjusted_years_with, adjusted_years}
use Rattle.method.specs.Curve.{Curve, Held, Curves, liquid_of, forwards_with, forwards}
use Rattle.method.specs.Curve.{within_limit, extended_with, extended, curve_with, curve_of_with, curve_of, adjusted_curve_with, adjusted_curve}
use Rattle.method.specs.Curve.{adjusted_if_with, adjusted_if, curves_of_with, curves_of, answer_with, answer}
use Rattle.method.specs.Earlier.{earlier_answer, CurveInside, HeldInside, neither, both, CurvesInside, AcceptedInside}
use Rattle.method.proofs.Outcome.{done_injective, split}
use Rattle.method.proofs.Following.{Follows, gives, follow, follow_from, follow_test, result}
use Rattle.method.proofs.Following.{Pairwise, none, more, pairwise_length, pairwise_append, pairwise_at}
use Rattle.method.proofs.Quotients.{div_anti, ceil_div_anti, shrinks, grows, down_below_down, up_below_up}
use Rattle.method.proofs.Slack.{added_most, one_added}
use Rattle.method.proofs.Logarithm.{distance}
use Rattle.method.proofs.Growth.{growth_mono, growth_low-≥, growth_low-≤-growth_high}
use Rattle.method.proofs.Forward.{smaller_below, larger_above, encloses_weight}
use Rattle.method.proofs.SheetBounds.{read_bounds}

-- ---- pairs inside others

record Inside (p outer : Pair) : Type 0 where
  low_inside : outer.low ≤ p.low
  high_inside : p.high ≤ outer.high

record SignedInside (f outer : SignedPair) : Type 0 where
  low_inside : outer.low ≤ℤ f.low
  high_inside : f.high ≤ℤ outer.high

itself : (p : Pair) → Inside p p
itself p = record { low_inside = le_refl p.low; high_inside = le_refl p.high }

themselves : (ps : List Pair) → Pairwise Inside ps ps
themselves [] = none
themselves (p ∷ ps) = more (itself p) (themselves ps)

last_inside : {ps qs : List Pair} → Pairwise Inside ps qs → Inside (last_year ps) (last_year qs)
unfolding last_year
last_inside none = itself (pair U U)
last_inside (more r none) = r
last_inside (more r (more s k)) = last_inside (more s k)

-- ---- logarithm and the forwards made from it

negated : {f g : SignedPair} → SignedInside f g → SignedInside (signed_pair (neg_ℤ f.high) (neg_ℤ f.low)) (signed_pair (neg_ℤ g.high) (neg_ℤ g.low))
negated h = record { low_inside = neg_ℤ_anti h.high_inside; high_inside = neg_ℤ_anti h.low_inside }

G-inside : (x : ℕ) → SignedInside (G x) (GWith 1 x)
unfolding GWith
G-inside x =
    let low = logarithm ◌/◌ (distance x) x in
    let high = logarithm ceil_div (distance x) x in
    let more : high + added 0 U x ≤ high + added 1 U x = omega (arith, added_most U x, one_added U x) in
    let size : SignedInside (signed_pair (pos low) (pos (high + added 0 U x))) (signed_pair (pos low) (pos (high + added 1 U x))) =
    record { low_inside = ≤ℤ_refl (pos low); high_inside = record { le = le→leb _ _ more } } in
    split (leb x U) (λ t. rw t size) (λ f. rw f (negated size))

gap_forward_inside : (x : Pair) → SignedInside (gap_forward x) (gap_forward_with 1 x)
unfolding gap_forward_with
gap_forward_inside x = record { low_inside = (G-inside x.high).low_inside; high_inside = (G-inside x.low).high_inside }

forwards_inside : (xs : List Pair) → Pairwise SignedInside (map gap_forward xs) (map (gap_forward_with 1) xs)
forwards_inside [] = none
forwards_inside (x ∷ xs) = more (gap_forward_inside x) (forwards_inside xs)

ultimate_forward_inside : (u : ℕ) → SignedInside (ultimate_forward u) (ultimate_forward_with 1 u)
unfolding ultimate_forward_with
ultimate_forward_inside u = negated (G-inside (U + 10_000 * u))

raised_inside : (a : ℤ) {gs hs : List SignedPair} → Pairwise SignedInside gs hs → Pairwise SignedInside (first_raised a gs) (first_raised a hs)
unfolding first_raised
raised_inside a none = none
raised_inside a (more r k) = more (record { low_inside = plus r.low_inside; high_inside = plus r.high_inside }) k
  where
    plus : {x y : ℤ} → x ≤ℤ y → (x +ℤ billionths a) ≤ℤ (y +ℤ billionths a)
    plus h = encloses_ordered (encloses-+ (between_ℤ h) (encloses_exact (billionths a)))

-- ---- LLFR

numerator_mono : (vs : List ℕ) (xs ys : List ℤ) → ((i : ℕ) → get_or xs i (pos 0) ≤ℤ get_or ys i (pos 0)) → llfr_numerator vs xs ≤ℤ llfr_numerator vs ys
unfolding llfr_numerator
numerator_mono vs xs ys h =
    let to30 = encloses-+ (between_ℤ (h 1)) (between_ℤ (h 2)) in
    let to40 = encloses-+ to30 (encloses_times 2 (between_ℤ (h 3))) in
    let to50 = encloses-+ to40 (encloses_times 2 (between_ℤ (h 4))) in
    let at20 = encloses_times (12 * get_or vs 0 0) (between_ℤ (h 0)) in
    let at25 = encloses_times (12 * get_or vs 1 0) (between_ℤ (h 1)) in
    let at30 = encloses_times (6 * get_or vs 2 0) to30 in
    let at40 = encloses_times (3 * get_or vs 3 0) to40 in
    let at50 = encloses_times (2 * get_or vs 4 0) to50 in
    encloses_ordered (encloses-+ (encloses-+ (encloses-+ (encloses-+ at20 at25) at30) at40) at50)

llfr_inside : (vs : List ℕ) → 0 < total vs → {gs hs : List SignedPair} → Pairwise SignedInside gs hs → SignedInside (llfr vs gs) (llfr vs hs)
unfolding llfr
llfr_inside vs h k =
    record {
      low_inside =
          floor_mono (omega arith)
          (numerator_mono vs _ _ (pairwise_at (λ a b. b ≤ℤ a) (λ g. g.low) (pos 0) (≤ℤ_refl (pos 0)) (λ g h r. r.low_inside) k));
      high_inside =
          ceiling_mono (omega arith)
          (numerator_mono vs _ _ (pairwise_at ◌≤ℤ◌ (λ g. g.high) (pos 0) (≤ℤ_refl (pos 0)) (λ g h r. r.high_inside) k));
    }

-- ---- the year's forward

blend_mono : (κ : ℕ) {a b c e : ℤ} → a ≤ℤ b → c ≤ℤ e → blend a c κ ≤ℤ blend b e κ
blend_mono κ h k = encloses_ordered (encloses-+ (encloses_weight (U - κ) (between_ℤ h)) (encloses_weight κ (between_ℤ k)))

below_both : (t : Bool) {z a b : ℤ} → z ≤ℤ a → z ≤ℤ b → z ≤ℤ cond t a b
below_both true h k = h
below_both false h k = k

above_both : (t : Bool) {z a b : ℤ} → a ≤ℤ z → b ≤ℤ z → cond t a b ≤ℤ z
above_both true h k = h
above_both false h k = k

smaller_mono : {a b c e : ℤ} → a ≤ℤ b → c ≤ℤ e → smaller a c ≤ℤ smaller b e
smaller_mono {a} {b} {c} {e} h k =
    let s = smaller_below a c in
    below_both (le_z b e) (≤ℤ-trans s.0 h) (≤ℤ-trans s.1 k)

larger_mono : {a b c e : ℤ} → a ≤ℤ b → c ≤ℤ e → larger a c ≤ℤ larger b e
larger_mono {a} {b} {c} {e} h k =
    let l = larger_above b e in
    above_both (le_z a c) (≤ℤ-trans k l.1) (≤ℤ-trans h l.0)

forward_inside : {l l' f f' : SignedPair} → SignedInside l l' → SignedInside f f' → (κ : Pair) → SignedInside (forward l f κ) (forward l' f' κ)
unfolding forward
forward_inside hl hf κ =
    record {
      low_inside = smaller_mono (down κ.low hl.low_inside hf.low_inside) (down κ.high hl.low_inside hf.low_inside);
      high_inside = larger_mono (up κ.low hl.high_inside hf.high_inside) (up κ.high hl.high_inside hf.high_inside);
    }
  where
    down : (k : ℕ) {a b c e : ℤ} → a ≤ℤ b → c ≤ℤ e → floor (blend a c k) U ≤ℤ floor (blend b e k) U
    down k h j = floor_mono U-positive (blend_mono k h j)

    up : (k : ℕ) {a b c e : ℤ} → a ≤ℤ b → c ≤ℤ e → ceiling (blend a c k) U ≤ℤ ceiling (blend b e k) U
    up k h j = ceiling_mono U-positive (blend_mono k h j)

-- ---- the year's step: a quotient falls with its divisor

growth_high_inside : {y z : ℕ} → y ≤ z → growth_high y ≤ growth_high_with 1 z
growth_high_inside {y} {z} h = omega (arith, growth_mono up_below_up h, added_most 0 y, one_added 0 z)

unit_below : (y : ℕ) → U ≤ growth_high_with 1 y
unit_below y = le_trans (growth_low-≥ y) (le_trans (growth_low-≤-growth_high y) (growth_high_inside (le_refl y)))

low_step : (f g : ℤ) → f ≤ℤ g → {a b : ℕ} → a ≤ b → step_low_with 1 g a ≤ step_low f b
low_step (pos f) (pos g) h k =
    div_anti (mul-le-mul_right U k) (omega (arith, growth_low-≥ f, growth_low-≤-growth_high f)) (growth_high_inside (leb→le f g h.le))
low_step (negsuc f) (pos g) h {a} {b} k =
    le_trans (shrinks a U-positive (unit_below g)).0 (le_trans k (grows b U-positive (growth_low-≥ (suc f))).0)
low_step (pos f) (negsuc g) h k = absurd h.le
low_step (negsuc f) (negsuc g) h k =
    down_below_down.below U (mul-le-mul k (growth_mono down_below_down (suc-le-suc (leb→le g f h.le))))

high_step : (f g : ℤ) → g ≤ℤ f → {a b : ℕ} → a ≤ b → step_high f a ≤ step_high_with 1 g b
high_step (pos f) (pos g) h k =
    ceil_div_anti (mul-le-mul_right U k) (omega (arith, growth_low-≥ g)) (growth_mono down_below_down (leb→le g f h.le))
high_step (pos f) (negsuc g) h {a} {b} k =
    le_trans (shrinks a U-positive (growth_low-≥ f)).1 (le_trans k (grows b U-positive (unit_below (suc g))).1)
high_step (negsuc f) (pos g) h k = absurd h.le
high_step (negsuc f) (negsuc g) h k = up_below_up.below U (mul-le-mul k (growth_high_inside (suc-le-suc (leb→le f g h.le))))

step_inside : {f g : SignedPair} {p q : Pair} → SignedInside f g → Inside p q → Inside (step f p) (step_with 1 g q)
unfolding step_with
step_inside {f} {g} h k =
    record {
      low_inside = low_step f.high g.high h.high_inside k.low_inside;
      high_inside = high_step f.low g.low h.low_inside k.high_inside;
    }

steps_inside : {f g : SignedPair} → SignedInside f g → (t : ℕ) {p q : Pair} → Inside p q → Inside (steps f t p) (steps_with 1 g t q)
unfolding steps_with
steps_inside h zero k = k
steps_inside h (suc t) k = steps_inside h t (step_inside h k)

-- ---- the years: a high that kept ground 8 keeps it, a band that kept ground 10 too

kept_below : {a b : ℕ} → a ≤ b → leb b highest_factor ≡ true → leb a highest_factor ≡ true
kept_below {a} {b} h t = le-leb a highest_factor (le_trans h (leb-true b highest_factor t))

extrapolate_follows : {l l' f f' : SignedPair} → SignedInside l l' → SignedInside f f' → (κs : List Pair) (year : ℕ) {p q : Pair} → Inside p q →
    Follows (Pairwise Inside) (extrapolate l f κs year p) (extrapolate_with 1 l' f' κs year q)
unfolding extrapolate_with
extrapolate_follows hl hf [] year k = gives none
extrapolate_follows hl hf (κ ∷ κs) year k =
    let next = step_inside (forward_inside hl hf κ) k in
    follow_test _ _ _ _ (kept_below next.high_inside)
    (follow (extrapolate_follows hl hf κs (year + 1) next) (λ ps qs r. gives (more next r)))

adjusted_follows : (a : ℤ) (year : ℕ) (ps : List Pair) → Follows (Pairwise Inside) (adjusted_years a year ps) (adjusted_years_with 1 a year ps)
unfolding adjusted_years_with
adjusted_follows a year [] = gives none
adjusted_follows a year (p ∷ ps) =
    let both = signed_pair (billionths a) (billionths a) in
    let own : SignedInside both both = record { low_inside = ≤ℤ_refl (billionths a); high_inside = ≤ℤ_refl (billionths a) } in
    let next = steps_inside own year (itself p) in
    follow_test _ _ _ _ (kept_below next.high_inside) (follow (adjusted_follows a (year + 1) ps) (λ qs rs r. gives (more next r)))

narrow_stays : (limit year : ℕ) → 0 < year → {ps qs : List Pair} → Pairwise Inside ps qs → first_too_wide limit year qs ≡ 0 → first_too_wide limit year ps ≡ 0
unfolding first_too_wide
narrow_stays limit year h none e = refl
narrow_stays limit year h (more {x} {y} r k) e =
    split (leb (y.high - y.low) limit)
    (λ t. let narrow : leb (x.high - x.low) limit ≡ true = le-leb _ limit (omega (arith, r.low_inside, r.high_inside, leb-true _ limit t)) in
    rw narrow (narrow_stays limit (year + 1) (omega arith) k (rw t at e)))
    (λ f. let none_left : year ≡ 0 = rw f at e in absurd (omega arith))

within_follows : (limit : ℕ) {ps qs : List Pair} → Pairwise Inside ps qs → Follows (Pairwise Inside) (within_limit limit ps) (within_limit limit qs)
unfolding within_limit
within_follows limit {ps} {qs} k =
    let stays : eqb (first_too_wide limit 1 qs) 0 ≡ true → eqb (first_too_wide limit 1 ps) 0 ≡ true =
    λ t. rw (narrow_stays limit 1 (omega arith) k (eqb-true (first_too_wide limit 1 qs) 0 t)) refl in
    follow_test _ _ _ _ stays (gives k)

extended_follows : (n : Numbers) {f g : SignedPair} → SignedInside f g → {ps qs : List Pair} → Pairwise Inside ps qs →
    Follows (Pairwise Inside) (extended n f ps) (extended_with 1 n g qs)
unfolding extended_with
extended_follows n h k =
    rw (pairwise_length k)
    (follow (extrapolate_follows (ultimate_forward_inside n.ultimate) h _ _ (last_inside k)) (λ ps qs r. within_follows n.limit (pairwise_append k r)))

-- ---- the curves

curve_inside : (n : Numbers) {ps qs : List Pair} → Pairwise Inside ps qs → CurveInside (curve_with n ps) (curve_with n qs)
curve_inside n k =
    record {
      same_month = refl;
      same_limit = refl;
      low_inside = λ t. pairwise_at (λ a b. b ≤ a) (λ p. p.low) 0 (le_refl 0) (λ p q r. r.low_inside) k (t - 1);
      high_inside = λ t. pairwise_at ◌≤◌ (λ p. p.high) 0 (le_refl 0) (λ p q r. r.high_inside) k (t - 1);
    }

module _ (n : Numbers) (traded : 0 < total n.volumes) where
  gaps_inside : (b : Bootstrap) → Pairwise SignedInside (forwards b) (forwards_with 1 b)
  gaps_inside b = forwards_inside b.yearly_factors

  plain_follows : Follows CurveInside (curve_of n) (curve_of_with 1 n)
  unfolding curve_of_with
  plain_follows =
      follow_from (liquid_of n)
      λ b d.
      let llfrs = llfr_inside n.volumes traded (gaps_inside b) in
      follow (extended_follows n llfrs (themselves b.factors)) (λ ps qs r. gives (curve_inside n r))

  adjusted_curve_follows : Follows CurveInside (adjusted_curve n) (adjusted_curve_with 1 n)
  unfolding adjusted_curve_with
  adjusted_curve_follows =
      follow_from (liquid_of n)
      λ b d.
      let llfrs = llfr_inside n.volumes traded (raised_inside n.adjustment (gaps_inside b)) in
      follow (adjusted_follows n.adjustment 1 b.factors)
      (λ ps qs k. follow (extended_follows n llfrs k) (λ us vs r. gives (curve_inside n r)))

  held_follows : (adjusts : Bool) → Follows HeldInside (adjusted_if adjusts n) (adjusted_if_with 1 adjusts n)
  held_follows true = follow adjusted_curve_follows (λ c e r. gives (both r))
  held_follows false = gives neither

  curves_follow : Follows CurvesInside (curves_of n) (curves_of_with 1 n)
  unfolding curves_of_with
  curves_follow = follow plain_follows (λ c e r. follow (held_follows n.adjusts) (λ a h s. gives (by_name r s)))
    where
      by_name : {c e : Curve} {a h : Held Curve} → CurveInside c e → HeldInside a h →
          CurvesInside (record { plain = c; adjusted = a }) (record { plain = e; adjusted = h })
      by_name r s plain = both r
      by_name r s adjusted = s

answers_follow : (s : List ℕ) → Follows CurvesInside (answer s) (earlier_answer s)
unfolding answer_with
answers_follow s = follow_from (read_sheet s) (λ n e. curves_follow n (read_bounds s n e).total_least)

-- ---- THE THEOREM: what was accepted stays accepted, and every band lies inside the earlier one

pub accepted_stays : (s : List ℕ) {earlier : Curves} → earlier_answer s ≡ done earlier → AcceptedInside s earlier
accepted_stays s e =
    let now = result (answers_follow s) e in
    record { curves = now.0; accepted = now.1; inside = now.2 }

pub inside_earlier : (s : List ℕ) {cs earlier : Curves} → answer s ≡ done cs → earlier_answer s ≡ done earlier → CurvesInside cs earlier
inside_earlier s {cs} {earlier} e before =
    let now = accepted_stays s before in
    subst (λ (c : Curves). CurvesInside c earlier) (done_injective (sym now.accepted ∙ e)) now.inside
