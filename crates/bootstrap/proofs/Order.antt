-- The quotes in the order of their maturities: what is left to be worked is the whole.
use mathlib.Core.Path.{◌≡◌, refl, sym, ap, ap₂, ◌∙◌}
use mathlib.Core.Bool.{true}
use mathlib.Core.List.{List, ◌∷◌}
use Prim.Native.Nat.{ℕ, ◌+◌, ◌-◌, ◌≤◌, ◌<◌}
use native.Mathlib.Numerals.{add-one}
use native.Mathlib.Omega.{arith}
use lib.IntN.{ℤ, pos}
use lib.ListN.{length, drop, get_or}
use lib.Seq.{drop-cons, drop-length}
use lib.Signed.{mag}
use mir.Syntax.{w16, w64}
use mir.Val.{SFits, of_z, to_z}
use mir.ValLaws.{to_z-of_z}
use Rattle.method.specs.Grounds.{Ground, Outcome, refused, done, ◌>>=◌}
use Rattle.method.specs.Quotes.{Bootstrap, Quote, years_to, bootstrap_from, quotes_of, bootstrap}
use Rattle.method.specs.Ranges.{gaps_with, climbs}
use Rattle.method.proofs.QuotesLaws.{quotes_none, quotes_more, from_none, from_cons, bootstrap_from_lem}
use Rattle.method.proofs.QuotesBounds.{climbs_more, climbs-within, years_length}
use Rattle.bootstrap.specs.declared.Liquid.{Liquid}
use Rattle.bootstrap.specs.Liquids.{as_bootstrap, nothing, Reaches}
use Rattle.bootstrap.specs.Years.{quote}
use Rattle.bootstrap.proofs.Soundness.{count_is, gaps_is}

-- ---- a rate of 16 bits, stored as one of 64

module _ (z : ℤ) (small : mag z ≤ 12_000) where
  pub rate_fits : SFits w64 z
  rate_fits = record { sfits = omega arith }

  pub narrow_read : to_z w16 (of_z w16 z) ≡ z
  narrow_read = to_z-of_z w16 z (record { sfits = omega arith })

-- ---- before quote i of any that climb

pub record Going (ms : List ℕ) (rates : List ℤ) (w : Liquid) (i : ℕ) : Type 0 where
  pub as_many : length rates ≡ length ms
  pub within : i ≤ length ms
  pub climb : climbs w.count w.gaps (drop i ms) ≡ true
  pub whole : bootstrap (quotes_of ms rates) ≡ bootstrap_from (quotes_of (drop i ms) (drop i rates)) (as_bootstrap w)

pub going_start : (ms : List ℕ) (rates : List ℤ) (w : Liquid) → length rates ≡ length ms → climbs 0 0 ms ≡ true →
    as_bootstrap w ≡ nothing → w.count ≡ 0 → w.gaps ≡ 0 → Going ms rates w 0
going_start ms rates w same climb e years gaps =
    record {
      as_many = same;
      within = omega arith;
      climb = rw (years, gaps) climb;
      whole = bootstrap_from_lem (quotes_of ms rates) ∙ ap (bootstrap_from (quotes_of ms rates)) (sym e);
    }

at_index : {A : Type 0} (xs : List A) (d : A) (i : ℕ) → i < length xs → drop i xs ≡ get_or xs i d ∷ drop (i + 1) xs
at_index xs d i h = rw (add-one i) (drop-cons xs i d h)

module _ {ms : List ℕ} {rates : List ℤ} {w : Liquid} {i : ℕ} (g : Going ms rates w i) (h : i < length ms) where
  abbrev next : ℕ
  next = get_or ms i 0

  abbrev rate : ℤ
  rate = get_or rates i (pos 0)

  climb_next : (w.count < next) × (next - w.count ≤ 30) × (climbs next (gaps_with (next - w.count) w.gaps) (drop (i + 1) ms) ≡ true)
  climb_next = climbs_more w.count w.gaps next (drop (i + 1) ms) (rw (at_index ms 0 i h) at g.climb)

  pub reaches : Reaches w next
  reaches =
      let (rises, short, rest) = climb_next in
      let (years, gaps) = climbs-within next (gaps_with (next - w.count) w.gaps) (drop (i + 1) ms) rest in
      record { rises = rises; short = short; within = years; gaps = gaps }

  abbrev later : List Quote
  later = quotes_of (drop (i + 1) ms) (drop (i + 1) rates)

  stepped : bootstrap (quotes_of ms rates) ≡ (years_to (quote next rate) (as_bootstrap w) >>= bootstrap_from later)
  stepped =
      let quotes = quotes_more next (drop (i + 1) ms) rate (drop (i + 1) rates) in
      (rw (at_index ms 0 i h, at_index rates (pos 0) i (omega (arith, g.as_many)), quotes) at g.whole) ∙
      from_cons (quote next rate) later (as_bootstrap w)

  pub going_stops : {r : Ground} → refused r ≡ years_to (quote next rate) (as_bootstrap w) → refused r ≡ bootstrap (quotes_of ms rates)
  going_stops e = rw (stepped, ← e) refl

  pub going_on : (u : Liquid) → done (as_bootstrap u) ≡ years_to (quote next rate) (as_bootstrap w) → Going ms rates u (i + 1)
  going_on u e =
      let (rises, short, rest) = climb_next in
      let before = count_is w in
      let (years, gaps) = years_length (quote next rate) (as_bootstrap w) (rw before rises) (sym e) in
      let count : u.count ≡ next = sym (count_is u) ∙ years in
      let gap : u.gaps ≡ gaps_with (next - w.count) w.gaps =
      sym (gaps_is u) ∙ gaps ∙ ap₂ (λ (n g : ℕ). gaps_with (next - n) g) before (gaps_is w) in
      record {
        as_many = g.as_many;
        within = omega arith;
        climb = rw (count, gap) rest;
        whole = stepped ∙ ap (λ (o : Outcome Bootstrap). o >>= bootstrap_from later) (sym e);
      }

pub going_ends : {ms : List ℕ} {rates : List ℤ} {w : Liquid} → Going ms rates w (length ms) → bootstrap (quotes_of ms rates) ≡ done (as_bootstrap w)
going_ends {ms} {rates} {w} g = g.whole ∙ (rw (drop-length ms, quotes_none (drop (length ms) rates)) (from_none (as_bootstrap w)))
