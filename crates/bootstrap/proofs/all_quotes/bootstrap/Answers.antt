use mathlib.Core.Path.{◌≡◌, sym, ◌∙◌}
use Prim.Native.Nat.{ℕ, ◌≤◌, ◌<◌}
use native.Mathlib.Omega.{arith}
use lib.IntN.{ℤ, pos}
use lib.ListN.{length, get_or, length-append}
use lib.Seq.{length-take-le}
use lib.Signed.{mag}
use mir.Syntax.{w16, w64}
use mir.Val.{of_z, to_z}
use mir.ValLaws.{to_z-of_z}
use borrow.Author.Rules.{rules}
use Rattle.std.proofs.lemmas.Result.{err_from_is_err_and}
use Rattle.std.proofs.lemmas.Slice.Zip.{zip_turn, zip_end}
use Rattle.method.specs.Grounds.{Outcome}
use Rattle.method.specs.Quotes.{Bootstrap, years_to}
use Rattle.bootstrap.specs.declared.Quotes.{Quotes}
use Rattle.bootstrap.specs.Liquids.{as_bootstrap}
use Rattle.bootstrap.specs.Years.{quote}
use Rattle.bootstrap.proofs.Order.{rate_fits, narrow_read, going_start, reaches, going_stops, going_on, going_ends}
use Rattle.bootstrap.proofs.all_quotes.bootstrap.Invariants.{maturities_of, rates_of}
use Rattle.bootstrap.proofs.all_quotes.bootstrap.Goals as goal
use Rattle.bootstrap.proofs.all_quotes.bootstrap.Goals.{In-Some}

pub loop-maturity-init : goal.loop-maturity-init
loop-maturity-init c =
    let e = c.fresh-liquid.ensures in
    let q = c.args.q in
    let p = c.requires in
    let maturities : length q.maturities ≡ 17 = search rules in
    let rates : length q.rates ≡ 17 = search rules in
    let long = length-take-le q.count q.maturities (omega (arith, p.within)) in
    let as_long = length-take-le q.count q.rates (omega (arith, p.within)) in
    record { long = long; as_long = as_long; going = going_start _ _ c.fresh-liquid.result (as_long ∙ sym long) p.climb e.0 e.1 e.2 }

-- a quote as it is read: its rate widened
as_read : (b : Bootstrap) {m m' : ℕ} {r r' : ℤ} → m ≡ m' → r ≡ r' → mag r' ≤ 12_000 → (o : Outcome Bootstrap) →
    o ≡ years_to (quote m (to_z w64 (of_z w64 (to_z w16 (of_z w16 r))))) b → o ≡ years_to (quote m' r') b
as_read b {m} {m'} {r} {r'} same equal small o e =
    rw (narrow_read r' small, to_z-of_z w64 _ (rate_fits r' small)) at (rw (same, equal) at e)

-- a quote
module _ (c : In-Some) where
  abbrev quotes : Quotes
  quotes = c.args.q

  abbrev index : ℕ
  index = length c.loop-maturity.yielded

  abbrev rate : ℤ
  rate = get_or (rates_of quotes) index (pos 0)

  turn : (index < length (maturities_of quotes)) × (index < length (rates_of quotes))
      × ((d : ℕ) → c.in-Some.maturity.now ≡ get_or (maturities_of quotes) index d)
      × ((d : ℤ) → c.in-Some.rate.now ≡ get_or (rates_of quotes) index d)
  turn =
      let l = c.loop-maturity in
      zip_turn (maturities_of quotes) (rates_of quotes) l.yielded c.into_iter-maturity-iterator.result l.maturity-iterator c.next.new.self _
      (search rules) (search rules) l.yielded_by _ c.in-Some.is c.next.ensures.steps

  early : index < length (maturities_of quotes)
  early = turn.0

  small : mag rate ≤ 12_000
  small = c.requires.small index

pub years_to-requires : goal.years_to-requires
years_to-requires c =
    let i = (goal.at.years_to-requires c).In-Some in
    rw ((turn i).2 0, (turn i).3 (pos 0)) (rw (narrow_read (rate i) (small i), to_z-of_z w64 _ (rate_fits (rate i) (small i)))
    (reaches c.loop-maturity.invariant.going (early i), small i))

-- what its years come to
abbrev Worked : In-Some → Outcome Bootstrap → Type 0
Worked c o = o ≡ years_to (quote (get_or (maturities_of (quotes c)) (index c) 0) (rate c)) (as_bootstrap c.loop-maturity.liquid)

read : (c : In-Some) (o : Outcome Bootstrap) →
    o ≡ years_to (quote c.in-Some.maturity.now (to_z w64 (of_z w64 (to_z w16 (of_z w16 c.in-Some.rate.now))))) (as_bootstrap c.loop-maturity.liquid) →
    Worked c o
read c o e = as_read (as_bootstrap c.loop-maturity.liquid) ((turn c).2 0) ((turn c).3 (pos 0)) (small c) o e

pub returns-in_err-years_to : goal.returns-in_err-years_to
returns-in_err-years_to c =
    let i = (goal.at.returns-in_err-years_to c).In-Some in
    let p = err_from_is_err_and c.from_residual.result c.from_residual.ensures.1 in
    record { outcome = rw (p.1, p.2) (going_stops c.loop-maturity.invariant.going (early i) (read i _ c.in_err-years_to.ensures)) }

pub loop-maturity-preserved : goal.loop-maturity-preserved
loop-maturity-preserved c =
    let i = (goal.at.loop-maturity-preserved c).In-Some in
    let l = c.loop-maturity.invariant in
    rw (length-append c.loop-maturity.yielded) (record {
      long = l.long;
      as_long = l.as_long;
      going = going_on l.going (early i) _ (read i _ c.in_ok-years_to.ensures);
    })

pub returns : goal.returns
returns c =
    let l = c.loop-maturity.invariant in
    let q = c.args.q in
    let zipped =
    zip_end (maturities_of q) (rates_of q) c.loop-maturity.yielded c.into_iter-maturity-iterator.result c.loop-maturity.maturity-iterator c.next.new.self _
    (search rules) (search rules) c.loop-maturity.yielded_by c.in-None.is c.next.ensures.steps in
    let end : length c.loop-maturity.yielded ≡ length (maturities_of q) = omega (arith, zipped, l.long, l.as_long) in
    record { outcome = sym (going_ends (rw end at l.going)) }
