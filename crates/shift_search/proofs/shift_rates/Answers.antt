use mathlib.Core.Path.{◌≡◌, sym, ap, subst, ◌∙◌}
use mathlib.Core.Bool.{Bool}
use mathlib.Core.List.{List}
use Prim.Native.Nat.{ℕ, ◌≤◌, ◌<◌}
use native.Mathlib.Omega.{arith}
use lib.IntN.{ℤ, pos, ◌+ℤ◌}
use lib.ListN.{length, take, get_or, length-map, length-set}
use lib.Seq.{get_or-take, take-set-lt, length-take-le}
use borrow.Author.Rules.{rules}
use Rattle.method.specs.Ranges.{RateInRange}
use Rattle.method.proofs.Entries.{map_at}
use Rattle.method.proofs.Filling.{filled_more}
use Rattle.shift.specs.Shift.{shifted_rates, quotes_inside}
use Rattle.shift.proofs.Ranges.{inside}
use Rattle.rounding.proofs.Machine.{stored, stored_is}
use Rattle.shift_search.proofs.Moving.{moved_is, back_is, inside_here, outside_here, inside_end}
use Rattle.shift_search.proofs.shift_rates.Goals as goal
use Rattle.shift_search.proofs.shift_rates.Goals.{After-admits}

module _ (rates : List ℤ) (quotes : ℕ) (s : ℤ) (long : length rates ≡ 17) (most : quotes ≤ 17) where
  long_taken : length (take quotes rates) ≡ quotes
  long_taken = length-take-le quotes rates (omega arith)

  long_target : length (shifted_rates s (take quotes rates)) ≡ quotes
  long_target = length-map (take quotes rates) _ ∙ long_taken

  module _ (i : ℕ) (h : i < quotes) where
    taken_is : get_or (take quotes rates) i (pos 0) ≡ get_or rates i (pos 0)
    taken_is = get_or-take quotes rates i (pos 0) h

    -- the quote that is due there
    due_is : get_or (shifted_rates s (take quotes rates)) i (pos 0) ≡ get_or rates i (pos 0) +ℤ s
    due_is = map_at (λ x. x +ℤ s) (take quotes rates) i (pos 0) (pos 0) (rw long_taken h) ∙ rw taken_is

-- whether all stay inside, of the shift as it was given
as_given : (rates : List ℤ) (s : ℤ) {b : Bool} → stored s ≡ s → quotes_inside (shifted_rates (stored s) rates) ≡ b →
    b ≡ quotes_inside (shifted_rates s rates)
as_given rates s is e = sym (ap (λ (x : ℤ). quotes_inside (shifted_rates x rates)) (sym is) ∙ e)

-- ---- in a pass

module _ (c : After-admits) where
  abbrev i : ℕ
  i = c.loop-i.i

  abbrev h : i < c.args.quotes
  h = c.loop-i-test.true

  long_rates : length c.args.rates ≡ 17
  long_rates = search rules

  abbrev target : List ℤ
  target = shifted_rates (stored c.args.s) (take c.args.quotes c.args.rates)

  abbrev z : ℤ
  z = get_or c.args.rates i (pos 0)

  range : RateInRange z
  range = subst RateInRange (taken_is c.args.rates c.args.quotes c.args.s long_rates c.requires.0 i h) (c.requires.2 i)

  inside_target : i < length target
  inside_target = rw (long_target c.args.rates c.args.quotes (stored c.args.s) long_rates c.requires.0) h

  due : get_or target i (pos 0) ≡ z +ℤ c.args.s
  due = due_is c.args.rates c.args.quotes (stored c.args.s) long_rates c.requires.0 i h ∙ ap (λ (x : ℤ). z +ℤ x) (stored_is c.args.s c.requires.1 tt)

  -- what was tested is the quote that is due
  tested : inside (z +ℤ c.args.s) ≡ c.admits.result
  tested = sym (c.admits.ensures ∙ ap inside (moved_is z c.args.s range c.requires.1))

  tested_due : inside (get_or target i (pos 0)) ≡ c.admits.result
  tested_due = ap inside due ∙ tested

pub returns-then-not-admits-clause-inside : goal.returns-then-not-admits-clause-inside
returns-then-not-admits-clause-inside c =
    let p = (goal.at.returns-then-not-admits-clause-inside c).After-admits in
    as_given (take c.args.quotes c.args.rates) c.args.s (stored_is c.args.s c.requires.1 tt)
    (c.loop-i.invariant.left ∙ outside_here (target p) (i p) (inside_target p) (tested_due p ∙ c.if-not-admits.true))

pub loop-i-preserved : goal.loop-i-preserved
loop-i-preserved c =
    let p = (goal.at.loop-i-preserved c).After-admits in
    let l = c.loop-i in
    let passed = c.if-not-admits.false in
    let back = back_is (z p) c.args.s (range p) c.requires.1 (tested p ∙ passed) in
    record {
      long = length-set l.next l.i _ ∙ l.invariant.long;
      filled =
          rw (take-set-lt c.args.quotes l.next l.i _ (h p))
          (filled_more _ _ l.i _ (pos 0) l.invariant.filled (inside_target p) (back ∙ sym (due p)));
      left = l.invariant.left ∙ inside_here (target p) l.i (inside_target p) (tested_due p ∙ passed);
    }

pub returns-clause-inside : goal.returns-clause-inside
returns-clause-inside c =
    let all = shifted_rates (stored c.args.s) (take c.args.quotes c.args.rates) in
    let long : length c.args.rates ≡ 17 = search rules in
    let over : length all ≤ c.loop-i.i = rw (long_target c.args.rates c.args.quotes (stored c.args.s) long c.requires.0) c.loop-i-test.false in
    as_given (take c.args.quotes c.args.rates) c.args.s (stored_is c.args.s c.requires.1 tt)
    (c.loop-i.invariant.left ∙ inside_end all c.loop-i.i over)
