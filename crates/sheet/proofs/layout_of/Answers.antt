-- The tests are those of the definition, one after the other.
use mathlib.Core.Path.{◌∙◌, sym}
use Rattle.sheet.proofs.Choosing.{chosen, neither, phased_alone, both, one_more}
use Rattle.sheet.proofs.layout_of.Goals as goal

pub returns-then-sheet-first : goal.returns-then-sheet-first
returns-then-sheet-first c = neither c.args.sheet.now c.names_profile.ensures (chosen c.args.sheet.now _ c.profile_of.ensures c.unwrap_or.ensures) c.size-first.ensures.0 c.if-sheet-first.true

pub returns-then-not-may_adjust : goal.returns-then-not-may_adjust
returns-then-not-may_adjust c =
    phased_alone c.args.sheet.now c.names_profile.ensures (chosen c.args.sheet.now _ c.profile_of.ensures c.unwrap_or.ensures) c.size-first.ensures.0 c.if-sheet-first.false
    (sym c.may_adjust.ensures ∙ c.if-not-may_adjust.true)

pub returns-then-first-sheet : goal.returns-then-first-sheet
returns-then-first-sheet c =
    both c.args.sheet.now c.names_profile.ensures (chosen c.args.sheet.now _ c.profile_of.ensures c.unwrap_or.ensures) c.size-first.ensures.0 c.if-first-sheet.true
    (sym c.may_adjust.ensures ∙ c.if-not-may_adjust.false)

pub returns : goal.returns
returns c =
    one_more c.args.sheet.now c.names_profile.ensures (chosen c.args.sheet.now _ c.profile_of.ensures c.unwrap_or.ensures) c.size-first.ensures.0 c.if-sheet-first.false
    c.if-first-sheet.false (sym c.may_adjust.ensures ∙ c.if-not-may_adjust.false)
