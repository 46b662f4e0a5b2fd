-- What is read of the slot's body is what the definition reads.
use mathlib.Core.Path.{◌≡◌, ap, ◌∙◌}
use mathlib.Core.List.{List}
use Prim.Native.Nat.{ℕ, ◌-◌}
use native.Mathlib.Omega.{arith}
use lib.ListN.{length, take, drop, length-drop}
use lib.Seq.{take_all}
use mir.Syntax.{w64}
use mir.Val.{to_z, of_z}
use mir.ValLaws.{to_z-of_z}
use Rattle.method.specs.Sheet.{reading, number_of_record}
use Rattle.sheet.specs.Views.{as_kind, as_slot}
use Rattle.sheet.specs.Records.{in_kind}
use Rattle.sheet.proofs.read_record.Goals as goal
use Rattle.sheet.proofs.read_record.Goals.{After-signed-number}

-- the bytes of a body after its maturity
rest_of : (m : ℕ) (l : List ℕ) → take (length l - m) (drop m l) ≡ drop m l
rest_of m l = take_all (length l - m) (drop m l) (simp length-drop (omega arith))

-- what stands in 64 bits is the number of the record
number_is : (c : After-signed-number) →
    to_z w64 (of_z w64 c.signed-number.result) ≡ number_of_record c.args.sheet.now (as_slot c.args.slot)
number_is c =
    let k = as_kind c.args.slot.due.kind in
    to_z-of_z w64 _ (record { sfits = c.signed-number.type_inv })
    ∙ c.signed-number.ensures
    ∙ ap (reading k) (c.number.ensures.0 ∙ rw (rest_of, c.form.ensures.maturity, c.body-body.ensures.0))

pub returns-clause-inside : goal.returns-clause-inside
returns-clause-inside c = c.admits.ensures ∙ ap (in_kind (as_kind c.args.slot.due.kind)) (number_is (goal.at.returns-clause-inside c).After-signed-number)

pub returns-clause-number : goal.returns-clause-number
returns-clause-number c = number_is (goal.at.returns-clause-number c).After-signed-number
