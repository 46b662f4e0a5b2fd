-- Index by index: a layout that has the index has this entry there.
use mathlib.Core.Path.{◌≡◌, refl, sym, ap, ◌∙◌}
use mathlib.Core.Bool.{Bool, true, false, cond}
use Prim.Native.Nat.{ℕ, ◌+◌, ◌-◌, ◌≤◌, ◌<◌}
use native.Mathlib.Omega.{arith}
use lib.ListN.{length, get_or}
use Rattle.method.specs.Sheet.{maturities, quote_count, volume_count, Layout, slots_of, slot, slot_at, month_index, rate_index, volume_index, ultimate_index}
use Rattle.method.proofs.Slots.{profile_slot, month_slot, rate_slot, volume_slot, ultimate_slot, limit_slot}
use Rattle.sheet.proofs.Lasts.{no_maturity}
use Rattle.sheet.specs.declared.Entry.{Entry}
use Rattle.sheet.specs.Views.{as_layout, as_kind}
use Rattle.sheet.specs.Records.{Due}
use Rattle.sheet.proofs.Layout.entry_at.Goals as goal

-- from the slot at index n, which is i
due : {l : Layout} {i m s : ℕ} (e : Entry) (n : ℕ) → e.maturity ≡ m → n ≡ i → (n < length (slots_of l) → slot_at l n ≡ slot (as_kind e.kind) m s) → Due l i e
due e n q p at =
    record {
      kind = λ h. rw (← p) (sym (ap (λ t. t.kind) (at (rw p h))));
      maturity = λ h. rw (← p) (q ∙ sym (ap (λ t. t.maturity) (at (rw p h))));
    }

led_by : (led : Bool) (i : ℕ) → i < cond led 1 0 → (led ≡ true) × (i ≡ 0)
led_by true i h = (refl, omega arith)
led_by false i h = absurd (omega arith)

pub returns-then-i-month : goal.returns-then-i-month
returns-then-i-month c =
    let l = as_layout c.args.self in
    let (led, first) = led_by l.led c.args.i (omega (arith, c.if-i-month.true, c.month_index-month.ensures.0)) in
    rw c.alone.ensures (due _ 0 refl (sym first) (λ h. profile_slot l led))

pub returns-then-i-month-2 : goal.returns-then-i-month-2
returns-then-i-month-2 c =
    let l = as_layout c.args.self in
    rw c.alone-then-i-month-2.ensures (due _ (month_index l) refl (omega (arith, c.if-i-month-2.true, c.month_index-month.ensures.0)) (λ h. month_slot l))

pub returns-then-i-volumes : goal.returns-then-i-volumes
returns-then-i-volumes c =
    let l = as_layout c.args.self in
    let j = c.args.i - c.month_index-month.result - 1 in
    let here : rate_index l + j ≡ c.args.i = omega (arith, c.month_index-month.ensures.0, c.if-i-month.false, c.if-i-month-2.false) in
    let few : j < quote_count l.profile = omega (arith, here, c.volume_index-volumes.ensures.0, c.if-i-volumes.true) in
    due _ (rate_index l + j) c.maturity.ensures here (λ h. rate_slot l j few)

pub returns-then-i-ultimate : goal.returns-then-i-ultimate
returns-then-i-ultimate c =
    let l = as_layout c.args.self in
    let j = c.args.i - c.volume_index-volumes.result in
    let here : volume_index l + j ≡ c.args.i = omega (arith, c.volume_index-volumes.ensures.0, c.if-i-volumes.false) in
    let few : j < volume_count l.profile = omega (arith, here, c.ultimate_index-ultimate.ensures.0, c.if-i-ultimate.true) in
    due _ (volume_index l + j) (c.maturity-then-i-ultimate.ensures ∙ ap (λ (k : ℕ). get_or maturities (k + j) 0) c.market.ensures.smoothing) here
    (λ h. volume_slot l j few)

pub returns-then-i-ultimate-2 : goal.returns-then-i-ultimate-2
returns-then-i-ultimate-2 c =
    let l = as_layout c.args.self in
    rw c.alone-then-i-ultimate-2.ensures
    (due _ (ultimate_index l) refl (omega (arith, c.ultimate_index-ultimate.ensures.0, c.if-i-ultimate-2.true)) (λ h. ultimate_slot l))

pub returns-then-i-ultimate-3 : goal.returns-then-i-ultimate-3
returns-then-i-ultimate-3 c =
    let l = as_layout c.args.self in
    rw c.alone-then-i-ultimate-3.ensures
    (due _ (ultimate_index l + 1) refl (omega (arith, c.ultimate_index-ultimate.ensures.0, c.if-i-ultimate-3.true)) (λ h. limit_slot l))

pub returns-else-i-ultimate-3 : goal.returns-else-i-ultimate-3
returns-else-i-ultimate-3 c =
    let l = as_layout c.args.self in
    let past : ultimate_index l + 2 ≤ c.args.i =
    omega (arith, c.ultimate_index-ultimate.ensures.0, c.if-i-ultimate.false, c.if-i-ultimate-2.false, c.if-i-ultimate-3.false) in
    rw c.alone-else-i-ultimate-3.ensures (record { kind = c.last_kind.ensures; maturity = no_maturity l c.args.i past })
