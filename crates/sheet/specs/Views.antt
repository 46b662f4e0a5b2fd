-- The declared profiles, layouts, kinds, slots and numbers as the method's.
use Rattle.method.specs.Sheet as method
use Rattle.sheet.specs.declared.Layout.{Layout}
use Rattle.sheet.specs.declared.Kind.{Kind}
use Rattle.sheet.specs.declared.Kind.TheVariants as kind
use Rattle.sheet.specs.declared.Slot.{Slot}
use Rattle.sheet.specs.declared.numbers.Numbers.{Numbers}
use Rattle.sheet.specs.Markets.{numbers_by}
pub use Rattle.sheet.specs.Markets.{as_profile}

abbrev pub as_layout : Layout → method.Layout
as_layout l = record { led = l.led; profile = as_profile l.profile; phased = l.phased; adjusts = l.adjusts }

abbrev pub as_kind : Kind → method.Kind
as_kind kind.Month = method.Kind.month
as_kind kind.Rate = method.Kind.rate
as_kind kind.Volume = method.Kind.volume
as_kind kind.Ultimate = method.Kind.ultimate
as_kind kind.Limit = method.Kind.limit
as_kind kind.PhaseIn = method.Kind.phase_in
as_kind kind.Adjustment = method.Kind.adjustment
as_kind kind.Profile = method.Kind.profile

abbrev pub as_slot : Slot → method.Slot
as_slot t = record { kind = as_kind t.due.kind; maturity = t.due.maturity; start = t.start }

abbrev pub as_numbers : Numbers → method.Numbers
as_numbers n = numbers_by n.profile n.month n.rates n.volumes n.ultimate n.limit n.phase_in n.adjustment
