-- Each number by the index of its record.
use mathlib.Core.Path.{◌≡◌, refl}
use Prim.Native.Nat.{◌+◌, ◌-◌, ◌≤◌}
use native.Mathlib.Omega.{arith}
use lib.ListN.{length}
use Rattle.method.specs.Sheet.{volume_count, quote_count, rate_index, volume_index}
use Rattle.method.proofs.Filling.{part_length}
use Rattle.method.proofs.Slots.{quotes_most, slots_least}
use Rattle.sheet.specs.Views.{as_layout}
use Rattle.sheet.proofs.Ranges.{rate_run}
use Rattle.sheet.proofs.numbers_of.Goals as goal

pub unsigned-requires : goal.unsigned-requires
unsigned-requires c = omega (arith, c.requires.inside.count, slots_least (as_layout c.args.layout), c.month_index-month.ensures.0)

pub slice_bounds-rates-end : goal.slice_bounds-rates-end
slice_bounds-rates-end c = omega (arith, c.requires.inside.count, slots_least (as_layout c.args.layout), c.volume_index-volume.ensures.0)

pub rates-requires : goal.rates-requires
rates-requires c =
    let l = as_layout c.args.layout in
    let count : c.volume_index-volume.result - (c.month_index-month.result + 1) ≡ quote_count l.profile =
    omega (arith, c.month_index-month.ensures.0, c.volume_index-volume.ensures.0) in
    let some : rate_index l + quote_count l.profile ≤ length c.args.numbers.now = omega (arith, c.requires.inside.count, slots_least l) in
    rw (count, c.month_index-month.ensures.0, part_length) (rate_run l _ c.requires.inside, quotes_most l.profile)

pub slice_bounds-volumes-end : goal.slice_bounds-volumes-end
slice_bounds-volumes-end c = omega (arith, c.requires.inside.count, slots_least (as_layout c.args.layout), c.ultimate_index-ultimate.ensures.0)

pub unsigned-requires-2 : goal.unsigned-requires-2
unsigned-requires-2 c = omega (arith, c.requires.inside.count, slots_least (as_layout c.args.layout), c.ultimate_index-ultimate.ensures.0)

pub unsigned-requires-3 : goal.unsigned-requires-3
unsigned-requires-3 c = omega (arith, c.requires.inside.count, slots_least (as_layout c.args.layout), c.ultimate_index-ultimate.ensures.0)

pub returns : goal.returns
returns c =
    let l = as_layout c.args.layout in
    let zs = c.args.numbers.now in
    let enough : rate_index l + quote_count l.profile ≤ length zs = omega (arith, c.requires.inside.count, slots_least l) in
    let many : volume_index l + volume_count l.profile ≤ length zs = omega (arith, c.requires.inside.count, slots_least l) in
    let quotes : c.volume_index-volume.result - (c.month_index-month.result + 1) ≡ quote_count l.profile =
    omega (arith, c.month_index-month.ensures.0, c.volume_index-volume.ensures.0) in
    let count : c.ultimate_index-ultimate.result - c.volume_index-volume.result ≡ volume_count l.profile =
    omega (arith, c.ultimate_index-ultimate.ensures.0, c.volume_index-volume.ensures.0) in
    let rates = rw (quotes, c.month_index-month.ensures.0, part_length) at c.rates.ensures in
    let volumes = rw (count, c.volume_index-volume.ensures.0, part_length) at c.volumes.ensures in
    let month = rw c.month_index-month.ensures.0 at c.unsigned.ensures in
    let ultimate = rw c.ultimate_index-ultimate.ensures.0 at c.unsigned-2.ensures in
    let limit = rw c.ultimate_index-ultimate.ensures.0 at c.unsigned-3.ensures in
    rw (rates, volumes, month, ultimate, limit, c.phase_in.ensures, c.adjustment.ensures.stands, c.adjustment.ensures.value) refl
