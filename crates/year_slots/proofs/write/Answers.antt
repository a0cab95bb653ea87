-- Five writes, one after the other.
use mathlib.Core.Path.{refl}
use mathlib.Core.List.{◌++◌}
use Prim.Native.Nat.{◌*◌}
use Rattle.numbers.specs.Bytes.{bytes_of}
use Rattle.year_slots.specs.Slots.{slot_size, slot_row}
use Rattle.year_slots.proofs.Slots.{then}
use Rattle.year_slots.proofs.write.Goals as goal

pub returns : goal.returns
unfolding slot_row
returns c =
    let a = c.args in
    let totals = a.totals.now in
    let at = slot_size * a.k in
    let one = bytes_of 4 a.slot.year in
    let two = one ++ bytes_of 4 a.slot.months in
    let three = two ++ bytes_of 8 a.slot.x0 in
    let four = three ++ bytes_of 8 a.slot.figure in
    then at 24 totals four (bytes_of 8 a.slot.bound) refl
    (then at 16 totals three (bytes_of 8 a.slot.figure) refl
    (then at 8 totals two (bytes_of 8 a.slot.x0) refl
    (then at 4 totals one (bytes_of 4 a.slot.months) refl c.write.ensures c.write-2.ensures)
    c.write-3.ensures)
    c.write-4.ensures)
    c.write-5.ensures
