-- The first 16 bytes are copied, then the masses are written: together they are the record rewritten.
use mathlib.Core.Path.{◌≡◌, refl}
use Prim.Native.Nat.{◌+◌, ◌-◌}
use native.Mathlib.Omega.{arith}
use lib.ListN.{take}
use lib.Seq.{length-take-le}
use Rattle.numbers.specs.Lists.{joined}
use Rattle.numbers.proofs.Bytes.{part_written}
use Rattle.order.specs.Repair.{record_head, rewritten}
use Rattle.order.proofs.Anew.{moved, two_written}
use Rattle.order.proofs.masses.write_record.Goals as goal

pub returns-clause-out_after : goal.returns-clause-out_after
unfolding rewritten
returns-clause-out_after c =
    let a = c.args in
    let bytes = a.«record».now in
    let long = length-take-le 16 bytes (omega arith) in
    let part : a.at + 16 - a.at ≡ 16 = omega arith in
    let copied : c.copy_from_slice.new.self ≡ take 16 bytes = c.copy_from_slice.ensures.after in
    two_written (record_head bytes) (joined (moved bytes a.at a.places) 8) a.out.now a.at 16 long refl refl
    (rw (part, copied) (part_written a.at 16 a.out.now (take 16 bytes) long (omega arith))) c.write_masses.ensures.out_after
