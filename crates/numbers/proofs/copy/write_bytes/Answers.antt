-- The part that is written is all of the bytes.
use Rattle.std.proofs.Common.{◌≡◌, ◌+◌, ◌-◌, refl, arith, length}
use Rattle.numbers.proofs.Bytes.{part_written}
use Rattle.numbers.proofs.copy.write_bytes.Goals as goal

pub returns : goal.returns
returns c =
    let a = c.args in
    let part : a.at + length a.bytes.now - a.at ≡ length a.bytes.now = omega arith in
    rw (part, c.copy_from_slice.ensures.after) (part_written a.at (length a.bytes.now) a.out.now a.bytes.now refl c.requires)
