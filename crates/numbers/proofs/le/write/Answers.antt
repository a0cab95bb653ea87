-- The part that is copied are the low bytes of the number.
use Rattle.std.proofs.Common.{◌≡◌, ◌∙◌, ◌+◌, ◌-◌, arith}
use Rattle.numbers.specs.Bytes.{bytes_of}
use Rattle.numbers.proofs.Bytes.{part_written, few_bytes, bytes_length}
use Rattle.numbers.proofs.le.write.Goals as goal

pub returns : goal.returns
returns g c =
    let a = c.args in
    let n = g.row.N in
    let part : a.at + n - a.at ≡ n = omega arith in
    let copied : c.copy_from_slice.new.self ≡ bytes_of n a.x = c.copy_from_slice.ensures.after ∙ few_bytes n a.x c.requires.width c.to_le_bytes-wide.ensures in
    rw (part, copied) (part_written a.at n a.out.now (bytes_of n a.x) (bytes_length n a.x) c.requires.room)
