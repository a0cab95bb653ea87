-- The bytes of a number are those of its two halves.
use native.Mathlib.Omega.{arith}
use Rattle.numbers.proofs.Bytes.{number_join}
use Rattle.record.proofs.bytes.four.Goals as goal

pub returns : goal.returns
returns c =
    let a = c.args in
    omega (arith, number_join 2 2 a.bytes.now a.at)
