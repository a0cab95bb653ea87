-- Before place t the loop has written the row of the first t numbers.
use mathlib.Core.Path.{◌≡◌}
use native.Mathlib.Omega.{arith}
use lib.ListN.{get_or}
use Rattle.numbers.specs.Bytes.{bytes_of}
use Rattle.numbers.proofs.Bytes.{bytes_length}
use Rattle.numbers.proofs.Joined.{joined_more}
use Rattle.numbers.proofs.row.write_eight.Goals as goal

pub loop-t-preserved : goal.loop-t-preserved
loop-t-preserved c =
    let a = c.args in
    let loop = c.loop-t in
    joined_more (λ u. bytes_of 8 (get_or a.row u 0)) 8 8 (λ u l. bytes_length 8 (get_or a.row u 0)) loop.t loop.auto.t-end a.out.now a.at loop.invariant c.write.ensures

pub returns : goal.returns
returns c =
    let all : c.loop-t.t ≡ 8 = omega arith in
    rw all at c.loop-t.invariant
