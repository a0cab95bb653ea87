-- The head and the five numbers are the output record, and nothing past it is touched.
use Prim.Native.Nat.{◌≤◌}
use borrow.Author.Tests.{le-leb, lt-leb}
use lib.ListN.{length}
use Rattle.numbers.proofs.Bytes.{front_written}
use Rattle.output.specs.Output.{output_head, five_of, output_of, written}
use Rattle.output.proofs.write.Goals as goal

pub returns : goal.returns
unfolding written output_of
returns c =
    let s = c.args.out.now in
    let o = c.args.says in
    let room : 48 ≤ length s = c.if-out-lt-BYTES.false in
    simp (le-leb 48 (length s) room)
    (front_written (output_head o.period o.kind o.climate) (five_of o.x0 o.figure o.bound o.stock o.brought) s
    c.write_head.ensures c.write_five.ensures room)

pub returns-then-out-lt-BYTES : goal.returns-then-out-lt-BYTES
unfolding written
returns-then-out-lt-BYTES c = simp (lt-leb _ _ c.if-out-lt-BYTES.true)
