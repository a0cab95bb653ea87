-- Before place t the loop has written the row of the first t numbers.
use mathlib.Core.Path.{◌≡◌}
use lib.ListN.{get_or}
use lib.Seq.{sets}
use Rattle.numbers.specs.Bytes.{row_of}
use Rattle.numbers.proofs.row.write_eight.Given as goal

abbrev pub invariant-loop-t : goal.invariant-loop-t
invariant-loop-t l = l.out ≡ sets l.initial.out l.at (row_of (λ u. get_or l.x-items u 0) l.t)
