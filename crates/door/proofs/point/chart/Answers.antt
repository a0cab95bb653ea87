-- `chart` is right: its two tests say that the high edge is at most 2^53, so each of the three whole numbers is.
use borrow.Author.Tests.{lt-leb}
use native.Mathlib.Omega.{arith}
use lib.Ieee.{of_bits, of_int}
use Prim.Native.Nat.{◌+◌}
use Rattle.door.specs.Point.{exact}
use Rattle.door.proofs.point.chart.Goals as goal
use Rattle.door.proofs.point.chart.Goals.{else-figure-le-EXACT-via-then-figure-le-EXACT+else-bound-figure, else-figure-le-EXACT-via-else-figure-le-EXACT}

pub returns : goal.returns
unfolding of_bits of_int
returns c =
    elim c.else-figure-le-EXACT.branch [
      | else-figure-le-EXACT-via-then-figure-le-EXACT+else-bound-figure w ↦ rw (lt-leb (c.args.figure + c.args.bound) exact (omega arith))
      | else-figure-le-EXACT-via-else-figure-le-EXACT w ↦ rw (lt-leb (c.args.figure + c.args.bound) exact (omega arith))
    ]
