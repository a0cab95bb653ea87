-- `MidFile` holds at the head of the loop; each year and the end is a law of it.
use Prim.Native.Nat.{◌-◌}
use lib.ListN.{length}
use Rattle.yearly_totals.proofs.Files.{MidFile}
use Rattle.yearly_totals.proofs.run_file.Given as goal

abbrev pub invariant-loop-at : goal.invariant-loop-at
invariant-loop-at l = MidFile l.initial.ledger l.initial.totals l.records l.initial.out l.totals l.out l.ledger l.at l.accepted 0 l.work

abbrev pub decreases-loop-at : goal.decreases-loop-at
decreases-loop-at l = length l.records - l.at
