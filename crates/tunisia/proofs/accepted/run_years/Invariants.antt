-- `MidYears` holds at the head of the loop; each stretch and the end is a law of it.
use mathlib.Core.Path.{◌≡◌}
use Prim.Native.Nat.{◌-◌}
use lib.ListN.{length}
use Rattle.stretches.specs.Stretches.{stretch_bytes}
use Rattle.tunisia.proofs.MidYears.{MidYears}
use Rattle.tunisia.proofs.accepted.run_years.Given as goal

abbrev pub invariant-loop-at : goal.invariant-loop-at
invariant-loop-at l = (MidYears l.stretch.first l.stretch.last l.file l.ledger l.walked l.at 0) × (length l.out ≡ stretch_bytes)

abbrev pub decreases-loop-at : goal.decreases-loop-at
decreases-loop-at l = length l.file - l.at
