-- `MidRun` holds at the head of the loop; each way out and each turn is a law of it.
use mathlib.Core.Path.{◌≡◌}
use mathlib.Core.Bool.{true}
use Prim.Native.Nat.{ℕ, ◌-◌, ◌≤◌, ◌<◌}
use lib.ListN.{length}
use Rattle.record.specs.Ranges.{light}
use Rattle.run.proofs.MidRun.{MidRun}
use Rattle.run.proofs.run.Given as goal

abbrev pub invariant-records : goal.invariant-records
invariant-records l = MidRun l.initial.ledger l.records l.initial.out l.entries l.good l.out l.ledger l.at l.work × (l.at ≤ l.reach)

abbrev pub decreases-records : goal.decreases-records
decreases-records l = length l.records - l.at

abbrev pub invariant-loop-t : goal.invariant-loop-t
invariant-loop-t l = (l.t ≤ 8) × ((k : ℕ) → k < l.t → light l.bytes k ≡ true)
