-- Before place i of the five the table is filled to it.
use mathlib.Core.Path.{◌≡◌}
use Prim.Native.Nat.{◌+◌, ◌≤◌}
use Rattle.decay.specs.ByMonth.{filled_to}
use Rattle.decay.proofs.month.fill_five.Given as goal

abbrev pub invariant-loop-i : goal.invariant-loop-i
invariant-loop-i l = (l.i ≤ 5) × (l.table ≡ filled_to (l.from + l.i))
