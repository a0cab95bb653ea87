-- The brackets that are still to come, from `left` outwards, give what all of them give.
use mathlib.Core.Path.{◌≡◌}
use Prim.Native.Nat.{◌≤◌}
use Rattle.decay.specs.ByMonth.{scale, outwards, left_after_month}
use Rattle.decay.proofs.month.left_after_a_month.Given as goal

abbrev pub invariant-loop-n : goal.invariant-loop-n
invariant-loop-n l = (l.left ≤ scale) × (outwards l.rate l.n l.left ≡ left_after_month l.rate)
