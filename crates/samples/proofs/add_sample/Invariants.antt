-- Before place t the loop has the sum of the sample's first t fractions, and has added each of them to what stood there.
use mathlib.Core.Path.{◌≡◌}
use Prim.Native.Nat.{◌+◌, ◌-◌, ◌*◌, ◌^◌, ◌≤◌}
use lib.ListN.{get_or}
use Rattle.numbers.specs.Eight.{sum_of}
use Rattle.numbers.proofs.Eight.{filled}
use Rattle.samples.specs.Samples.{fraction_at}
use Rattle.samples.proofs.add_sample.Given as goal

abbrev pub invariant-loop-t : goal.invariant-loop-t
invariant-loop-t l = (l.t ≤ 8)
    × (l.sum ≡ sum_of (fraction_at l.sample 0) l.t)
    × (l.sum ≤ 2 ^ 16 * l.t)
    × (l.all-items ≡ filled (λ t. get_or l.before t 0 + fraction_at l.sample 0 t) l.t)

abbrev pub decreases-loop-t : goal.decreases-loop-t
decreases-loop-t l = 8 - l.t
