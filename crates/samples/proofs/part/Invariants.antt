-- Before place t the loop has the fractions of the types before it, what is reached with them, and their masses.
use mathlib.Core.Path.{◌≡◌}
use Prim.Native.Nat.{◌+◌, ◌-◌, ◌*◌, ◌/◌, ◌≤◌}
use lib.ListN.{get_or}
use Rattle.numbers.specs.Eight.{sum_of}
use Rattle.numbers.proofs.Eight.{filled}
use Rattle.samples.proofs.part.Given as goal

abbrev pub invariant-loop-t : goal.invariant-loop-t
invariant-loop-t l = (l.t ≤ 8)
    × (l.parts ≡ sum_of (λ u. get_or l.fractions u 0) l.t)
    × (l.before ≡ l.total * sum_of (λ u. get_or l.fractions u 0) l.t / l.whole)
    × (l.mass-items ≡ filled (λ t. l.total * sum_of (λ u. get_or l.fractions u 0) (t + 1) / l.whole - l.total * sum_of (λ u. get_or l.fractions u 0) t / l.whole) l.t)

abbrev pub decreases-loop-t : goal.decreases-loop-t
decreases-loop-t l = 8 - l.t
