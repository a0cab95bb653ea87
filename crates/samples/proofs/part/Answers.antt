-- Before place t the loop has the fractions of the types before it, what is reached with them, and their masses.
use mathlib.Core.Path.{◌≡◌, refl}
use mathlib.Core.List.{List}
use Prim.Native.Nat.{ℕ, ◌+◌, ◌≤◌, ◌<◌}
use native.Mathlib.Nat.{mul-le-mul_left, le_trans}
use native.Mathlib.Omega.{arith}
use lib.ListN.{get_or}
use Rattle.numbers.specs.Eight.{sum_of}
use Rattle.numbers.proofs.Eight.{sum_more, sum_part}
use Rattle.numbers.proofs.Split.{share_most}
use Rattle.samples.proofs.part.Goals as goal

-- The parts with the type at place t are no more than the whole.
no_more : (fractions : List ℕ) (parts t whole : ℕ) → parts ≡ sum_of (λ u. get_or fractions u 0) t → t < 8
    → sum_of (λ u. get_or fractions u 0) 8 ≤ whole → parts + get_or fractions t 0 ≤ whole
no_more fractions parts t whole e l h =
    rw (sum_more (λ u. get_or fractions u 0) t e refl) (le_trans (sum_part (λ u. get_or fractions u 0) (t + 1) 8 (omega arith)) h)

pub overflow_mul-reached : goal.overflow_mul-reached
overflow_mul-reached c =
    let most = no_more c.args.fractions c.loop-t.parts c.loop-t.t c.args.whole c.loop-t.invariant.1 c.loop-t-test.true c.requires.3 in
    omega (arith, mul-le-mul_left c.args.total (le_trans most c.requires.2), c.requires.0)

pub overflow_cast-mass : goal.overflow_cast-mass
overflow_cast-mass c =
    let most = no_more c.args.fractions c.loop-t.parts c.loop-t.t c.args.whole c.loop-t.invariant.1 c.loop-t-test.true c.requires.3 in
    omega (arith, share_most c.args.total _ _ most, c.requires.0)
