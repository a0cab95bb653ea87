-- Before place t the loop has the sum of the sample's first t fractions, and has added each of them to what stood there.
use mathlib.Core.Path.{◌≡◌}
use Prim.Native.Nat.{◌+◌}
use native.Mathlib.Omega.{arith}
use lib.ListN.{get_or}
use Rattle.numbers.proofs.Eight.{filled_more, sum_more}
use Rattle.samples.specs.Samples.{fraction_at}
use Rattle.samples.proofs.add_sample.Goals as goal

pub loop-t-preserved : goal.loop-t-preserved
loop-t-preserved c =
    let sample = c.args.sample.now in
    let loop = c.loop-t in
    let fraction : c.fraction_of-fraction.result ≡ fraction_at sample 0 loop.t = grind (arith, c.fraction_of-fraction.ensures) in (
      omega arith,
      sum_more (fraction_at sample 0) loop.t loop.invariant.1 fraction,
      omega arith,
      filled_more (λ t. get_or c.args.before t 0 + fraction_at sample 0 t) loop.t loop.invariant.3 (rw fraction),
    )

pub returns-clause-sum : goal.returns-clause-sum
returns-clause-sum c =
    let all : c.loop-t.t ≡ 8 = omega arith in
    rw all at c.loop-t.invariant.1
