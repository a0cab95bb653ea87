-- An entry is below 10^9, so what is left is at most what was held.
use Rattle.std.proofs.Common.{◌^◌, ◌≤◌, arith}
use Rattle.numbers.proofs.Split.{share_most}
use Rattle.carbon.specs.Carbon.{left_of}
use Rattle.carbon.proofs.left.Goals as goal

pub returns : goal.returns
unfolding left_of
returns c =
    let most : c.args.entry ≤ 10 ^ 9 = omega arith in
    (c.mul_div.ensures, rw c.mul_div.ensures (share_most c.args.held c.args.entry (10 ^ 9) most))
