-- Before place t the loop has the sum of the first t numbers, in 64 bits.
use Rattle.std.proofs.Common.{◌≡◌, ◌%◌, ◌^◌, get_or}
use Rattle.numbers.specs.Eight.{sum_of}
use Rattle.carbon.proofs.total.Given as goal

abbrev pub invariant-loop-x : goal.invariant-loop-x
invariant-loop-x l = l.sum ≡ sum_of (λ u. get_or l.x-items u 0) l.x-index % 2 ^ 64
