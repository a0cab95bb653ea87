-- The sum of the parts is the quotient, which fits, so both of its parts do.
use borrow.Author.Rules.{rules}
use native.Mathlib.Omega.{arith}
use Rattle.numbers.proofs.Split.{split, rest_most}
use Rattle.numbers.proofs.ratio.mul_div.Goals as goal

pub overflow_mul-result : goal.overflow_mul-result
overflow_mul-result c = omega (arith, split c.args.a c.args.b c.args.c (search rules))

pub overflow_mul-result-2 : goal.overflow_mul-result-2
overflow_mul-result-2 c = omega (arith, rest_most c.args.a c.args.b c.args.c (search rules))

pub overflow_add-result : goal.overflow_add-result
overflow_add-result c = omega (arith, split c.args.a c.args.b c.args.c (search rules))

pub returns : goal.returns
returns c = split c.args.a c.args.b c.args.c (search rules)
