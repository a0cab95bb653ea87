-- The line of the refusal, which has at most 90 bytes.
use native.Mathlib.Omega.{arith}
use Rattle.line.proofs.LineLaws.{line_is}
use Rattle.lines.proofs.writing.put_refusal.Goals as goal

pub put-requires : goal.put-requires
put-requires c =
    let lent = c.refused.ensures.lendable in record { lendable = lent; len_in_bounds = omega (arith, lent.within, c.requires) }

pub returns : goal.returns
returns c =
    let lent = c.refused.ensures.lendable in
    record { writes = rw (line_is c.refused.ensures.value, c.number.ensures) at c.put.ensures; upper_bound = omega (arith, c.put.ensures.ends, lent.whole, lent.within) }
