-- Before place i of the five the table is filled to it.
use Rattle.std.proofs.Common.{◌+◌, arith}
use Rattle.decay.proofs.ByMonth.{same_place, filled_next}
use Rattle.decay.proofs.month.fill_five.Goals as goal

pub loop-i-preserved : goal.loop-i-preserved
loop-i-preserved c =
    let at = c.loop-i in
    let place = c.args.from in
    (omega arith, same_place (filled_next (place + at.i) at.invariant.1 c.monthly.ensures) (omega arith))
