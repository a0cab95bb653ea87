-- The slot that is read decides.
use native.Mathlib.Omega.{arith}
use Rattle.yearly_totals.specs.YearRun.{are_small, at_once}
use Rattle.yearly_totals.proofs.year.at_once.Goals as goal

pub returns-then-slot : goal.returns-then-slot
unfolding are_small at_once
returns-then-slot c = (rw (← c.read-slot.ensures.0, c.if-slot.true), omega arith)

pub returns : goal.returns
unfolding are_small at_once
returns c = (rw (← c.read-slot.ensures.0, c.if-slot.false), omega arith)
