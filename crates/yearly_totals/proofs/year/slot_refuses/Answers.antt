-- A full ledger has no next month.
use borrow.Author.Tests.{lt-ltb, le-ltb}
use Rattle.yearly_totals.specs.YearRun.{slot_refuses}
use Rattle.yearly_totals.proofs.year.slot_refuses.Goals as goal

pub returns-then-n-ge-RECORDS : goal.returns-then-n-ge-RECORDS
unfolding slot_refuses
returns-then-n-ge-RECORDS c = simp (le-ltb _ _ c.if-n-ge-RECORDS.true)

pub returns : goal.returns
unfolding slot_refuses
returns c = rw c.is_other.ensures (simp (lt-ltb _ _ c.if-n-ge-RECORDS.false))
