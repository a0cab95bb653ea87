-- `MidMonths` holds before each month; each turn and the end is a law of it.
use Prim.Native.Nat.{◌+◌, ◌-◌, ◌*◌}
use Rattle.record.specs.Fields.{record_bytes}
use Rattle.year_slots.proofs.Months.{MidMonths}
use Rattle.year_slots.proofs.add_months.Given as goal

abbrev pub invariant-loop-month : goal.invariant-loop-month
invariant-loop-month l = MidMonths l.initial.totals l.n l.out l.count l.totals (l.n + l.month) (record_bytes * l.month) (l.count - l.month)
