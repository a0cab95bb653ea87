-- A buffer of another length refuses the whole run; else its bytes are those of the array.
use mathlib.Core.Path.{refl}
use lib.ListN.{length}
use Rattle.run.specs.History.{records_of, outputs, work_over, out_of, outcome_of}
use Rattle.yearly_totals.specs.Months.{totals_after}
use Rattle.yearly_totals.proofs.Turns.{wrong_run}
use Rattle.yearly_totals.proofs.run_months.Goals as goal

pub returns-in_default : goal.returns-in_default
unfolding outcome_of work_over totals_after out_of outputs
returns-in_default c =
    let a = c.args in
    rw (wrong_run a.ledger a.totals.now (records_of a.records.now) (length a.out.now) c.in_default.ensures.cases)
    (record { value = refl; totals_after = refl; out_after = refl })

pub returns : goal.returns
returns c =
    let same = c.in-Some.ensures.cases.same in
    let e = c.run_file.ensures in
    record { value = rw same at e.value; totals_after = rw same at e.totals_after; out_after = rw same at e.out_after }
