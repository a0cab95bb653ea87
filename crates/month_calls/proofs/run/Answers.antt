-- The run decides; where it accepts nothing the image stays.
use mathlib.Core.Path.{◌≡◌, ap, ◌∙◌}
use lib.ListN.{length}
use Rattle.run.specs.History.{records_of, outcome_of}
use Rattle.run.specs.Outcome.{Outcome, outcome_numbers}
use Rattle.calls.specs.Calls.{ended_over}
use Rattle.calls.proofs.Takes.{image_ended}
use Rattle.month_calls.specs.MonthCalls.{run_months_here}
use Rattle.month_calls.proofs.Months.{ran_image}
use Rattle.month_calls.proofs.run.Goals as goal

pub returns : goal.returns
unfolding run_months_here outcome_of
returns c =
    let a = c.args in
    let ran = c.run_months-end.ensures in
    let done : outcome_numbers c.run_months-end.result ≡ outcome_of (run_months_here a.image.now a.totals.now a.records.now (length a.out.now)) = rw c.read.ensures at ran.value in
    let e = c.end_run.ensures in
    record {
      value = e.value ∙ ap (λ (o : Outcome). o.refusal) done;
      image_after =
          e.image_after
          ∙ ap (λ (o : Outcome). ended_over o a.image.now) done
          ∙ image_ended a.image.now (run_months_here a.image.now a.totals.now a.records.now (length a.out.now))
          (ran_image a.image.now a.totals.now (records_of a.records.now) (length a.out.now));
      totals_after = rw c.read.ensures at ran.totals_after;
      out_after = rw c.read.ensures at ran.out_after;
      accepted_after = e.accepted_after ∙ ap (λ (o : Outcome). o.accepted) done;
      work_after = e.work_after ∙ ap (λ (o : Outcome). o.work) done;
    }
