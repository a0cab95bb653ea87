-- The run decides; where it accepts nothing the image stays.
use mathlib.Core.Path.{◌≡◌, ap, ◌∙◌}
use lib.ListN.{length}
use Rattle.run.specs.History.{records_of, outcome_of}
use Rattle.run.specs.Outcome.{Outcome, outcome_numbers}
use Rattle.calls.specs.Calls.{ended_over, run_here}
use Rattle.calls.proofs.Takes.{ran_image, image_ended}
use Rattle.calls.proofs.run.Goals as goal

pub returns : goal.returns
unfolding run_here outcome_of
returns c =
    let a = c.args in
    let done : outcome_numbers c.run-end.result ≡ outcome_of (run_here a.image.now a.records.now (length a.out.now)) = rw c.read.ensures at c.run-end.ensures.value in
    let e = c.end_run.ensures in
    record {
      value = e.value ∙ ap (λ (o : Outcome). o.refusal) done;
      image_after =
          e.image_after
          ∙ ap (λ (o : Outcome). ended_over o a.image.now) done
          ∙ image_ended a.image.now (run_here a.image.now a.records.now (length a.out.now)) (ran_image a.image.now (records_of a.records.now) (length a.out.now));
      out_after = rw c.read.ensures at c.run-end.ensures.out_after;
      accepted_after = e.accepted_after ∙ ap (λ (o : Outcome). o.accepted) done;
      work_after = e.work_after ∙ ap (λ (o : Outcome). o.work) done;
    }
