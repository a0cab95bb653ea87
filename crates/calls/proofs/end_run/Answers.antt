-- Where the run accepts nothing the image stays.
use mathlib.Core.Path.{refl, sym, ◌∙◌}
use native.Mathlib.Omega.{arith}
use Rattle.calls.specs.Calls.{ended_over}
use Rattle.calls.proofs.Takes.{when_zero, when_not}
use Rattle.calls.proofs.end_run.Goals.{then-end-gt0, else-end-gt0}
use Rattle.calls.proofs.end_run.Goals as goal

pub returns : goal.returns
unfolding ended_over
returns c =
    record {
      value = c.number_or_zero.ensures;
      image_after = elim c.if-end-gt0.branch [
        | then-end-gt0 w ↦ w.image-is ∙ w.write.ensures ∙ sym (when_not c.args.end.accepted _ _ (λ z. omega (arith, w.if-end-gt0.true)))
        | else-end-gt0 w ↦ w.image-is ∙ sym (when_zero c.args.end.accepted _ _ (omega (arith, w.if-end-gt0.false)))
      ];
      accepted_after = refl;
      work_after = refl;
    }
