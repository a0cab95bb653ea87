-- `MidWhole` holds at the head of the loop; each stretch and the end is a law of it.
use Rattle.std.proofs.Common.{refl, ap, ◌∙◌}
use native.Mathlib.Omega.{arith}
use lib.ListN.{length}
use Rattle.std.specs.Slice.Iter.{chunks_rest}
use Rattle.run.specs.History.{out_of}
use Rattle.refusal.proofs.Numbers.{number_some}
use Rattle.stretches.proofs.Stretches.{whole_starts, part_run, next_worked, whole_goes_on, whole_ends, output_size}
use Rattle.stretches.proofs.whole_run.Goals as goal

pub loop-part-init : goal.loop-part-init
loop-part-init c =
    let its = c.into_iter-part-iterator.ensures.into_iter_gives in
    let chunks = c.chunks-part-items.ensures in (rw (its, chunks.rest, c.fresh-ledger.ensures) (whole_starts c.args.file.now), rw its chunks.size, refl)

pub overflow_add-work : goal.overflow_add-work
overflow_add-work c =
    let h = c.loop-part.invariant in
    let next = c.in-Some.ensures.steps.1 in
    let work = next_worked h.0 c.in-Some.part.now (chunks_rest c.next.new.self) next.0 h.1 next.1 h.2 c.run-ran.ensures.value in omega (arith, work.0, work.1)

pub returns-in-Some-refusal : goal.returns-in-Some-refusal
returns-in-Some-refusal c =
    let h = c.loop-part.invariant in
    let next = c.in-Some.ensures.steps.1 in
    let some = c.in-Some-refusal in
    let mid = whole_goes_on h.0 c.in-Some.part.now (chunks_rest c.next.new.self) next.0 h.1 next.1 h.2 c.run-ran.ensures.value in
    rw some.is at (whole_ends mid (λ z. absurd (number_some some.why (rw some.is at z))))

pub loop-part-preserved : goal.loop-part-preserved
loop-part-preserved c =
    let loop = c.loop-part in
    let h = loop.invariant in
    let steps = c.in-Some.ensures.steps in
    let next = steps.1 in
    let part = c.in-Some.part.now in
    let rest = chunks_rest c.next.new.self in
    let ran = c.run-ran.ensures in
    let left = chunks_rest loop.part-iterator in (
      rw c.in_default.is at (whole_goes_on h.0 part rest next.0 h.1 next.1 h.2 ran.value),
      steps.0 ∙ h.1,
      ap length (ran.out_after ∙ ap (λ r. out_of r loop.out) (part_run loop.ledger left part rest next.0 h.1 next.1 h.2)) ∙ output_size loop.ledger left h.0.few loop.out h.2,
    )

pub returns : goal.returns
returns c = whole_ends c.loop-part.invariant.0 (λ z. c.in-None.ensures.steps.1.0)
