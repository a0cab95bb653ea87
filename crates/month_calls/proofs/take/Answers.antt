-- The step on the part that is lent decides; the totals, the answer and the image follow it.
use mathlib.Core.Path.{◌≡◌, sym, ap, ◌∙◌}
use native.Mathlib.Omega.{arith}
use lib.ListN.{length}
use Rattle.ledger.specs.Answer.{Answer}
use Rattle.ledger.specs.Numbers.{answer_numbers}
use Rattle.image.specs.Image.{ledger_of}
use Rattle.calls.specs.Calls.{answered, image_over}
use Rattle.calls.proofs.Takes.{room_most, part_length, image_kept}
use Rattle.month_calls.specs.MonthCalls.{take_month_here}
use Rattle.month_calls.proofs.Months.{step_is, totals_is, output_left, image_of_lem}
use Rattle.month_calls.proofs.take.Goals as goal

pub slice_bounds-take_month-end : goal.slice_bounds-take_month-end
slice_bounds-take_month-end c = omega (arith, c.room-room.ensures, room_most (length c.args.out.now) (length c.args.answer.now))

pub slice_bounds-take_month-end-2 : goal.slice_bounds-take_month-end-2
slice_bounds-take_month-end-2 c = sym (part_length c.args.out.now c.args.answer.now c.room-room.result c.room-room.ensures)

pub returns : goal.returns
returns c =
    let a = c.args in
    let room = c.room-room in
    let l = ledger_of a.image.now in
    let step = c.take_month-taken.ensures in
    let here = take_month_here a.image.now a.totals.now a.«record».now a.out.now a.answer.now in
    let done : answer_numbers l c.take_month-taken.result ≡ here =
    (rw c.read.ensures at step.value) ∙ step_is a.image.now a.totals.now a.«record».now a.out.now a.answer.now room.result room.ensures in
    let e = c.keep.ensures in
    record {
      value = e.value l ∙ ap (λ (x : Answer). x.refusal) done;
      image_after =
          e.image_after l
          ∙ ap (λ (x : Answer). image_over x a.image.now) done
          ∙ image_kept here a.image.now (image_of_lem a.image.now a.totals.now a.«record».now a.out.now a.answer.now room.result room.ensures);
      totals_after = (rw c.read.ensures at step.totals_after) ∙ totals_is a.image.now a.totals.now a.«record».now a.out.now a.answer.now room.result room.ensures;
      out_after = output_left a.image.now a.totals.now a.«record».now a.out.now a.answer.now room.result room.ensures (rw c.read.ensures at step.out_after);
      answer_after = e.answer_after l ∙ ap (λ (x : Answer). answered x a.answer.now) done;
    }
