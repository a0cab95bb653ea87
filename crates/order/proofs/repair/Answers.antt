-- Each test says what the law of its answer asks (Answer.antt); where all pass, what was written is the file and its report.
use mathlib.Core.Path.{refl, sym, ◌∙◌}
use Rattle.order.proofs.Answer.{places_near, rooms, no_order, not_whole, no_room, file_rewritten}
use Rattle.order.proofs.repair.Goals as goal

pub returns-then-not-is_order : goal.returns-then-not-is_order
returns-then-not-is_order c =
    let a = c.args in
    let left = no_order a.order.now a.file.now a.out.now a.report.now (sym c.is_order.ensures ∙ c.if-not-is_order.true) refl in
    record { value = left.0; out_after = left.1.0; report_after = left.1.1 }

pub returns-then-file-ne0 : goal.returns-then-file-ne0
returns-then-file-ne0 c =
    let a = c.args in
    let left = not_whole a.order.now a.file.now a.out.now a.report.now (sym c.is_order.ensures ∙ c.if-not-is_order.false) c.if-file-ne0.true refl in
    record { value = left.0; out_after = left.1.0; report_after = left.1.1 }

pub returns-then-out-file : goal.returns-then-out-file
returns-then-out-file c =
    let a = c.args in
    let left = no_room a.order.now a.file.now a.out.now a.report.now (sym c.is_order.ensures ∙ c.if-not-is_order.false) c.if-file-ne0.false c.if-out-file.true refl in
    record { value = left.0; out_after = left.1.0; report_after = left.1.1 }

pub rewrite-requires : goal.rewrite-requires
rewrite-requires c =
    let a = c.args in
    let fits = rooms a.file.now a.out.now a.report.now c.if-out-file.false in
    (fits.0, fits.1, places_near a.order.now a.file.now c.places_of-places.result c.places_of-places.ensures (sym c.is_order.ensures ∙ c.if-not-is_order.false))

pub returns : goal.returns
returns c =
    let a = c.args in
    let wrote = c.rewrite.ensures in
    let left = file_rewritten a.order.now a.file.now a.out.now a.report.now (sym c.is_order.ensures ∙ c.if-not-is_order.false) c.if-file-ne0.false c.if-out-file.false
    c.places_of-places.result c.places_of-places.ensures wrote.value wrote.out_after wrote.report_after in
    record { value = left.0; out_after = left.1.0; report_after = left.1.1 }
