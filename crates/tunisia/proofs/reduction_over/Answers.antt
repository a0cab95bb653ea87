-- The sums are those of the accepted years, and small; the grams of a stretch that is not refused are light and few.
use mathlib.Core.Path.{◌≡◌, refl, sym}
use Rattle.reductions.proofs.Sizes.{signed_back}
use Rattle.reductions.proofs.Entries.{addable}
use Rattle.reductions.proofs.Refusals.{number_some}
use Rattle.tunisia.proofs.Answers.{refused_is, answered-is}
use Rattle.tunisia.proofs.Ranges.{with_size}
use Rattle.tunisia.proofs.reduction_over.Goals as goal

pub returns-in-Err-clause-value : goal.returns-in-Err-clause-value
returns-in-Err-clause-value c =
    let a = c.args in
    refused_is a.file.now a.stretch.first a.stretch.last a.electricity.now a.fuel.now c.accepted_years-accepted.ensures.value c.in-Err.ensures (number_some c.in-Err.why)

pub all_grams-requires : goal.all_grams-requires
all_grams-requires c =
    let a = c.args in
    let taken = c.accepted_years-accepted in
    (addable a.stretch.first a.stretch.last taken.result.years a.electricity.now a.fuel.now (sym c.in_default.ensures) taken.ensures.sums_fit.1).0

pub all_grams-requires-2 : goal.all_grams-requires-2
all_grams-requires-2 c =
    let a = c.args in
    let taken = c.accepted_years-accepted in
    (addable a.stretch.first a.stretch.last taken.result.years a.electricity.now a.fuel.now (sym c.in_default.ensures) taken.ensures.sums_fit.1).1

pub returns : goal.returns
returns c =
    let a = c.args in
    let back = signed_back {z = c.less_all-reduction.result} c.less_all-reduction.type_inv in
    let sized =
    with_size a.file.now a.stretch.first a.stretch.last a.electricity.now a.fuel.now
    (answered-is a.file.now a.stretch.first a.stretch.last a.electricity.now a.fuel.now c.accepted_years-accepted.ensures.value c.in_default.ensures refl c.less_all-reduction.ensures
    c.all_grams.ensures.0 c.all_grams-2.ensures.0) in
    record { value = rw back sized.0; reduction_bound = rw back sized.1 }
