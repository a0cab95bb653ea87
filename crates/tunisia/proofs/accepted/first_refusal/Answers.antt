-- The run of the first record alone has its refusal.
use mathlib.Core.Path.{◌≡◌, ap, ◌∙◌}
use lib.ListN.{take}
use Rattle.std.proofs.lemmas.List.{take_min}
use Rattle.record.specs.Fields.{record_bytes}
use Rattle.tunisia.specs.Walk.{YearsTaken, taken_over}
use Rattle.tunisia.proofs.ByYear.{first_run}
use Rattle.tunisia.proofs.accepted.first_refusal.Goals as goal

pub returns : goal.returns
unfolding taken_over
returns c =
    let file = c.args.file.now in
    -- the bytes up to the end are the first record, or all
    let first : take c.min-end.result file ≡ take record_bytes file = rw c.min-end.ensures (take_min record_bytes file) in
    ap (λ (taken : YearsTaken). taken.refused) c.run_years.ensures.value ∙ rw first (first_run file c.requires)
