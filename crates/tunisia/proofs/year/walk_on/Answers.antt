-- The year's numbers are what the calls ensure; what a record asks for leaves room for them.
use mathlib.Core.Path.{◌≡◌, ◌∙◌}
use mathlib.Core.Bool.{cond}
use Prim.Native.Nat.{◌+◌}
use native.Mathlib.Omega.{arith}
use lib.ListN.{get_or}
use Rattle.numbers.specs.Fault.{between}
use Rattle.figure.proofs.Laws.{b_of_most}
use Rattle.reductions.specs.Year.{reference_of, project_of, project_bound, reference_bound, bounds_of, with_year}
use Rattle.tunisia.specs.Walk.{next_year, walked_on}
use Rattle.tunisia.proofs.year.walk_on.Goals as goal
use Rattle.tunisia.proofs.year.walk_on.Goals.{then-contains, else-contains}

pub with_year-sums-requires-clause-x0_bound : goal.with_year-sums-requires-clause-x0_bound
with_year-sums-requires-clause-x0_bound c =
    let walked = c.args.walked in
    let small = b_of_most walked.n (λ t. get_or walked.brought t 0) (omega (arith, c.requires.few)) (λ t place. omega (arith, c.requires.brings t place)) in
    rw c.margins.ensures
    (omega (arith, c.requires.reference), omega (arith, c.requires.project), omega (arith, c.requires.bound, c.requires.few, small))

-- what the stretch then adds up to
pub returns : goal.returns
unfolding walked_on with_year next_year reference_of project_of bounds_of reference_bound project_bound
returns c =
    let a = c.args in
    let sums_are : c.if-contains.sums ≡ cond (between a.stretch.first (a.walked.n + 1) a.stretch.last) (with_year a.walked.sums (next_year a.walked a.bytes.now)) a.walked.sums
    = elim c.if-contains.branch [
      | then-contains w ↦ w.sums-is ∙ w.with_year-sums.ensures ∙ rw (w.margins.ensures, w.of.ensures, ← c.contains.ensures, w.if-contains.true)
      | else-contains w ↦ w.sums-is ∙ rw (← c.contains.ensures, w.if-contains.false)
    ] in
    rw (sums_are, c.deposited.ensures)
