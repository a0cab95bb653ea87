-- `MidYears` holds at the head of the loop; each stretch and the end is a law of it.
use mathlib.Core.Path.{refl}
use Prim.Native.Nat.{◌+◌, ◌-◌, ◌≤◌}
use native.Mathlib.Omega.{arith}
use borrow.Author.Rules.{rules}
use lib.ListN.{length, take, drop, length-take}
use Rattle.refusal.proofs.Numbers.{number_some}
use Rattle.stretches.specs.Stretches.{stretch_bytes}
use Rattle.stretches.proofs.Stretches.{stretch_is}
use Rattle.tunisia.proofs.MidYears.{years_start, output_stays, all_ready, years_go_on, walk_ends}
use Rattle.tunisia.proofs.accepted.run_years.Goals as goal

pub loop-at-init : goal.loop-at-init
loop-at-init c =
    let none = c.default.ensures in (rw c.fresh-ledger.ensures (years_start c.args.stretch.first c.args.stretch.last c.args.file.now none.0 none.1.0 none.1.1), refl)

-- where the stretch ends
pub slice_bounds-walk_over-count : goal.slice_bounds-walk_over-count
slice_bounds-walk_over-count c = (stretch_is c.args.file.now c.loop-at.at c.loop-at.invariant.0.in_file c.stretch_end-end.ensures).on

pub slice_bounds-walk_over-start : goal.slice_bounds-walk_over-start
slice_bounds-walk_over-start c =
    let end = stretch_is c.args.file.now c.loop-at.at c.loop-at.invariant.0.in_file c.stretch_end-end.ensures in
    let a = end.on in
    let b = end.in_file in
    search rules

pub slice_bounds-walk_over-end : goal.slice_bounds-walk_over-end
slice_bounds-walk_over-end c =
    let end = stretch_is c.args.file.now c.loop-at.at c.loop-at.invariant.0.in_file c.stretch_end-end.ensures in
    let b = end.in_file in
    search rules

-- the bytes that are walked over are the stretch's
pub walk_over-on-requires : goal.walk_over-on-requires
walk_over-on-requires c =
    let loop = c.loop-at in
    let ran = c.run_stretch-ran.ensures in
    let end = stretch_is c.args.file.now loop.at loop.invariant.0.in_file c.stretch_end-end.ensures in
    let ready = all_ready loop.invariant.0 loop.out ran.value ran.out_after loop.invariant.1 in
    record { count_in_bounds = rw end.part ready.0; all_ready = rw end.part ready.1 }

pub returns-in-Some : goal.returns-in-Some
returns-in-Some c =
    let loop = c.loop-at in
    let ran = c.run_stretch-ran.ensures in
    let left = drop loop.at c.args.file.now in
    let end = stretch_is c.args.file.now loop.at loop.invariant.0.in_file c.stretch_end-end.ensures in
    let on : loop.at + length (take stretch_bytes left) ≤ c.stretch_end-end.result
    = rw (← end.part) (omega (arith, end.on, length-take (c.stretch_end-end.result - loop.at) left)) in
    let mid = years_go_on loop.invariant.0 loop.out ran.value ran.out_after (rw end.part at c.walk_over-on.ensures) c.stretch_end-end.result on end.in_file end.rest in
    let ends = rw c.in-Some.is at (walk_ends mid (λ z. absurd (number_some c.in-Some.why (rw c.in-Some.is at z)))) in
    record { value = ends.0; sums_fit = ends.1 }

pub loop-at-smaller : goal.loop-at-smaller
loop-at-smaller c =
    let loop = c.loop-at in
    let end = stretch_is c.args.file.now loop.at loop.invariant.0.in_file c.stretch_end-end.ensures in
    omega (arith, end.far c.loop-at-test.true, end.in_file)

pub loop-at-preserved : goal.loop-at-preserved
loop-at-preserved c =
    let loop = c.loop-at in
    let ran = c.run_stretch-ran.ensures in
    let left = drop loop.at c.args.file.now in
    let end = stretch_is c.args.file.now loop.at loop.invariant.0.in_file c.stretch_end-end.ensures in
    let on : loop.at + length (take stretch_bytes left) ≤ c.stretch_end-end.result
    = rw (← end.part) (omega (arith, end.on, length-take (c.stretch_end-end.result - loop.at) left)) in (
      rw c.in_default.is at (years_go_on loop.invariant.0 loop.out ran.value ran.out_after (rw end.part at c.walk_over-on.ensures) c.stretch_end-end.result on end.in_file end.rest),
      output_stays loop.invariant.0 loop.out ran.value ran.out_after loop.invariant.1,
    )

pub returns : goal.returns
returns c =
    let ends = walk_ends c.loop-at.invariant.0 (λ z. omega (arith, c.loop-at-test.false)) in
    record { value = ends.0; sums_fit = ends.1 }
