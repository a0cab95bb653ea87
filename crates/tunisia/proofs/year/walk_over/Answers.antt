-- Before each place, the whole walk is the walk from here over the records that are left.
use mathlib.Core.Path.{◌≡◌, refl, sym, ◌∙◌}
use Prim.Native.Nat.{suc, ◌+◌, ◌-◌, ◌*◌}
use native.Mathlib.Nat.{add-sub_cancel_left}
use native.Mathlib.Omega.{arith}
use Rattle.record.specs.Fields.{record_bytes}
use Rattle.tunisia.proofs.Steps.{over_next, ready_next, over_none}
use Rattle.tunisia.proofs.year.walk_over.Goals as goal

pub loop-place-init : goal.loop-place-init
loop-place-init c = let all : c.args.count - 0 ≡ c.args.count = omega arith in rw all (refl, c.requires.all_ready)

pub walk_on-next-requires : goal.walk_on-next-requires
walk_on-next-requires c =
    let loop = c.loop-place in
    let a = c.args in
    let at = record_bytes * loop.place in
    let left = a.count - (loop.place + 1) in
    let some : a.count - loop.place ≡ suc left = omega (arith, c.loop-place-test.true) in
    rw (add-sub_cancel_left at record_bytes) (ready_next a.stretch.first a.stretch.last left at loop.walked a.file.now a.out.now (rw some at loop.invariant.1)).0

pub loop-place-preserved : goal.loop-place-preserved
loop-place-preserved c =
    let loop = c.loop-place in
    let a = c.args in
    let at = record_bytes * loop.place in
    let left = a.count - (loop.place + 1) in
    let some : a.count - loop.place ≡ suc left = omega (arith, c.loop-place-test.true) in
    let on : record_bytes * (loop.place + 1) ≡ at + record_bytes = omega arith in
    let x0 = c.read-x0.ensures.0 in (
      (rw some at loop.invariant.0)
          ∙ rw (c.walk_on-next.ensures, add-sub_cancel_left at record_bytes, x0, on)
          (over_next a.stretch.first a.stretch.last left at loop.walked a.file.now a.out.now),
      rw (c.walk_on-next.ensures, add-sub_cancel_left at record_bytes, x0, on)
          (ready_next a.stretch.first a.stretch.last left at loop.walked a.file.now a.out.now (rw some at loop.invariant.1)).1,
    )

-- no record is left
pub returns : goal.returns
returns c =
    let none : c.args.count - c.loop-place.place ≡ 0 = omega (arith, c.loop-place-test.false) in
    sym (c.loop-place.invariant.0 ∙ rw none (over_none _ _ _ _ _))
