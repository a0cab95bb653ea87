-- `MidMonths` holds before each month; each turn and the end is a law of it.
use mathlib.Core.Path.{◌≡◌}
use mathlib.Core.List.{List}
use Prim.Native.Nat.{ℕ, suc, ◌+◌, ◌-◌, ◌*◌}
use native.Mathlib.Omega.{arith}
use lib.ListN.{length, drop, take, length-drop}
use lib.Seq.{take_all}
use Rattle.record.specs.Fields.{record_bytes}
use Rattle.year_slots.proofs.Months.{months_start, months_on, months_end}
use Rattle.year_slots.proofs.add_months.Goals as goal

-- the output records that are left
lent : (out : List ℕ) (at : ℕ) → take (length out - at) (drop at out) ≡ drop at out
lent out at = take_all (length out - at) (drop at out) (simp length-drop (omega arith))

pub loop-month-init : goal.loop-month-init
loop-month-init c = months_start c.requires.count_bound c.requires.months_fit

pub add-requires-clause-month_fits : goal.add-requires-clause-month_fits
add-requires-clause-month_fits c =
    let month = c.loop-month.month in
    let left = c.args.count - (month + 1) in
    let more : c.args.count - month ≡ suc left = omega (arith, c.loop-month-test.true) in
    rw (lent c.args.out.now (record_bytes * month)) (months_on c.loop-month.invariant left more).0

pub loop-month-preserved : goal.loop-month-preserved
loop-month-preserved c =
    let month = c.loop-month.month in
    let left = c.args.count - (month + 1) in
    let more : c.args.count - month ≡ suc left = omega (arith, c.loop-month-test.true) in
    let next : c.args.n + (month + 1) ≡ c.args.n + month + 1 = omega arith in
    let on : record_bytes * (month + 1) ≡ record_bytes * month + record_bytes = omega arith in
    rw (c.add.ensures, lent c.args.out.now (record_bytes * month), next, on) (months_on c.loop-month.invariant left more).1

pub returns : goal.returns
returns c =
    let none : c.args.count - c.loop-month.month ≡ 0 = omega (arith, c.loop-month-test.false) in
    months_end (rw none at c.loop-month.invariant)
