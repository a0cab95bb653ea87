-- `MidFile` holds at the head of the loop; each year and the end is a law of it.
use mathlib.Core.Path.{◌≡◌, refl, ◌∙◌}
use mathlib.Core.List.{List, ◌++◌}
use Prim.Native.Nat.{ℕ, ◌+◌, ◌-◌, ◌*◌, ◌≤◌, ◌<◌}
use native.Mathlib.Omega.{arith}
use borrow.Author.Rules.{rules}
use lib.ListN.{length, take, drop, length-drop}
use lib.Seq.{take_all}
use Rattle.record.specs.Fields.{record_bytes}
use Rattle.ledger.specs.declared.book.Ledger.{Ledger}
use Rattle.run.specs.History.{out_of, outcome_of}
use Rattle.run.specs.Outcome.{Outcome}
use Rattle.refusal.proofs.Numbers.{number_some}
use Rattle.yearly_totals.specs.Months.{totals_after}
use Rattle.yearly_totals.specs.YearRun.{year_run}
use Rattle.yearly_totals.proofs.Files.{MidFile, file_starts, year_on, moves, work_fits, file_ends}
use Rattle.yearly_totals.proofs.run_file.Goals as goal

-- what is lent to a year: what is left of the file or of the output
left_is : (at : ℕ) (xs : List ℕ) → take (length xs - at) (drop at xs) ≡ drop at xs
left_is at xs = take_all (length xs - at) (drop at xs) (simp length-drop (omega arith))

-- a year from the head of the loop: so many records are in the file, and their work is small
record Year (file : List ℕ) (at accepted work : ℕ) (o : Outcome) (next : Type 0) : Type 0 where
  in_file : at + record_bytes * o.accepted ≤ length file
  counted : record_bytes * (accepted + o.accepted) ≤ length file
  worked : work + o.work ≤ 8 * (accepted + o.accepted)
  less : o.refusal ≡ 0 → length file - (at + record_bytes * o.accepted) < length file - at
  on : next

year : (l₀ : Ledger) (totals₀ file out₀ totals out : List ℕ) (l : Ledger) (at accepted work : ℕ) {o : Outcome} {totals' part : List ℕ}
    → MidFile l₀ totals₀ file out₀ totals out l at accepted 0 work → at < length file
    → let left = take (length file - at) (drop at file) in
    let lent = take (length out - at) (drop at out) in
    let r = year_run l totals left (length lent) in
    o ≡ outcome_of r → totals' ≡ totals_after totals r.accepted → part ≡ out_of r lent
    → Year file at accepted work o
    (MidFile l₀ totals₀ file out₀ totals' (take at out ++ (part ++ drop (length out - at) (drop at out))) o.ledger (at + record_bytes * o.accepted) (accepted + o.accepted) o.refusal (work + o.work))
year l₀ totals₀ file out₀ totals out l at accepted work {o} h more answers adds writes =
    let room : length (drop at out) ≡ length out₀ - at = length-drop at out ∙ omega (arith, h.as_long) in
    let answers = rw (left_is at file, left_is at out, room) at answers in
    let adds = rw (left_is at file, left_is at out, room) at adds in
    let writes = rw (left_is at file, left_is at out, room) at writes in
    let f = work_fits h answers in
    let inside : at + record_bytes * o.accepted ≤ length file = omega (arith, f.1, h.counted, h.accepts) in
    record {
      in_file = inside;
      counted = f.1;
      worked = f.0;
      less = λ none. omega (arith, inside, moves h answers more none);
      on = year_on h answers adds writes;
    }

pub loop-at-init : goal.loop-at-init
loop-at-init c = file_starts c.args.ledger c.args.totals.now c.args.records.now c.args.out.now (search rules)

pub overflow_mul-at : goal.overflow_mul-at
overflow_mul-at c =
    let s = c.args in
    let h = c.loop-at in
    let ran = c.run_year-ran.ensures in
    let y = year s.ledger s.totals.now s.records.now s.out.now h.totals h.out h.ledger h.at h.accepted h.work h.invariant c.loop-at-test.true ran.value ran.totals_after ran.out_after in
    omega (arith, y.in_file)

pub overflow_add-at : goal.overflow_add-at
overflow_add-at c =
    let s = c.args in
    let h = c.loop-at in
    let ran = c.run_year-ran.ensures in
    let y = year s.ledger s.totals.now s.records.now s.out.now h.totals h.out h.ledger h.at h.accepted h.work h.invariant c.loop-at-test.true ran.value ran.totals_after ran.out_after in
    omega (arith, y.in_file)

pub overflow_add-accepted : goal.overflow_add-accepted
overflow_add-accepted c =
    let s = c.args in
    let h = c.loop-at in
    let ran = c.run_year-ran.ensures in
    let y = year s.ledger s.totals.now s.records.now s.out.now h.totals h.out h.ledger h.at h.accepted h.work h.invariant c.loop-at-test.true ran.value ran.totals_after ran.out_after in
    omega (arith, y.counted)

pub overflow_add-work : goal.overflow_add-work
overflow_add-work c =
    let s = c.args in
    let h = c.loop-at in
    let ran = c.run_year-ran.ensures in
    let y = year s.ledger s.totals.now s.records.now s.out.now h.totals h.out h.ledger h.at h.accepted h.work h.invariant c.loop-at-test.true ran.value ran.totals_after ran.out_after in
    omega (arith, y.worked, y.counted)

pub returns-in-Some : goal.returns-in-Some
returns-in-Some c =
    let s = c.args in
    let h = c.loop-at in
    let ran = c.run_year-ran.ensures in
    let y = year s.ledger s.totals.now s.records.now s.out.now h.totals h.out h.ledger h.at h.accepted h.work h.invariant c.loop-at-test.true ran.value ran.totals_after ran.out_after in
    let e = rw c.in-Some.is at (file_ends y.on (λ z. absurd (number_some c.in-Some.why (rw c.in-Some.is at z)))) in
    record { value = e.0; totals_after = e.1.0; out_after = e.1.1 }

pub loop-at-smaller : goal.loop-at-smaller
loop-at-smaller c =
    let s = c.args in
    let h = c.loop-at in
    let ran = c.run_year-ran.ensures in
    let y = year s.ledger s.totals.now s.records.now s.out.now h.totals h.out h.ledger h.at h.accepted h.work h.invariant c.loop-at-test.true ran.value ran.totals_after ran.out_after in
    y.less (rw c.in_default.is refl)

pub loop-at-preserved : goal.loop-at-preserved
loop-at-preserved c =
    let s = c.args in
    let h = c.loop-at in
    let ran = c.run_year-ran.ensures in
    let y = year s.ledger s.totals.now s.records.now s.out.now h.totals h.out h.ledger h.at h.accepted h.work h.invariant c.loop-at-test.true ran.value ran.totals_after ran.out_after in
    rw c.in_default.is at y.on

pub returns : goal.returns
returns c =
    let e = file_ends c.loop-at.invariant (λ z. omega (arith, c.loop-at-test.false)) in
    record { value = e.0; totals_after = e.1.0; out_after = e.1.1 }
