-- Either the first record is refused, or the records up to the end of the year are taken as `taken_at_once` has it.
use mathlib.Core.Path.{◌≡◌, refl, sym, ap, ◌∙◌}
use mathlib.Core.Bool.{Bool, false, ◌||◌}
use mathlib.Core.List.{List}
use Prim.Native.Nat.{ℕ, ◌-◌, ◌*◌, ◌≤◌, ◌<◌, min}
use native.Mathlib.Omega.{arith}
use borrow.Author.Rules.{rules}
use lib.ListN.{length, take, drop, length-drop}
use lib.Seq.{length-take-le, take_all}
use Rattle.std.proofs.lemmas.List.{take_min}
use Rattle.waste.specs.Kind.{is_yearly}
use Rattle.record.specs.Fields.{record_bytes, kind_of}
use Rattle.ledger.specs.declared.book.Ledger.{Ledger}
use Rattle.run.specs.History.{outputs, work_over, records_of, run_of, out_of, outcome_of}
use Rattle.run.specs.Outcome.{Outcome}
use Rattle.year_slots.specs.Slots.{totals_bytes}
use Rattle.yearly_totals.specs.Months.{totals_after}
use Rattle.yearly_totals.specs.YearRun.{slot_refuses, at_once}
use Rattle.yearly_totals.proofs.OneYear.{year_refused, has_slot, part, ran, fits_all, can_add, year_ends}
use Rattle.yearly_totals.proofs.year.run_year.Goals as goal

-- the part that is run, and what the plain run answers and writes
record RestOfYear (l : Ledger) (totals file out : List ℕ) (end : ℕ) (o : Outcome) (out' : List ℕ) : Type 0 where
  size : length totals ≡ totals_bytes
  some : 0 < length file
  goes : (slot_refuses totals l.n || is_yearly (kind_of file)) ≡ false
  in_file : end ≤ length file
  part_is : take end file ≡ part l totals file (length out) size some goes
  answers : o ≡ outcome_of (ran l totals file (length out) size some goes)
  writes : out' ≡ out_of (ran l totals file (length out) size some goes) out
  within : record_bytes * o.accepted ≤ length (take end file)

rest_of_year : (l : Ledger) (totals file out : List ℕ) {end most kind : ℕ} {refuses : Bool} {o : Outcome} {out' : List ℕ} → length totals ≡ totals_bytes → 0 < length file
    → refuses ≡ slot_refuses totals l.n → kind ≡ kind_of file → (refuses || is_yearly kind) ≡ false → most ≡ at_once totals l.n → end ≡ min (record_bytes * most) (length file)
    → o ≡ outcome_of (run_of l (records_of (take end file)) (length out)) → out' ≡ out_of (run_of l (records_of (take end file)) (length out)) out
    → RestOfYear l totals file out end o out'
unfolding outcome_of
rest_of_year l totals file out {end} {most} size some r k test m e answers writes =
    let goes = rw (r, k) at test in
    let is : take end file ≡ take (record_bytes * at_once totals l.n) file = rw (e, m) (take_min (record_bytes * at_once totals l.n) file) in
    let answers = rw is at answers in
    record {
      size = size;
      some = some;
      goes = goes;
      in_file = omega (arith, e);
      part_is = is;
      answers = answers;
      writes = rw is at writes;
      within = rw (answers, is) (fits_all l totals file (length out) size some goes).1;
    }

pub returns-then-refuses-yearly : goal.returns-then-refuses-yearly
unfolding outcome_of work_over totals_after out_of outputs
returns-then-refuses-yearly c =
    let a = c.args in
    let stops = year_refused a.ledger a.totals.now a.records.now (length a.out.now) (search rules) c.requires
    (rw (← c.slot_refuses-refuses.ensures, ← c.kind-kind.ensures, ← c.is_yearly-yearly.ensures) c.if-refuses-yearly.true) in
    rw (stops, c.as_monthly.ensures, c.first_refusal-refusal.ensures, c.slot_refuses-refuses.ensures, c.is_yearly-yearly.ensures, c.kind-kind.ensures)
    (record { value = refl; totals_after = refl; out_after = refl })

pub at_once-most-requires : goal.at_once-most-requires
at_once-most-requires c =
    let a = c.args in
    let goes = rw (c.slot_refuses-refuses.ensures, c.is_yearly-yearly.ensures, c.kind-kind.ensures) at c.if-refuses-yearly.false in
    (has_slot a.ledger a.totals.now a.records.now (length a.out.now) (search rules) c.requires goes).0

pub slice_bounds-part-end : goal.slice_bounds-part-end
slice_bounds-part-end c =
    let file = c.args.records.now in
    sym (length-take-le c.min-end.result file (omega (arith, c.min-end.ensures)))

pub add_months-requires : goal.add_months-requires
add_months-requires c =
    let a = c.args in
    let r = rest_of_year c.args.ledger c.args.totals.now c.args.records.now c.args.out.now (search rules) c.requires c.slot_refuses-refuses.ensures c.kind-kind.ensures (rw c.is_yearly-yearly.ensures at c.if-refuses-yearly.false) c.at_once-most.ensures.0 c.min-end.ensures c.run-ran.ensures.value c.run-ran.ensures.out_after in
    let can = can_add a.ledger a.totals.now a.records.now (length a.out.now) r.size r.some r.goes a.out.now r.answers r.writes refl in
    record { count_bound = can.0; months_fit = can.1 }

pub overflow_mul-ran : goal.overflow_mul-ran
overflow_mul-ran c =
    let r = rest_of_year c.args.ledger c.args.totals.now c.args.records.now c.args.out.now (search rules) c.requires c.slot_refuses-refuses.ensures c.kind-kind.ensures (rw c.is_yearly-yearly.ensures at c.if-refuses-yearly.false) c.at_once-most.ensures.0 c.min-end.ensures c.run-ran.ensures.value c.run-ran.ensures.out_after in
    omega (arith, r.within, r.in_file, length-take-le c.min-end.result c.args.records.now r.in_file)

pub slice_bounds-kind-count : goal.slice_bounds-kind-count
slice_bounds-kind-count c =
    let r = rest_of_year c.args.ledger c.args.totals.now c.args.records.now c.args.out.now (search rules) c.requires c.slot_refuses-refuses.ensures c.kind-kind.ensures (rw c.is_yearly-yearly.ensures at c.if-refuses-yearly.false) c.at_once-most.ensures.0 c.min-end.ensures c.run-ran.ensures.value c.run-ran.ensures.out_after in
    r.within

pub slice_bounds-kind-start : goal.slice_bounds-kind-start
slice_bounds-kind-start c =
    let r = rest_of_year c.args.ledger c.args.totals.now c.args.records.now c.args.out.now (search rules) c.requires c.slot_refuses-refuses.ensures c.kind-kind.ensures (rw c.is_yearly-yearly.ensures at c.if-refuses-yearly.false) c.at_once-most.ensures.0 c.min-end.ensures c.run-ran.ensures.value c.run-ran.ensures.out_after in
    let w = r.within in search rules

pub returns : goal.returns
returns c =
    let a = c.args in
    let r = rest_of_year c.args.ledger c.args.totals.now c.args.records.now c.args.out.now (search rules) c.requires c.slot_refuses-refuses.ensures c.kind-kind.ensures (rw c.is_yearly-yearly.ensures at c.if-refuses-yearly.false) c.at_once-most.ensures.0 c.min-end.ensures c.run-ran.ensures.value c.run-ran.ensures.out_after in
    let at = record_bytes * c.run-ran.result.accepted in
    let p = take c.min-end.result a.records.now in
    let next = c.kind-next.ensures ∙ ap (λ (bs : List ℕ). kind_of bs) (take_all (length p - at) (drop at p) (simp length-drop (omega arith)) ∙ ap (drop at) r.part_is) in
    let ends = year_ends a.ledger a.totals.now a.records.now (length a.out.now) r.size r.some r.goes a.out.now r.answers r.writes c.add_months.ensures next in
    record { value = rw (c.as_monthly-2.ensures, c.is_yearly-next_yearly.ensures) ends.0; totals_after = ends.1.0; out_after = ends.1.1 }
