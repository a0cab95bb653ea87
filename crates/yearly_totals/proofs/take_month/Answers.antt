-- A run of one record is the step; its releases are what was released since, and its numbers are read back from its output.
use mathlib.Core.Path.{◌≡◌, refl, sym, ap, ◌∙◌}
use mathlib.Core.List.{List}
use Prim.Native.Nat.{ℕ, ◌≤◌}
use native.Mathlib.Decide.{ℕ_discrete}
use native.Mathlib.Omega.{arith}
use borrow.Author.Tests.{eq-eqb, ne_eqb}
use lib.ListN.{length}
use Rattle.record.specs.Fields.{record_bytes}
use Rattle.output.proofs.Laws.{Says}
use Rattle.ledger.specs.Take.{accepted_of, output_fields}
use Rattle.ledger.specs.declared.book.Ledger.{Ledger}
use Rattle.ledger.proofs.Accepted.{has_room}
use Rattle.ledger.proofs.Step.{released_after}
use Rattle.run.specs.History.{records_of, out_of, outcome_of}
use Rattle.run.specs.Outcome.{Outcome, one_answer}
use Rattle.year_slots.specs.Slots.{totals_bytes}
use Rattle.yearly_totals.specs.Months.{month_refusal, take_month_of, month_totals, written_month, totals_after, month_run_of}
use Rattle.yearly_totals.proofs.Refusals.{wrong_length, taken_meets}
use Rattle.yearly_totals.proofs.OneMonth.{refused_month, no_month, one_refusal, one_ledger, one_left, one_says, answer_is}
use Rattle.yearly_totals.proofs.take_month.Goals as goal

-- the run of the record: its refusal, what is left in both buffers, and what an accepted one says
record Ran (l : Ledger) (totals bytes out : List ℕ) (o : Outcome) (totals' out' : List ℕ) : Type 0 where
  refusal : o.refusal ≡ month_refusal l totals bytes (length out)
  totals_after : totals' ≡ month_totals l totals bytes (length out)
  out_after : out' ≡ written_month l totals bytes out
  ledger : o.refusal ≡ 0 → o.ledger ≡ (accepted_of l bytes).ledger
  says : o.refusal ≡ 0 → Says (output_fields (accepted_of l bytes)) out'
  room : o.refusal ≡ 0 → record_bytes ≤ length out

one_ran : (l : Ledger) (totals bytes out : List ℕ) {o : Outcome} {totals' out' : List ℕ} → length totals ≡ totals_bytes → length bytes ≡ record_bytes
    → let r = month_run_of l totals (records_of bytes) (length out) in
    o ≡ outcome_of r → totals' ≡ totals_after totals r.accepted → out' ≡ out_of r out → Ran l totals bytes out o totals' out'
one_ran l totals bytes out size whole value adds writes =
    let refusal = ap (λ (o : Outcome). o.refusal) value ∙ one_refusal l totals bytes out size whole in
    let left = one_left l totals bytes out size whole in
    record {
      refusal = refusal;
      totals_after = adds ∙ left.0;
      out_after = writes ∙ left.1;
      ledger = λ none. ap (λ (o : Outcome). o.ledger) value ∙ one_ledger l totals bytes out size whole (sym refusal ∙ none);
      says = λ none. one_says l totals bytes out size whole (sym refusal ∙ none) writes;
      room = λ none. has_room l bytes (length out) (taken_meets l totals bytes (length out) (sym refusal ∙ none)).none;
    }

answered : (l : Ledger) (totals bytes out : List ℕ) {o : Outcome} {totals' out' : List ℕ} → length totals ≡ totals_bytes → length bytes ≡ record_bytes
    → Ran l totals bytes out o totals' out' → one_answer l o out' ≡ take_month_of l totals bytes (length out)
unfolding one_answer
answered l totals bytes out {o} size whole ran =
    elim (ℕ_discrete o.refusal 0) [
      | yes none ↦
          simp (eq-eqb o.refusal 0 none)
          (answer_is l totals bytes out (sym ran.refusal ∙ none) (ran.ledger none) (ran.says none) refl refl refl refl)
      | no some ↦ simp (ne_eqb o.refusal 0 some) (refused_month l totals bytes out o.refusal (sym ran.refusal) some).0
    ]

pub returns-then-totals-ne-BYTES : goal.returns-then-totals-ne-BYTES
returns-then-totals-ne-BYTES c =
    let a = c.args in
    let r = refused_month a.ledger a.totals.now a.bytes.now a.out.now 28 (wrong_length a.ledger a.totals.now a.bytes.now (length a.out.now) c.if-totals-ne-BYTES.true) (omega arith) in
    record { value = r.0; totals_after = r.1.0; out_after = r.1.1 }

pub returns-then-bytes-ne-BYTES : goal.returns-then-bytes-ne-BYTES
returns-then-bytes-ne-BYTES c =
    let a = c.args in
    let r = refused_month a.ledger a.totals.now a.bytes.now a.out.now 1 (no_month a.ledger a.totals.now a.bytes.now a.out.now c.if-totals-ne-BYTES.false c.if-bytes-ne-BYTES.true) (omega arith) in
    record { value = r.0; totals_after = r.1.0; out_after = r.1.1 }

pub taken-requires : goal.taken-requires
unfolding accepted_of
taken-requires c =
    let a = c.args in
    let e = c.run_months-end.ensures in
    let ran = one_ran a.ledger a.totals.now a.bytes.now a.out.now c.if-totals-ne-BYTES.false c.if-bytes-ne-BYTES.false e.value e.totals_after e.out_after in
    record {
      out_value = λ none. omega (arith, ran.room none);
      released_value = λ none t place. rw (ran.ledger none) (omega (arith, released_after a.ledger a.bytes.now t place));
    }

pub returns : goal.returns
returns c =
    let a = c.args in
    let e = c.run_months-end.ensures in
    let ran = one_ran a.ledger a.totals.now a.bytes.now a.out.now c.if-totals-ne-BYTES.false c.if-bytes-ne-BYTES.false e.value e.totals_after e.out_after in
    record {
      value = c.taken.ensures ∙ answered a.ledger a.totals.now a.bytes.now a.out.now c.if-totals-ne-BYTES.false c.if-bytes-ne-BYTES.false ran;
      totals_after = ran.totals_after;
      out_after = ran.out_after;
    }
