-- A run of one record is the step: what it answers, and what it leaves in the totals and in the output.
use mathlib.Core.Path.{◌≡◌, refl, sym, ap, ◌∙◌}
use mathlib.Core.Bool.{Bool, true, false}
use mathlib.Core.List.{List, [], ◌∷◌, ◌++◌, append-nil}
use Prim.Native.Nat.{ℕ, ◌-◌}
use native.Mathlib.Decide.{ℕ_discrete}
use borrow.Author.Tests.{ne_eqb}
use lib.ListN.{length, get_or, drop}
use Rattle.numbers.specs.Bytes.{number_at}
use Rattle.numbers.specs.Eight.{eight}
use Rattle.waste.specs.Kind.{is_yearly}
use Rattle.record.specs.Fields.{record_bytes, period_of, kind_of}
use Rattle.output.proofs.Laws.{Says}
use Rattle.ledger.specs.Take.{accepted_of, refused_of, output_record, output_fields}
use Rattle.ledger.specs.declared.book.Ledger.{Ledger}
use Rattle.ledger.specs.Answer.{Answer}
use Rattle.ledger.proofs.Accepted.{accepted_meets}
use Rattle.ledger.proofs.Fits.{output_says}
use Rattle.ledger.proofs.Step.{released_between}
use Rattle.ledger.proofs.Take.{output_length}
use Rattle.run.specs.History.{outputs, records_of, Run, out_of, outcome_of}
use Rattle.run.proofs.History.{one_record, stopped, on_from, accepted_turn}
use Rattle.run.proofs.OneRecord.{no_record}
use Rattle.year_slots.specs.Slots.{totals_bytes, differs}
use Rattle.yearly_totals.specs.Months.{month_refusal, take_month_of, month_turn_of, month_totals, written_month, totals_after, month_run_of}
use Rattle.yearly_totals.specs.YearRun.{as_monthly}
use Rattle.yearly_totals.proofs.Refusals.{month_refused, taken_meets}
use Rattle.yearly_totals.proofs.Turns.{taken_month, not_taken_month, stays_then, then_length, totals_with, month_goes_on, month_stops, month_ends}

module _ (l : Ledger) (totals bytes out : List ℕ) where
  abbrev room : ℕ
  room = length out

  abbrev q : ℕ
  q = month_refusal l totals bytes room

  -- A refused record comes back as it was offered.
  pub refused_month : (k : ℕ) → q ≡ k → (k ≡ 0 → ⊥)
      → (refused_of l k ≡ take_month_of l totals bytes room) × ((totals ≡ month_totals l totals bytes room) × (out ≡ written_month l totals bytes out))
  unfolding month_totals written_month refused_of
  refused_month k e ne =
      let some : q ≡ 0 → ⊥ = λ z. ne (sym e ∙ z) in
      let not_taken = not_taken_month l totals bytes room some in (
        sym (not_taken ∙ ap (refused_of l) e),
        (sym (stays_then totals (month_turn_of l totals (record { bytes = bytes; room = room })) (λ z. some (sym (ap (λ (a : Answer). a.refusal) not_taken) ∙ z))), simp (ne_eqb q 0 some)),
      )

  pub no_month : length totals ≡ totals_bytes → (length bytes ≡ record_bytes → ⊥) → q ≡ 1
  unfolding as_monthly
  no_month size e = month_refused l totals bytes room size ∙ rw (no_record l bytes out e) (by (is_yearly (kind_of bytes)))
    where
      by : (y : Bool) → as_monthly 1 y (differs totals (period_of bytes)) ≡ 1
      by true = refl
      by false = refl

  module _ (size : length totals ≡ totals_bytes) (whole : length bytes ≡ record_bytes) where
    abbrev pub one_run : Run
    one_run = month_run_of l totals (records_of bytes) room

    one_taken : q ≡ 0 → one_run ≡ on_from (accepted_turn l bytes ∷ []) (stopped (accepted_of l bytes).ledger 0)
    one_taken e =
        rw (one_record bytes whole)
        (month_goes_on l totals size bytes [] room e ∙ rw (month_ends (accepted_of l bytes).ledger (totals_with totals l bytes) (then_length totals (accepted_turn l bytes) ∙ size)))

    one_refused : (q ≡ 0 → ⊥) → one_run ≡ stopped l q
    one_refused e = rw (one_record bytes whole) (month_stops l totals size bytes [] room q refl e)

    pub one_refusal : (outcome_of one_run).refusal ≡ q
    unfolding outcome_of
    one_refusal =
        elim (ℕ_discrete q 0) [
          | yes e ↦ ap (λ (r : Run). r.refusal) (one_taken e) ∙ sym e
          | no e ↦ ap (λ (r : Run). r.refusal) (one_refused e)
        ]

    pub one_ledger : q ≡ 0 → (outcome_of one_run).ledger ≡ (accepted_of l bytes).ledger
    unfolding outcome_of
    one_ledger e = ap (λ (r : Run). r.ledger) (one_taken e)

    -- what is left in both buffers, refused or not
    pub one_left : (totals_after totals one_run.accepted ≡ month_totals l totals bytes room) × (out_of one_run out ≡ written_month l totals bytes out)
    unfolding totals_after month_totals out_of outputs written_month
    one_left =
        elim (ℕ_discrete q 0) [
          | yes e ↦
              let a = accepted_of l bytes in
              rw (one_taken e, append-nil, output_length a, taken_month l totals bytes room e, e) (refl, refl)
          | no e ↦ let r = refused_month q refl e in rw (one_refused e) (r.1.0, r.1.1)
        ]

    -- the output of an accepted one says its numbers
    pub one_says : {out' : List ℕ} → q ≡ 0 → out' ≡ out_of one_run out → Says (output_fields (accepted_of l bytes)) out'
    unfolding written_month
    one_says e written =
        let a = accepted_meets l bytes room (taken_meets l totals bytes room e).none in
        let is : written_month l totals bytes out ≡ output_record (accepted_of l bytes) ++ drop record_bytes out = rw e in
        rw (written ∙ one_left.1 ∙ is) (output_says l bytes a (drop record_bytes out))

  -- What is read back and what was released since are the answer.
  pub answer_is : {l' : Ledger} {releases out' : List ℕ} {x0 figure bound : ℕ} → q ≡ 0 → l' ≡ (accepted_of l bytes).ledger → Says (output_fields (accepted_of l bytes)) out'
      → releases ≡ eight (λ t. get_or l'.released t 0 - get_or l.released t 0) → x0 ≡ number_at 8 out' 8 → figure ≡ number_at 8 out' 16 → bound ≡ number_at 8 out' 24
      → record { ledger = l'; refusal = 0; releases = releases; x0 = x0; figure = figure; bound = bound } ≡ take_month_of l totals bytes room
  unfolding accepted_of output_fields
  answer_is e ledger says releases x0 figure bound =
      rw (taken_month l totals bytes room e, releases, ledger, x0, figure, bound, says.x0, says.figure, says.bound, released_between l bytes)
