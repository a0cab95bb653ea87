-- A run of one record is the step: what it answers, and what it leaves in the output.
use mathlib.Core.Path.{◌≡◌, refl, sym, ap, ◌∙◌}
use mathlib.Core.List.{List, [], ◌∷◌, append-nil}
use Prim.Native.Nat.{ℕ, ◌<◌, ◌≤◌}
use native.Mathlib.Decide.{ℕ_discrete}
use native.Mathlib.Omega.{arith}
use borrow.Author.Tests.{ne_eqb}
use lib.ListN.{length, drop}
use Rattle.record.specs.Fields.{record_bytes}
use Rattle.refusal.specs.Refusal.{faults_of}
use Rattle.ledger.specs.Step.{released_at, work_of}
use Rattle.ledger.specs.Refusal.{refusal_of}
use Rattle.ledger.specs.Take.{accepted_of, refused_of, take_of, written_of, output_fields}
use Rattle.run.specs.Outcome.{Outcome, one_answer}
use Rattle.run.specs.History.{outputs, work_over, records_of, Run, run_of, outcome_of, out_of}
use Rattle.ledger.specs.declared.book.Ledger.{Ledger}
use Rattle.output.proofs.Laws.{Says}
use Rattle.ledger.proofs.Accepted.{accepted_meets, has_room}
use Rattle.ledger.proofs.Fits.{output_says}
use Rattle.ledger.proofs.Step.{released_after, released_between}
use Rattle.ledger.proofs.Take.{output_length, refused_writes_nothing, taken, not_taken, accepted_writes}
use Rattle.run.proofs.History.{one_record, begun_refusal, stopped, on_from, accepted_turn, run_goes_on, run_stops, run_ends}

module _ (l : Ledger) (bytes out : List ℕ) where
  abbrev room : ℕ
  room = length out

  -- Bytes that are no record are refused with 1.
  pub no_record : (length bytes ≡ record_bytes → ⊥) → refusal_of l bytes room ≡ 1
  unfolding refusal_of faults_of
  no_record e = simp (ne_eqb (length bytes) record_bytes e)

  module _ (size : length bytes ≡ record_bytes) where
    abbrev pub one_run : Run
    one_run = run_of l (records_of bytes) room

    one_taken : refusal_of l bytes room ≡ 0 → one_run ≡ on_from (accepted_turn l bytes ∷ []) (stopped (accepted_of l bytes).ledger 0)
    one_taken e = rw (one_record bytes size) (run_goes_on l bytes [] room e ∙ rw (run_ends (accepted_of l bytes).ledger))

    one_refused : (refusal_of l bytes room ≡ 0 → ⊥) → one_run ≡ stopped l (refusal_of l bytes room)
    one_refused e = rw (one_record bytes size) (run_stops l bytes [] room (refusal_of l bytes room) refl e)

    pub one_refusal : (outcome_of one_run).refusal ≡ refusal_of l bytes room
    unfolding outcome_of
    one_refusal = begun_refusal l bytes room (omega arith) (omega arith)

    pub one_ledger : refusal_of l bytes room ≡ 0 → (outcome_of one_run).ledger ≡ (accepted_of l bytes).ledger
    unfolding outcome_of
    one_ledger e = ap (λ (r : Run). r.ledger) (one_taken e)

    pub one_work : refusal_of l bytes room ≡ 0 → (outcome_of one_run).work ≡ work_of l bytes
    unfolding outcome_of work_over
    one_work e = rw (one_taken e) (omega arith)

    pub one_written : out_of one_run out ≡ written_of l bytes out
    unfolding out_of outputs written_of
    one_written =
        elim (ℕ_discrete (refusal_of l bytes room) 0) [
          | yes e ↦ rw (one_taken e, append-nil, output_length (accepted_of l bytes), e)
          | no e ↦ rw (one_refused e) (sym (refused_writes_nothing l bytes out e))
        ]

-- What the end of such a run says of the record is the step's answer.
module _ (l : Ledger) (bytes out : List ℕ) (end : Outcome) where
  pub one_grown : end.ledger ≡ (accepted_of l bytes).ledger → (t : ℕ) → t < 8 → released_at l t ≤ released_at end.ledger t
  unfolding accepted_of
  one_grown same t place = rw same (omega (arith, released_after l bytes t place))

  pub one_accepted : end.refusal ≡ 0 → end.ledger ≡ (accepted_of l bytes).ledger → Says (output_fields (accepted_of l bytes)) out
      → one_answer l end out ≡ accepted_of l bytes
  unfolding one_answer accepted_of output_fields
  one_accepted none same says = rw (none, same, says.x0, says.figure, says.bound, released_between l bytes) refl

  pub one_refused_by : (end.refusal ≡ 0 → ⊥) → one_answer l end out ≡ refused_of l end.refusal
  unfolding one_answer
  one_refused_by some = simp (ne_eqb end.refusal 0 some)

module _ (l : Ledger) (bytes out : List ℕ) (size : length bytes ≡ record_bytes) {end : Outcome} {left : List ℕ}
    (value : end ≡ outcome_of (run_of l (records_of bytes) (length out))) (writes : left ≡ out_of (run_of l (records_of bytes) (length out)) out) where
  -- the run's refusal is the record's
  found : end.refusal ≡ refusal_of l bytes (length out)
  found = ap (λ (o : Outcome). o.refusal) value ∙ one_refusal l bytes out size

  module _ (ok : end.refusal ≡ 0) where
    none : refusal_of l bytes (length out) ≡ 0
    none = sym found ∙ ok

    ledger-is : end.ledger ≡ (accepted_of l bytes).ledger
    ledger-is = ap (λ (o : Outcome). o.ledger) value ∙ one_ledger l bytes out size none

    said : Says (output_fields (accepted_of l bytes)) left
    said = rw (writes ∙ one_written l bytes out size ∙ accepted_writes l bytes out none) (output_says l bytes (accepted_meets l bytes (length out) none) (drop record_bytes out))

    pub one_released : (t : ℕ) → t < 8 → released_at l t ≤ released_at end.ledger t
    one_released = one_grown l bytes left end ledger-is

    pub one_room : record_bytes ≤ length out
    one_room = has_room l bytes (length out) none

  pub one_is : one_answer l end left ≡ take_of l bytes (length out)
  one_is =
      elim (ℕ_discrete end.refusal 0) [
        | yes ok ↦ one_accepted l bytes left end ok (ledger-is ok) (said ok) ∙ sym (taken l bytes (length out) (none ok))
        | no some ↦ one_refused_by l bytes left end some
            ∙ ap (refused_of l) found
            ∙ sym (not_taken l bytes (length out) (λ z. some (found ∙ z)))
      ]
