-- Document 02, request l: 'Yearly totals beside a monthly run': its refusals, the step, and whole runs.
use Rattle.std.specs.Prelude.{cond, not, List, [], ◌∷◌, ◌++◌, ℕ, eqb, length, drop}
use Rattle.numbers.specs.Fault.{Fault, ◌when◌, first_of, inserted}
use Rattle.waste.specs.Kind.{is_yearly}
use Rattle.record.specs.Fields.{record_bytes, period_of, kind_of}
use Rattle.refusal.specs.Refusal.{faults_of}
use Rattle.ledger.specs.Refusal.{sound}
use Rattle.ledger.specs.Take.{accepted_of, refused_of, output_record}
use Rattle.ledger.specs.declared.book.Ledger.{Ledger}
use Rattle.ledger.specs.Answer.{Answer}
use Rattle.run.specs.History.{Offer, Turn, is_accepted, in_turn, Run, read_off}
use Rattle.year_slots.specs.Slots.{totals_bytes, added_to, differs}

-- 'Refusals: 28 a buffer that is not 3200 bytes, before 1; 27 a yearly record, between 5 and 6; 32, last'
unfoldable pub month_faults : Ledger → (totals bytes : List ℕ) → (room : ℕ) → List Fault
month_faults l totals bytes room =
    28 when not (eqb (length totals) totals_bytes)
    ∷ inserted 6 (27 when is_yearly (kind_of bytes)) (faults_of (sound l) l.n l.kind l.climate l.year bytes room)
    ++ (32 when differs totals (period_of bytes) ∷ [])

unfoldable pub month_refusal : Ledger → (totals bytes : List ℕ) → (room : ℕ) → ℕ
month_refusal l totals bytes room = first_of (month_faults l totals bytes room)

-- The step: the record is taken as the plain step takes it, ...
unfoldable pub take_month_of : Ledger → (totals bytes : List ℕ) → (room : ℕ) → Answer
take_month_of l totals bytes room =
    let refusal = month_refusal l totals bytes room in cond (eqb refusal 0) (accepted_of l bytes) (refused_of l refusal)

abbrev pub month_turn_of : Ledger → (totals : List ℕ) → Offer → Turn
month_turn_of l totals offer = record { before = l; bytes = offer.bytes; answer = take_month_of l totals offer.bytes offer.room }

-- ... and when it is accepted, it is added to its year's slot; 'ledger, buffer and output then stay' where it is refused.
unfoldable pub totals_then : (totals : List ℕ) → Turn → List ℕ
totals_then totals turn =
    cond (is_accepted turn) (added_to totals (period_of turn.bytes) turn.answer.x0 turn.answer.figure turn.answer.bound) totals

unfoldable pub month_totals : Ledger → (totals bytes : List ℕ) → (room : ℕ) → List ℕ
month_totals l totals bytes room = totals_then totals (month_turn_of l totals (record { bytes = bytes; room = room }))

unfoldable pub written_month : Ledger → (totals bytes out : List ℕ) → List ℕ
written_month l totals bytes out =
    cond (eqb (month_refusal l totals bytes (length out)) 0) (output_record (accepted_of l bytes) ++ drop record_bytes out) out

-- One record after another, each on the ledger and the buffer that the one before it left.
unfoldable pub month_turns : Ledger → (totals : List ℕ) → List Offer → List Turn
month_turns l totals [] = []
month_turns l totals (offer ∷ rest) =
    let turn = month_turn_of l totals offer in turn ∷ month_turns turn.answer.ledger (totals_then totals turn) rest

-- The buffer after some turns.
unfoldable pub totals_after : (totals : List ℕ) → List Turn → List ℕ
totals_after totals [] = totals
totals_after totals (turn ∷ rest) = totals_after (totals_then totals turn) rest

-- A whole run. The buffer belongs to the call and not to a record: one that is not 3200 bytes is refused also where there is no record.
unfoldable pub month_run_of : Ledger → (totals : List ℕ) → List (List ℕ) → (room : ℕ) → Run
month_run_of l totals records room =
    cond (eqb (length totals) totals_bytes)
    (read_off l (month_turns l totals (in_turn records room)))
    (record { ledger = l; accepted = []; refusal = 28 })
