-- The walk over the accepted records of a run, by their output records: each is ready, and the walk goes on to the run's ledger.
use mathlib.Core.Path.{◌≡◌, refl}
use mathlib.Core.List.{List, [], ◌∷◌, ◌++◌, append_assoc, append-nil}
use Prim.Native.Nat.{ℕ, zero, suc, ◌-◌, ◌*◌, ◌≤◌}
use native.Mathlib.Decide.{ℕ_discrete}
use native.Mathlib.Omega.{arith}
use lib.ListN.{length, take, drop, length-drop, length-take}
use lib.Seq.{drop_at}
use Rattle.numbers.specs.Bytes.{number_at}
use Rattle.record.specs.Fields.{record_bytes}
use Rattle.ledger.specs.Step.{x0_of}
use Rattle.ledger.specs.Refusal.{refusal_of}
use Rattle.ledger.specs.Take.{accepted_of, output_record, output_fields}
use Rattle.ledger.specs.declared.book.Ledger.{Ledger}
use Rattle.ledger.proofs.Accepted.{accepted_meets}
use Rattle.ledger.proofs.Fits.{output_says}
use Rattle.ledger.proofs.Take.{output_length}
use Rattle.run.specs.History.{Turn, outputs, records_of, Run, run_of}
use Rattle.run.proofs.History.{no_records, first_record_lem, accepted_turn, run_goes_on, run_stops, run_ends}
use Rattle.tunisia.specs.Walk.{walked_on, walked_over, AllReady}
use Rattle.tunisia.specs.declared.year.Walked.{Walked}
use Rattle.tunisia.proofs.Walks.{Walks, ready, walks_on}

-- What the walk over a run does, where the bytes are those of its records and the output begins with their output records.
pub record OverRun (first last : ℕ) (done : List Turn) (w : Walked) (left rest : List ℕ) (r : Run) : Type 0 where
  pub whole : record_bytes * length r.accepted ≤ length left
  pub all_ready : AllReady first last (length r.accepted) w left (outputs r.accepted ++ rest)
  pub walks : Walks first last (done ++ r.accepted) r.ledger (walked_over first last (length r.accepted) w left (outputs r.accepted ++ rest))

module _ (first last : ℕ) (rest : List ℕ) where
  -- a run that accepts nothing
  none : (done : List Turn) (l : Ledger) (w : Walked) (left : List ℕ) (refusal : ℕ) → Walks first last done l w
      → OverRun first last done w left rest (record { ledger = l; accepted = []; refusal = refusal })
  unfolding AllReady walked_over outputs
  none done l w left refusal h = record { whole = omega arith; all_ready = tt; walks = rw append-nil h }

  -- the first record says its x0
  first_x0 : (l : Ledger) (bytes more : List ℕ) (room : ℕ) → refusal_of l bytes room ≡ 0 → number_at 8 (output_record (accepted_of l bytes) ++ more) 8 ≡ x0_of l bytes
  unfolding output_fields accepted_of
  first_x0 l bytes more room e = (output_says l bytes (accepted_meets l bytes room e) more).x0

  -- the first of some records, whose output record comes first
  over_first : (k : ℕ) (w : Walked) (file o more : List ℕ) {x0 : ℕ} → length o ≡ record_bytes → number_at 8 (o ++ more) 8 ≡ x0
      → walked_over first last (suc k) w file (o ++ more) ≡ walked_over first last k (walked_on first last w (take record_bytes file) x0) (drop record_bytes file) more
  unfolding walked_over
  over_first k w file o more size e = rw (e, drop_at o more record_bytes size)

  module _ (done : List Turn) (l : Ledger) (w : Walked) (left : List ℕ) (room : ℕ) (h : Walks first last done l w) where
    abbrev bytes : List ℕ
    bytes = take record_bytes left

    abbrev turn : Turn
    turn = accepted_turn l bytes

    -- what the walk has after the first record, and the run of the rest
    abbrev next : Walked
    next = walked_on first last w bytes (x0_of l bytes)

    abbrev on : Run
    on = run_of (accepted_of l bytes).ledger (records_of (drop record_bytes left)) (room - record_bytes)

    taken : refusal_of l bytes room ≡ 0 → OverRun first last (done ++ (turn ∷ [])) next (drop record_bytes left) rest on
        → OverRun first last done w left rest (record { ledger = on.ledger; accepted = turn ∷ on.accepted; refusal = on.refusal })
    unfolding AllReady walked_over outputs
    taken e o =
        let out = outputs on.accepted ++ rest in
        let first_out = output_record (accepted_of l bytes) in
        let size = (accepted_meets l bytes room e).size in
        record {
          whole = omega (arith, o.whole, length-drop record_bytes left, length-take record_bytes left);
          all_ready =
              rw (append_assoc first_out (outputs on.accepted) rest, first_x0 l bytes out room e, drop_at first_out out record_bytes (output_length (accepted_of l bytes)))
              (ready h bytes room e, o.all_ready);
          walks =
              rw (append_assoc first_out (outputs on.accepted) rest, over_first (length on.accepted) w left first_out out (output_length (accepted_of l bytes)) (first_x0 l bytes out room e))
              (rw append_assoc at o.walks);
        }

    with_first : (refusal_of l bytes room ≡ 0 → OverRun first last (done ++ (turn ∷ [])) next (drop record_bytes left) rest on)
        → OverRun first last done w left rest (run_of l (bytes ∷ records_of (drop record_bytes left)) room)
    with_first more =
        elim (ℕ_discrete (refusal_of l bytes room) 0) [
          | yes e ↦ rw (run_goes_on l bytes (records_of (drop record_bytes left)) room e) (taken e (more e))
          | no e ↦ rw (run_stops l bytes (records_of (drop record_bytes left)) room (refusal_of l bytes room) refl e) (none done l w left (refusal_of l bytes room) h)
        ]

  pub over_run : (k : ℕ) (left : List ℕ) → length left ≤ k → (done : List Turn) (l : Ledger) (w : Walked) (room : ℕ) → Walks first last done l w
      → OverRun first last done w left rest (run_of l (records_of left) room)
  over_run zero left short done l w room h = rw (no_records left (omega arith), run_ends l room) (none done l w left 0 h)
  over_run (suc k) left short done l w room h =
      elim (ℕ_discrete (length left) 0) [
        | yes z ↦ rw (no_records left z, run_ends l room) (none done l w left 0 h)
        | no z ↦
            let bytes = take record_bytes left in
            rw (first_record_lem left (omega arith))
            (with_first done l w left room h
            (λ e. over_run k (drop record_bytes left) (simp length-drop (omega arith)) (done ++ (accepted_turn l bytes ∷ [])) (accepted_of l bytes).ledger
            (walked_on first last w bytes (x0_of l bytes)) (room - record_bytes) (walks_on h bytes room e)))
      ]
