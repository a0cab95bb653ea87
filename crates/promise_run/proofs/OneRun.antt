-- No other answer meets what is promised of a whole run: its count is the run's, record by record.
use mathlib.Core.Path.{◌≡◌, sym, ap, ◌∙◌}
use mathlib.Core.List.{List, [], ◌∷◌}
use Prim.Native.Nat.{ℕ, zero, suc, ◌+◌, ◌-◌, ◌*◌, ◌≤◌}
use native.Mathlib.Decide.{ℕ_discrete}
use native.Mathlib.Omega.{arith}
use lib.ListN.{length, get_or, take, drop, length-map}
use Rattle.record.specs.Fields.{record_bytes}
use Rattle.ledger.specs.Step.{work_of, after}
use Rattle.ledger.specs.Refusal.{refusal_of}
use Rattle.ledger.specs.Take.{take_of, accepted_of}
use Rattle.run.specs.History.{work_over, records_of, in_turn, run_of, out_of, outcome_of}
use Rattle.ledger.specs.declared.book.Ledger.{Ledger}
use Rattle.run.specs.Outcome.{Outcome}
use Rattle.ledger.proofs.Take.{take_refusal}
use Rattle.run.proofs.History.{run_goes_on, run_stops, run_ends}
use Rattle.promise_three.specs.Offering.{Offering, offering_to, records_in}
use Rattle.promise_run.specs.WholeRun.{leading_offered, LeadingAccepted, LeadingEnds, none_left, next_refused, run_over, WholeRun}
use Rattle.promise_three.proofs.Offering.{offering_ends, offering_goes_on, offering_passes_over}
use Rattle.promise_run.proofs.WholeRun.{whole_run_lem}

-- no more records are accepted than are offered
few_accepted : (records : List (List ℕ)) (l : Ledger) (room : ℕ) → length (offering_to l (in_turn records room)).accepted ≤ length records
unfolding in_turn
few_accepted [] l room = rw (offering_ends l) (omega arith)
few_accepted (bytes ∷ rest) l room =
    elim (ℕ_discrete (refusal_of l bytes room) 0) [
      | yes e ↦ rw (offering_goes_on l bytes room (in_turn rest (room - record_bytes)) e) (omega (arith, few_accepted rest (after l bytes) (room - record_bytes)))
      | no e ↦ rw (offering_passes_over l bytes room (in_turn rest (room - record_bytes)) e) (omega (arith, few_accepted rest l (room - record_bytes)))
    ]

-- an answer with the decay work of the run, which neither the leading records nor their end speak of
abbrev outcome : (work : ℕ) → Ledger → ℕ → ℕ → Outcome
outcome work l k q = record { ledger = l; accepted = k; refusal = q; work = work }

-- a refused record is not counted
never_counted : (l : Ledger) (bytes : List ℕ) (rest : List (List ℕ)) (room : ℕ) → (refusal_of l bytes room ≡ 0 → ⊥)
    → records_in (offering_to l (in_turn (bytes ∷ rest) room)) ≡ bytes ∷ rest → ⊥
unfolding in_turn
never_counted l bytes rest room e all =
    let over = rw (offering_passes_over l bytes room (in_turn rest (room - record_bytes)) e) at all in
    omega (arith, few_accepted rest l (room - record_bytes), rw length-map at (ap length over))

-- what is promised of a run, one record on
ends_sooner : (bytes : List ℕ) (rest : List (List ℕ)) (room : ℕ) (l : Ledger) (k q w w' : ℕ) → LeadingEnds (bytes ∷ rest) room (outcome w l (suc k) q)
    → LeadingEnds rest (room - record_bytes) (outcome w' l k q)
ends_sooner bytes rest room l k q w w' (none_left all z) = none_left (omega arith) z
ends_sooner bytes rest room l k q w w' (next_refused some e h) =
    next_refused (omega arith) (e ∙ ap (λ (left : ℕ). (take_of l (get_or rest k []) left).refusal) (omega arith)) (omega arith)

accepted_sooner : (bytes : List ℕ) (rest : List (List ℕ)) (room : ℕ) (l l' : Ledger) (k q w w' : ℕ) → refusal_of l bytes room ≡ 0
    → LeadingAccepted l (bytes ∷ rest) room (outcome w l' (suc k) q) → LeadingAccepted (after l bytes) rest (room - record_bytes) (outcome w' l' k q)
unfolding in_turn
accepted_sooner bytes rest room l l' k q w w' e a =
    let on = offering_goes_on l bytes room (in_turn (take k rest) (room - record_bytes)) e in
    record {
      so_many = omega (arith, a.so_many);
      every_one = ap (drop 1) (sym (ap records_in on) ∙ a.every_one);
      ledger_after_lem = a.ledger_after_lem ∙ ap (λ (o : Offering). o.ledger) on;
    }

only_run : (records : List (List ℕ)) (l : Ledger) (room : ℕ) (l' : Ledger) (k q w : ℕ) → LeadingAccepted l records room (outcome w l' k q)
    → LeadingEnds records room (outcome w l' k q) → let r = outcome_of (run_of l records room) in outcome r.work l' k q ≡ r
unfolding outcome_of accepted_of in_turn work_over
only_run [] l room l' zero q w a (none_left all z) = rw (run_ends l room, a.ledger_after_lem, offering_ends l, z)
only_run [] l room l' (suc k) q w a (none_left all z) = absurd (omega (arith, all))
only_run [] l room l' k q w a (next_refused some e h) = absurd (omega arith)
only_run (bytes ∷ rest) l room l' zero q w a (none_left all z) = absurd (omega arith)
only_run (bytes ∷ rest) l room l' zero q w a (next_refused some e h) =
    let none : room - record_bytes * 0 ≡ room = omega arith in
    let ledger : l' ≡ l = a.ledger_after_lem ∙ ap (λ (o : Offering). o.ledger) (offering_ends l) in
    let here : refusal_of l bytes room ≡ q = sym (take_refusal l bytes room) ∙ sym (rw (none, ledger) at e) in
    rw (run_stops l bytes rest room q here (λ z. omega arith), ledger)
only_run (bytes ∷ rest) l room l' (suc k) q w a ends =
    elim (ℕ_discrete (refusal_of l bytes room) 0) [
      | yes e ↦
          let r = outcome_of (run_of (after l bytes) rest (room - record_bytes)) in
          rw (run_goes_on l bytes rest room e)
          (ap (λ (o : Outcome). outcome (work_of l bytes + r.work) o.ledger (suc o.accepted) o.refusal)
          (only_run rest (after l bytes) (room - record_bytes) l' k q w (accepted_sooner bytes rest room l l' k q w w e a) (ends_sooner bytes rest room l' k q w w ends)))
      | no e ↦ absurd (never_counted l bytes (take k rest) room e a.every_one)
    ]

pub one_run_lem : (l : Ledger) (file out : List ℕ) (answer : Outcome) (left : List ℕ) → WholeRun l file out answer left
    → (answer ≡ outcome_of (run_over l file out)) × (left ≡ out_of (run_over l file out) out)
one_run_lem l file out answer left w =
    let records = records_of file in
    let r = outcome_of (run_over l file out) in
    let rest = only_run records l (length out) answer.ledger answer.accepted answer.refusal answer.work w.begins w.stops in
    let work : answer.work ≡ r.work
    = w.worked ∙ ap (λ (o : Outcome). work_over (leading_offered l records (length out) o).accepted) rest ∙ sym (whole_run_lem l file out).worked in
    let same : answer ≡ r = (λ i. outcome (work i) answer.ledger answer.accepted answer.refusal) ∙ rest in
    (same, (rw same at w.output_after) ∙ sym (whole_run_lem l file out).output_after)
