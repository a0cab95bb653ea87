-- A run takes a record exactly where offering it does, and hands on the same ledger and the same room, so both go side by side.
use mathlib.Core.Path.{◌≡◌, refl, sym, ap, ◌∙◌}
use mathlib.Core.List.{List, [], ◌∷◌, map}
use Prim.Native.Nat.{ℕ, suc, ◌-◌}
use native.Mathlib.Decide.{ℕ_discrete}
use native.Mathlib.Omega.{arith}
use lib.ListN.{length, get_or, take}
use Rattle.record.specs.Fields.{record_bytes}
use Rattle.ledger.specs.Step.{after}
use Rattle.ledger.specs.Refusal.{refusal_of}
use Rattle.ledger.specs.Take.{take_of, accepted_of}
use Rattle.run.specs.History.{Turn, records_of, in_turn, Run, run_of, out_of, outcome_of}
use Rattle.ledger.specs.declared.book.Ledger.{Ledger}
use Rattle.ledger.proofs.Take.{take_refusal}
use Rattle.run.proofs.History.{on_from, accepted_turn, run_goes_on, run_stops, run_ends, outputs_length}
use Rattle.promise_three.specs.Offering.{Offering, offering_to, records_in}
use Rattle.promise_run.specs.WholeRun.{LeadingEnds, none_left, next_refused, run_over, WholeRun}
use Rattle.promise_three.proofs.Offering.{in_front, offering_ends, offering_goes_on}

-- the offering that a run comes to
abbrev comes_to : Run → Offering
comes_to r = record { ledger = r.ledger; accepted = r.accepted }

record Follows (l : Ledger) (records : List (List ℕ)) (room : ℕ) (r : Run) : Type 0 where
  many : length (take (length r.accepted) records) ≡ length r.accepted
  these : map (λ (turn : Turn). turn.bytes) r.accepted ≡ take (length r.accepted) records
  offered : offering_to l (in_turn (take (length r.accepted) records) room) ≡ comes_to r
  stop : LeadingEnds records room (outcome_of r)

-- one record more in front
ends_later : (bytes : List ℕ) (rest : List (List ℕ)) (room : ℕ) (turn : Turn) (r : Run)
    → LeadingEnds rest (room - record_bytes) (outcome_of r) → LeadingEnds (bytes ∷ rest) room (outcome_of (on_from (turn ∷ []) r))
unfolding outcome_of
ends_later bytes rest room turn r (none_left all zero) = none_left (omega (arith, all)) zero
ends_later bytes rest room turn r (next_refused some e h) =
    let k = length r.accepted in
    next_refused (omega arith) (e ∙ ap (λ (left : ℕ). (take_of r.ledger (get_or rest k []) left).refusal) (omega arith)) (omega arith)

follows : (l : Ledger) (records : List (List ℕ)) (room : ℕ) → Follows l records room (run_of l records room)
unfolding in_turn outcome_of accepted_of
follows l [] room = rw (run_ends l room) (record { many = refl; these = refl; offered = offering_ends l; stop = none_left refl refl })
follows l (bytes ∷ rest) room =
    elim (ℕ_discrete (refusal_of l bytes room) 0) [
      | yes e ↦
          let l' = after l bytes in
          let r = run_of l' rest (room - record_bytes) in
          let f = follows l' rest (room - record_bytes) in
          rw (run_goes_on l bytes rest room e)
          (record {
            many = ap suc f.many;
            these = ap (λ (xs : List (List ℕ)). bytes ∷ xs) f.these;
            offered = offering_goes_on l bytes room (in_turn (take (length r.accepted) rest) (room - record_bytes)) e ∙ ap (in_front (accepted_turn l bytes)) f.offered;
            stop = ends_later bytes rest room (accepted_turn l bytes) r f.stop;
          })
      | no e ↦
          rw (run_stops l bytes rest room (refusal_of l bytes room) refl e)
          (record {
            many = refl;
            these = refl;
            offered = offering_ends l;
            stop = next_refused (omega arith) (sym (take_refusal l bytes room) ∙ ap (λ (left : ℕ). (take_of l bytes left).refusal) (omega arith)) (omega (arith, e));
          })
    ]

pub whole_run_lem : (l : Ledger) (file out : List ℕ) → WholeRun l file out (outcome_of (run_over l file out)) (out_of (run_over l file out) out)
unfolding outcome_of out_of
whole_run_lem l file out =
    let f = follows l (records_of file) (length out) in
    record {
      begins =
          record {
            so_many = omega (arith, f.many);
            every_one = ap records_in f.offered ∙ f.these;
            ledger_after_lem = sym (ap (λ (o : Offering). o.ledger) f.offered);
          };
      stops = f.stop;
      output_after = rw (f.offered, outputs_length (run_over l file out).accepted);
      worked = rw f.offered;
    }
