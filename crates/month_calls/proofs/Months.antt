-- What one monthly record, and a run of them, make of the buffers.
use mathlib.Core.Path.{◌≡◌, refl, sym, ap, ◌∙◌}
use mathlib.Core.List.{List, [], ◌∷◌, ◌++◌}
use Prim.Native.Nat.{ℕ, ◌<◌}
use native.Mathlib.Decide.{ℕ_discrete}
use native.Mathlib.Omega.{arith}
use borrow.Author.Tests.{ne_eqb}
use lib.ListN.{length, take, drop}
use Rattle.record.specs.Fields.{record_bytes}
use Rattle.ledger.specs.Refusal.{refusal_of}
use Rattle.ledger.specs.Take.{accepted_of, output_record}
use Rattle.ledger.specs.declared.book.Ledger.{Ledger}
use Rattle.ledger.specs.Answer.{Answer}
use Rattle.ledger.proofs.Accepted.{has_room}
use Rattle.run.specs.History.{Run}
use Rattle.image.specs.Image.{image_bytes, ledger_of}
use Rattle.calls.specs.Calls.{room_of, out_then}
use Rattle.calls.proofs.Takes.{when_not, accepted_image, part_length, out_left_lem}
use Rattle.year_slots.specs.Slots.{totals_bytes}
use Rattle.yearly_totals.specs.Months.{month_refusal, take_month_of, month_totals, written_month, month_run_of}
use Rattle.yearly_totals.proofs.Refusals.{taken_meets}
use Rattle.yearly_totals.proofs.Turns.{taken_month, month_refusal_lem, wrong_run, month_stops, month_ends}
use Rattle.month_calls.specs.MonthCalls.{take_month_here, month_totals_here}

-- What a step writes goes by its answer.
written_then : (l : Ledger) (totals bytes out : List ℕ) → written_month l totals bytes out ≡ out_then (take_month_of l totals bytes (length out)) out
unfolding written_month out_then accepted_of
written_then l totals bytes out =
    elim (ℕ_discrete (month_refusal l totals bytes (length out)) 0) [
      | yes e ↦ rw (taken_month l totals bytes (length out) e, e)
      | no e ↦
          simp (ne_eqb (month_refusal l totals bytes (length out)) 0 e)
          (sym (when_not (take_month_of l totals bytes (length out)).refusal (output_record (take_month_of l totals bytes (length out)) ++ drop record_bytes out) out
          (λ z. e (sym (month_refusal_lem l totals bytes (length out)) ∙ z))))
    ]

-- One record, with so much of the output lent: the step on that part is the step that is promised.
module _ (image totals bytes out answer : List ℕ) (room : ℕ) (e : room ≡ room_of (length out) (length answer)) where
  abbrev l : Ledger
  l = ledger_of image

  abbrev a : Answer
  a = take_month_here image totals bytes out answer

  long : length (take room out) ≡ room_of (length out) (length answer)
  long = part_length out answer room e ∙ e

  pub step_is : take_month_of l totals bytes (length (take room out)) ≡ a
  unfolding take_month_here
  step_is = ap (take_month_of l totals bytes) long

  pub totals_is : month_totals l totals bytes (length (take room out)) ≡ month_totals_here image totals bytes out answer
  unfolding month_totals_here
  totals_is = ap (month_totals l totals bytes) long

  plain : a.refusal ≡ 0 → refusal_of l bytes room ≡ 0
  unfolding take_month_here
  plain z = (taken_meets l totals bytes room (sym (month_refusal_lem l totals bytes room) ∙ ap (λ (k : ℕ). (take_month_of l totals bytes k).refusal) e ∙ z)).none

  pub output_left : {left : List ℕ} → left ≡ written_month l totals bytes (take room out) → left ++ drop room out ≡ out_then a out
  output_left w =
      out_left_lem out answer room e a (λ z. has_room l bytes room (plain z)) (w ∙ written_then l totals bytes (take room out) ∙ ap (λ (x : Answer). out_then x (take room out)) step_is)

  pub image_of_lem : a.refusal ≡ 0 → length image ≡ image_bytes
  image_of_lem z = accepted_image image bytes room (plain z)

-- A run that accepts a record began from an image.
pub ran_image : (image totals : List ℕ) (records : List (List ℕ)) (room : ℕ) → 0 < length (month_run_of (ledger_of image) totals records room).accepted → length image ≡ image_bytes
ran_image image totals records room h =
    elim (ℕ_discrete (length totals) totals_bytes) [
      | yes size ↦ right records size h
      | no size ↦ absurd (omega (arith, ap (λ (r : Run). length r.accepted) (wrong_run (ledger_of image) totals records room size)))
    ]
  where
    right : (records : List (List ℕ)) → length totals ≡ totals_bytes → 0 < length (month_run_of (ledger_of image) totals records room).accepted → length image ≡ image_bytes
    right [] size h = absurd (omega (arith, ap (λ (r : Run). length r.accepted) (month_ends (ledger_of image) totals size room)))
    right (bytes ∷ rest) size h =
        elim (ℕ_discrete (month_refusal (ledger_of image) totals bytes room) 0) [
          | yes e ↦ accepted_image image bytes room (taken_meets (ledger_of image) totals bytes room e).none
          | no e ↦ absurd (omega (arith, ap (λ (r : Run). length r.accepted) (month_stops (ledger_of image) totals size bytes rest room (month_refusal (ledger_of image) totals bytes room) refl e)))
        ]
