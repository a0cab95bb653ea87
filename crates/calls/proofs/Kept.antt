-- From call to call: what one leaves of the image of a kept ledger is the image of the ledger after the offers that it made.
-- That ledger can be kept again by `turns_kept`, so the next call begins where this one ended.
use mathlib.Core.Path.{◌≡◌, refl, sym, ap, ◌∙◌}
use mathlib.Core.List.{List, [], ◌∷◌}
use Prim.Native.Nat.{ℕ, suc, ◌-◌}
use native.Mathlib.Decide.{ℕ_discrete}
use native.Mathlib.Omega.{arith}
use lib.ListN.{length, take}
use Rattle.record.specs.Fields.{record_bytes}
use Rattle.ledger.specs.Refusal.{refusal_of}
use Rattle.ledger.specs.Take.{accepted_of, take_of}
use Rattle.run.specs.History.{Offer, Turn, turns, ledger_after, records_of, in_turn, run_of}
use Rattle.ledger.specs.declared.book.Ledger.{Ledger}
use Rattle.ledger.proofs.Take.{taken, take_refusal, refused_keeps}
use Rattle.run.proofs.History.{run_goes_on, run_stops, run_ends}
use Rattle.image.specs.Image.{image_of, Kept}
use Rattle.image.proofs.Kept.{image_back, accepted_kept, step_kept}
use Rattle.calls.specs.Calls.{room_of, image_then, take_here, take_image, run_here, run_image, offer_of, offers_of}
use Rattle.calls.proofs.Takes.{when_zero, when_not}

-- After no turns the ledger is the one before them.
none_after : (l : Ledger) (done : List Turn) → length done ≡ 0 → ledger_after l done ≡ l
unfolding ledger_after
none_after l [] e = refl
none_after l (turn ∷ rest) e = absurd (omega arith)

-- The ledger after a run is the one after its offers up to and with the first that is refused.
pub run_offered : (l : Ledger) (records : List (List ℕ)) (room : ℕ) → let r = run_of l records room in
    r.ledger ≡ ledger_after l (turns l (take (suc (length r.accepted)) (in_turn records room)))
unfolding turns ledger_after in_turn
run_offered l [] room = rw (run_ends l room)
run_offered l (bytes ∷ rest) room =
    elim (ℕ_discrete (refusal_of l bytes room) 0) [
      | yes e ↦ rw (run_goes_on l bytes rest room e, taken l bytes room e) (run_offered (accepted_of l bytes).ledger rest (room - record_bytes))
      | no e ↦ rw (run_stops l bytes rest room (refusal_of l bytes room) refl e) (sym (refused_keeps l bytes room e))
    ]

module _ (l : Ledger) (k : Kept l) where
  pub take_keeps : (bytes out answer : List ℕ)
      → take_image (image_of l) bytes out answer ≡ image_of (ledger_after l (turns l (offer_of bytes out answer ∷ [])))
  unfolding take_image image_then take_here turns ledger_after
  take_keeps bytes out answer =
      let room = room_of (length out) (length answer) in
      rw (image_back l k)
      (elim (ℕ_discrete (take_of l bytes room).refusal 0) [
        | yes e ↦ when_zero (take_of l bytes room).refusal _ (image_of l) e
        | no e ↦ when_not (take_of l bytes room).refusal _ (image_of l) e ∙ sym (ap image_of (refused_keeps l bytes room (λ z. e (take_refusal l bytes room ∙ z))))
      ])

  pub run_keeps : (file : List ℕ) (room : ℕ) → let r = run_here (image_of l) file room in
      run_image (image_of l) r ≡ image_of (ledger_after l (turns l (offers_of file room r)))
  unfolding run_image run_here offers_of run_of
  run_keeps file room =
      rw (image_back l k)
      (let r = run_of l (records_of file) room in
      let offered = run_offered l (records_of file) room in
      elim (ℕ_discrete (length r.accepted) 0) [
        | yes e ↦ when_zero (length r.accepted) (image_of l) (image_of r.ledger) e ∙ ap image_of (sym (none_after l r.accepted e) ∙ offered)
        | no e ↦ when_not (length r.accepted) (image_of l) (image_of r.ledger) e ∙ ap image_of offered
      ])

-- The ledger after some turns,
pub turns_kept : (l : Ledger) (offers : List Offer) → Kept l → Kept (ledger_after l (turns l offers))
unfolding turns ledger_after
turns_kept l [] k = k
turns_kept l (offer ∷ rest) k = turns_kept (take_of l offer.bytes offer.room).ledger rest (step_kept l offer.bytes offer.room k)

-- and after a whole run can be kept.
pub run_kept : (l : Ledger) (records : List (List ℕ)) (room : ℕ) → Kept l → Kept (run_of l records room).ledger
run_kept l [] room k = rw (run_ends l room) k
run_kept l (bytes ∷ rest) room k =
    elim (ℕ_discrete (refusal_of l bytes room) 0) [
      | yes e ↦ rw (run_goes_on l bytes rest room e) (run_kept (accepted_of l bytes).ledger rest (room - record_bytes) (accepted_kept l bytes room e))
      | no e ↦ rw (run_stops l bytes rest room (refusal_of l bytes room) refl e) k
    ]
