-- A call reads the ledger of the image and leaves the image of the ledger after its offers, so calls go on as their offers do.
use mathlib.Core.Path.{◌≡◌, refl, ap, ◌∙◌}
use mathlib.Core.List.{List, [], ◌∷◌}
use Prim.Native.Nat.{ℕ, suc, ◌-◌}
use native.Mathlib.Decide.{ℕ_discrete}
use lib.ListN.{length, take}
use Rattle.record.specs.Fields.{record_bytes}
use Rattle.ledger.specs.Step.{fresh, after}
use Rattle.ledger.specs.Refusal.{refusal_of}
use Rattle.ledger.specs.Take.{accepted_of}
use Rattle.run.specs.History.{Turn, turns, records_of, in_turn, run_of}
use Rattle.ledger.specs.declared.book.Ledger.{Ledger}
use Rattle.run.proofs.History.{accepted_turn, run_goes_on, run_stops, run_ends}
use Rattle.image.specs.Image.{image_bytes, image_of, fresh_left, ledger_of, Kept}
use Rattle.image.proofs.Kept.{released_stands, image_back, fresh_kept, fresh_keeps}
use Rattle.calls.specs.Calls.{take_here, run_here, offers_of}
use Rattle.calls.proofs.Kept.{take_keeps, run_keeps, turns_kept}
use Rattle.promise_three.specs.Offering.{offering_to}
use Rattle.promise_site.specs.Site.{Call, takes, runs, image_after, offers_by, accepted_by, image_after_all, offers_by_all, accepted_by_all, KeptSite}
use Rattle.promise_three.proofs.OneByOne.{one_by_one, conserved}
use Rattle.promise_three.proofs.Offering.{offering_ends, offering_goes_on, offering_passes_over, offering_join}

-- A run's accepted records are those of its offers, up to and with the one that is refused.
run_accepts : (l : Ledger) (records : List (List ℕ)) (room : ℕ)
    → (run_of l records room).accepted ≡ (offering_to l (take (suc (length (run_of l records room).accepted)) (in_turn records room))).accepted
unfolding in_turn accepted_of
run_accepts l [] room = rw (run_ends l room, offering_ends l)
run_accepts l (bytes ∷ rest) room =
    elim (ℕ_discrete (refusal_of l bytes room) 0) [
      | yes e ↦
          rw (run_goes_on l bytes rest room e, offering_goes_on l bytes room _ e)
          (ap (λ (done : List Turn). accepted_turn l bytes ∷ done) (run_accepts (after l bytes) rest (room - record_bytes)))
      | no e ↦ rw (run_stops l bytes rest room (refusal_of l bytes room) refl e, offering_passes_over l bytes room [] e, offering_ends l)
    ]

-- one call on the image of a ledger that can be kept
module _ (l : Ledger) (k : Kept l) where
  abbrev next : Call → Ledger
  next call = (offering_to l (offers_by (image_of l) call)).ledger

  leaves : (call : Call) → image_after (image_of l) call ≡ image_of (next call)
  unfolding image_after offers_by offering_to
  leaves (takes bytes out answer) = take_keeps l k bytes out answer
  leaves (runs file out) = run_keeps l k file (length out)

  runs_here : (file : List ℕ) (room : ℕ) → run_here (image_of l) file room ≡ run_of l (records_of file) room
  unfolding run_here
  runs_here file room = ap (λ (m : Ledger). run_of m (records_of file) room) (image_back l k)

  run_accepts_here : (file : List ℕ) (room : ℕ) → let r = run_here (image_of l) file room in
      r.accepted ≡ (offering_to l (offers_of file room r)).accepted
  unfolding offers_of
  run_accepts_here file room = rw (runs_here file room) (run_accepts l (records_of file) room)

  accepts : (call : Call) → accepted_by (image_of l) call ≡ (offering_to l (offers_by (image_of l) call)).accepted
  unfolding accepted_by offers_by
  accepts (takes bytes out answer) = unfold offering_to take_here turns in rw (image_back l k)
  accepts (runs file out) = run_accepts_here file (length out)

  kept_again : (call : Call) → Kept (next call)
  unfolding offering_to
  kept_again call = turns_kept l (offers_by (image_of l) call) k

record Goes (l : Ledger) (calls : List Call) : Type 0 where
  kept : Kept (offering_to l (offers_by_all (image_of l) calls)).ledger
  image : image_after_all (image_of l) calls ≡ image_of (offering_to l (offers_by_all (image_of l) calls)).ledger
  answers : accepted_by_all (image_of l) calls ≡ (offering_to l (offers_by_all (image_of l) calls)).accepted

goes : (calls : List Call) (l : Ledger) → Kept l → Goes l calls
unfolding image_after_all offers_by_all accepted_by_all
goes [] l k = record { kept = rw (offering_ends l) k; image = rw (offering_ends l); answers = rw (offering_ends l) }
goes (call ∷ rest) l k =
    let on = goes rest (next l k call) (kept_again l k call) in
    let join = offering_join (offers_by (image_of l) call) l (offers_by_all (image_of (next l k call)) rest) in
    record {
      kept = rw (leaves l k call, join) on.kept;
      image = rw (leaves l k call, join) on.image;
      answers = rw (leaves l k call, join, accepts l k call, on.answers);
    }

pub kept_site : (buffer : List ℕ) → length buffer ≡ image_bytes → (calls : List Call) → KeptSite (fresh_left buffer) calls
kept_site buffer e calls =
    let on = goes calls fresh fresh_kept in
    rw (fresh_keeps buffer e)
    (record {
      image_kept = on.image;
      ledger_kept = ap ledger_of on.image ∙ image_back _ on.kept;
      answers_kept = on.answers;
      released_kept = λ t place. rw (on.image, on.answers) (released_stands _ on.kept t place ∙ (conserved t place _ (one_by_one _)).reported);
    })
