-- What one record, and a run, make of the buffers: where the image must be one, what it becomes, and what is left of the output.
use mathlib.Core.Path.{◌≡◌, refl, sym, ap, ◌∙◌}
use mathlib.Core.Bool.{Bool, true, false, cond}
use mathlib.Core.List.{List, [], ◌∷◌, ◌++◌, append-nil}
use Prim.Native.Nat.{ℕ, ◌≤◌, ◌<◌}
use native.Mathlib.Decide.{ℕ_discrete}
use native.Mathlib.Omega.{arith}
use borrow.Author.Tests.{eq-eqb, ne_eqb, eqb-true}
use lib.Dec.{eqb, ltb}
use lib.ListN.{length, take, drop, take-append-drop, drop_of_length-le}
use lib.Seq.{take_all, length-take-le}
use Rattle.record.specs.Fields.{record_bytes}
use Rattle.ledger.specs.Refusal.{refusal_of}
use Rattle.ledger.specs.Take.{accepted_of, take_of, written_of, output_record}
use Rattle.run.specs.History.{Run, run_of, outcome_of}
use Rattle.ledger.specs.declared.book.Ledger.{Ledger}
use Rattle.ledger.specs.Answer.{Answer}
use Rattle.ledger.proofs.Accepted.{accepted_meets, has_room}
use Rattle.ledger.proofs.Take.{taken, take_refusal, refused_writes_nothing}
use Rattle.run.proofs.History.{run_stops, run_ends}
use Rattle.image.specs.Image.{image_bytes, no_ledger, ledger_of, image_of, imaged}
use Rattle.image.proofs.Laws.{image_fills}
use Rattle.calls.specs.Calls.{answer_bytes, room_of, image_then, out_then, image_over, ended_over, take_here, take_out, run_image}

-- A record is accepted only where the bytes are an image.
pub accepted_image : (image bytes : List ℕ) (room : ℕ) → refusal_of (ledger_of image) bytes room ≡ 0 → length image ≡ image_bytes
unfolding ledger_of no_ledger
accepted_image image bytes room e = by (eqb (length image) image_bytes) refl
  where
    by : (b : Bool) → eqb (length image) image_bytes ≡ b → length image ≡ image_bytes
    by true i = eqb-true (length image) image_bytes i
    by false i = absurd (omega (arith, (accepted_meets no_ledger bytes room (simp i at e)).more))

pub when_zero : (q : ℕ) (x y : List ℕ) → q ≡ 0 → cond (eqb q 0) x y ≡ x
when_zero q x y e = ap (λ (b : Bool). cond b x y) (eq-eqb q 0 e)

pub when_not : (q : ℕ) (x y : List ℕ) → (q ≡ 0 → ⊥) → cond (eqb q 0) x y ≡ y
when_not q x y e = ap (λ (b : Bool). cond b x y) (ne_eqb q 0 e)

-- Where there is any room, all of the output is lent.
room_all : (out answer : ℕ) → 0 < room_of out answer → room_of out answer ≡ out
unfolding room_of
room_all out answer = by (ltb answer answer_bytes)
  where
    by : (b : Bool) → 0 < cond b 0 out → cond b 0 out ≡ out
    by true h = absurd (omega arith)
    by false h = refl

pub room_most : (out answer : ℕ) → room_of out answer ≤ out
unfolding room_of
room_most out answer = by (ltb answer answer_bytes)
  where
    by : (b : Bool) → cond b 0 out ≤ out
    by true = omega arith
    by false = omega arith

-- What the step writes goes by its answer.
written_then : (l : Ledger) (bytes out : List ℕ) → written_of l bytes out ≡ out_then (take_of l bytes (length out)) out
unfolding written_of out_then accepted_of
written_then l bytes out =
    elim (ℕ_discrete (refusal_of l bytes (length out)) 0) [
      | yes e ↦ rw (taken l bytes (length out) e, e)
      | no e ↦
          refused_writes_nothing l bytes out e
          ∙ sym (when_not (take_of l bytes (length out)).refusal (output_record (take_of l bytes (length out)) ++ drop record_bytes out) out (λ z. e (sym (take_refusal l bytes (length out)) ∙ z)))
    ]

-- What an answer leaves of an output of which so much is lent, and of an image.
module _ (out answer : List ℕ) (room : ℕ) (e : room ≡ room_of (length out) (length answer)) where
  abbrev part : List ℕ
  part = take room out

  pub part_length : length part ≡ room
  part_length = length-take-le room out (rw e (room_most (length out) (length answer)))

  pub out_left_lem : (a : Answer) → (a.refusal ≡ 0 → record_bytes ≤ room) → {left : List ℕ} → left ≡ out_then a part → left ++ drop room out ≡ out_then a out
  unfolding out_then
  out_left_lem a enough w =
      elim (ℕ_discrete a.refusal 0) [
        | yes z ↦
            let all : room ≡ length out = e ∙ room_all (length out) (length answer) (rw (← e) (omega (arith, enough z))) in
            let whole : part ≡ out = take_all room out (omega arith) in
            let none : drop room out ≡ [] = drop_of_length-le out {i = room} (omega arith) in
            rw (w, whole, none, append-nil)
        | no z ↦ rw (w, when_not a.refusal (output_record a ++ drop record_bytes part) part z) (take-append-drop room out ∙ sym (when_not a.refusal (output_record a ++ drop record_bytes out) out z))
      ]

-- An accepted record's image is written over an image, by the step that accepts it.
pub image_kept : (a : Answer) (image : List ℕ) → (a.refusal ≡ 0 → length image ≡ image_bytes) → image_over a image ≡ image_then a image
unfolding image_over image_then
image_kept a image size =
    elim (ℕ_discrete a.refusal 0) [
      | yes z ↦ when_zero a.refusal (imaged a.ledger image) image z ∙ image_fills a.ledger image (size z) ∙ sym (when_zero a.refusal (image_of a.ledger) image z)
      | no z ↦ when_not a.refusal (imaged a.ledger image) image z ∙ sym (when_not a.refusal (image_of a.ledger) image z)
    ]

-- One record, with so much of the output lent: the step on that part is the step that is promised.
module _ (image bytes out answer : List ℕ) (room : ℕ) (e : room ≡ room_of (length out) (length answer)) where
  abbrev l : Ledger
  l = ledger_of image

  abbrev a : Answer
  a = take_here image bytes out answer

  here : take_of l bytes (length (take room out)) ≡ a
  unfolding take_here
  here = ap (take_of l bytes) (part_length out answer room e ∙ e)

  pub step_is : take_of l bytes (length (take room out)) ≡ a
  step_is = here

  plain : a.refusal ≡ 0 → refusal_of l bytes room ≡ 0
  plain z = sym (take_refusal l bytes room) ∙ ap (λ (k : ℕ). (take_of l bytes k).refusal) (sym (part_length out answer room e)) ∙ ap (λ (x : Answer). x.refusal) here ∙ z

  pub output_left : {left : List ℕ} → left ≡ written_of l bytes (take room out) → left ++ drop room out ≡ take_out image bytes out answer
  unfolding take_out
  output_left w =
      out_left_lem out answer room e a (λ z. has_room l bytes room (plain z)) (w ∙ written_then l bytes (take room out) ∙ ap (λ (x : Answer). out_then x (take room out)) here)

  pub image_of_lem : a.refusal ≡ 0 → length image ≡ image_bytes
  image_of_lem z = accepted_image image bytes room (plain z)

-- A run that accepts a record began from an image.
pub ran_image : (image : List ℕ) (records : List (List ℕ)) (room : ℕ) → 0 < length (run_of (ledger_of image) records room).accepted → length image ≡ image_bytes
ran_image image [] room h = absurd (omega (arith, ap (λ (r : Run). length r.accepted) (run_ends (ledger_of image) room)))
ran_image image (bytes ∷ rest) room h =
    elim (ℕ_discrete (refusal_of (ledger_of image) bytes room) 0) [
      | yes e ↦ accepted_image image bytes room e
      | no e ↦ absurd (omega (arith, ap (λ (r : Run). length r.accepted) (run_stops (ledger_of image) bytes rest room (refusal_of (ledger_of image) bytes room) refl e)))
    ]

-- The image that a run leaves, where one that accepts a record began from an image.
pub image_ended : (image : List ℕ) (r : Run) → (0 < length r.accepted → length image ≡ image_bytes) → ended_over (outcome_of r) image ≡ run_image image r
unfolding ended_over run_image outcome_of
image_ended image r size =
    let n = length r.accepted in
    elim (ℕ_discrete n 0) [
      | yes z ↦ when_zero n image (imaged r.ledger image) z ∙ sym (when_zero n image (image_of r.ledger) z)
      | no z ↦ when_not n image (imaged r.ledger image) z ∙ image_fills r.ledger image (size (omega arith)) ∙ sym (when_not n image (image_of r.ledger) z)
    ]
