-- How a history with totals goes: a record that is accepted, one that is refused, and stretches one after another.
use mathlib.Core.Path.{◌≡◌, refl, sym, ap, ◌∙◌}
use mathlib.Core.Bool.{Bool, true, false, cond}
use mathlib.Core.List.{List, [], ◌∷◌, ◌++◌}
use Prim.Native.Nat.{ℕ, ◌-◌, ◌*◌, ◌≤◌}
use native.Mathlib.Decide.{ℕ_discrete}
use native.Mathlib.Omega.{arith}
use borrow.Author.Tests.{eq-eqb, ne_eqb, le-ltb}
use lib.Dec.{eqb}
use lib.ListN.{length}
use Rattle.record.specs.Fields.{record_bytes, period_of}
use Rattle.refusal.specs.Refusal.{faults_of}
use Rattle.ledger.specs.Take.{accepted_of, refused_of}
use Rattle.ledger.specs.declared.book.Ledger.{Ledger}
use Rattle.ledger.specs.Answer.{Answer}
use Rattle.run.specs.History.{Offer, Turn, ledger_after, leading, ending, in_turn, Run, read_off}
use Rattle.run.proofs.History.{stopped, on_from, accepted_turn, goes_on, stops, none_refused, read_join, read_refused, in_turn_join}
use Rattle.year_slots.specs.Slots.{totals_bytes, added_to}
use Rattle.year_slots.proofs.Months.{added_length}
use Rattle.yearly_totals.specs.Months.{month_faults, month_refusal, take_month_of, month_turn_of, totals_then, month_turns, totals_after, month_run_of}

module _ (l : Ledger) (totals bytes : List ℕ) (room : ℕ) where
  pub taken_month : month_refusal l totals bytes room ≡ 0 → take_month_of l totals bytes room ≡ accepted_of l bytes
  unfolding take_month_of
  taken_month e = rw e

  pub not_taken_month : (month_refusal l totals bytes room ≡ 0 → ⊥) → take_month_of l totals bytes room ≡ refused_of l (month_refusal l totals bytes room)
  unfolding take_month_of
  not_taken_month e = simp (ne_eqb (month_refusal l totals bytes room) 0 e)

  -- The refusal that a step answers is the number of the first fault.
  pub month_refusal_lem : (take_month_of l totals bytes room).refusal ≡ month_refusal l totals bytes room
  unfolding accepted_of refused_of
  month_refusal_lem =
      elim (ℕ_discrete (month_refusal l totals bytes room) 0) [
        | yes e ↦ ap (λ (a : Answer). a.refusal) (taken_month e) ∙ sym e
        | no e ↦ ap (λ (a : Answer). a.refusal) (not_taken_month e)
      ]

-- An accepted record is added to its slot, and a refused one changes nothing.
pub added_then : (totals : List ℕ) (turn : Turn) → turn.answer.refusal ≡ 0
    → totals_then totals turn ≡ added_to totals (period_of turn.bytes) turn.answer.x0 turn.answer.figure turn.answer.bound
unfolding totals_then
added_then totals turn e = simp (eq-eqb turn.answer.refusal 0 e)

pub stays_then : (totals : List ℕ) (turn : Turn) → (turn.answer.refusal ≡ 0 → ⊥) → totals_then totals turn ≡ totals
unfolding totals_then
stays_then totals turn e = simp (ne_eqb turn.answer.refusal 0 e)

-- The buffer keeps its length.
pub then_length : (totals : List ℕ) (turn : Turn) → length (totals_then totals turn) ≡ length totals
unfolding totals_then
then_length totals turn = by (eqb turn.answer.refusal 0)
  where
    by : (test : Bool) → length (cond test (added_to totals (period_of turn.bytes) turn.answer.x0 turn.answer.figure turn.answer.bound) totals) ≡ length totals
    by true = added_length totals (period_of turn.bytes) turn.answer.x0 turn.answer.figure turn.answer.bound
    by false = refl

pub after_length : (totals : List ℕ) (done : List Turn) → length (totals_after totals done) ≡ length totals
unfolding totals_after
after_length totals [] = refl
after_length totals (turn ∷ rest) = after_length (totals_then totals turn) rest ∙ then_length totals turn

pub after_join : (totals : List ℕ) (done more : List Turn) → totals_after totals (done ++ more) ≡ totals_after (totals_after totals done) more
unfolding totals_after
after_join totals [] more = refl
after_join totals (turn ∷ rest) more = after_join (totals_then totals turn) rest more

turns_join : (l : Ledger) (totals : List ℕ) (first more : List Offer) → let done = month_turns l totals first in
    month_turns l totals (first ++ more) ≡ done ++ month_turns (ledger_after l done) (totals_after totals done) more
unfolding month_turns ledger_after totals_after
turns_join l totals [] more = refl
turns_join l totals (offer ∷ rest) more =
    let turn = month_turn_of l totals offer in
    ap (λ (all : List Turn). turn ∷ all) (turns_join turn.answer.ledger (totals_then totals turn) rest more)

-- With a buffer of 3200 bytes a run is its first step and the run of the rest, ...
abbrev pub totals_with : (totals : List ℕ) → Ledger → List ℕ → List ℕ
totals_with totals l bytes = totals_then totals (accepted_turn l bytes)

pub right_run : (l : Ledger) (totals : List ℕ) (records : List (List ℕ)) (room : ℕ) → length totals ≡ totals_bytes
    → month_run_of l totals records room ≡ read_off l (month_turns l totals (in_turn records room))
unfolding month_run_of
right_run l totals records room size = simp (eq-eqb (length totals) totals_bytes size)

pub wrong_run : (l : Ledger) (totals : List ℕ) (records : List (List ℕ)) (room : ℕ) → (length totals ≡ totals_bytes → ⊥)
    → month_run_of l totals records room ≡ stopped l 28
unfolding month_run_of
wrong_run l totals records room e = simp (ne_eqb (length totals) totals_bytes e)

module _ (l : Ledger) (totals : List ℕ) (size : length totals ≡ totals_bytes) where
  module _ (bytes : List ℕ) (rest : List (List ℕ)) (room : ℕ) where
    abbrev turn : Turn
    turn = month_turn_of l totals (record { bytes = bytes; room = room })

    pub month_goes_on : month_refusal l totals bytes room ≡ 0
        → month_run_of l totals (bytes ∷ rest) room
        ≡ on_from (accepted_turn l bytes ∷ []) (month_run_of (accepted_of l bytes).ledger (totals_with totals l bytes) rest (room - record_bytes))
    unfolding month_turns in_turn accepted_of
    month_goes_on e =
        let is = taken_month l totals bytes room e in
        right_run l totals (bytes ∷ rest) room size
        ∙ goes_on l turn (month_turns turn.answer.ledger (totals_then totals turn) (in_turn rest (room - record_bytes))) (ap (λ (a : Answer). a.refusal) is)
        ∙ rw (is, right_run (accepted_of l bytes).ledger (totals_with totals l bytes) rest (room - record_bytes) (then_length totals (accepted_turn l bytes) ∙ size))

    -- ... or stops at a record that is refused.
    pub month_stops : (q : ℕ) → month_refusal l totals bytes room ≡ q → (q ≡ 0 → ⊥) → month_run_of l totals (bytes ∷ rest) room ≡ stopped l q
    unfolding month_turns in_turn refused_of
    month_stops q e h =
        let is = ap (λ (a : Answer). a.refusal) (not_taken_month l totals bytes room (λ z. h (sym e ∙ z))) ∙ e in
        right_run l totals (bytes ∷ rest) room size
        ∙ stops l turn (month_turns turn.answer.ledger (totals_then totals turn) (in_turn rest (room - record_bytes))) (λ z. h (sym is ∙ z))
        ∙ ap (stopped l) is

  pub month_ends : (room : ℕ) → month_run_of l totals [] room ≡ stopped l 0
  unfolding month_turns in_turn leading ending ledger_after
  month_ends room = right_run l totals [] room size

  -- Two stretches are one, where the first ends without refusal; records after one that is refused change nothing.
  module _ (xs ys : List (List ℕ)) (room : ℕ) where
    abbrev first : List Turn
    first = month_turns l totals (in_turn xs room)

    abbrev more : List Turn
    more = month_turns (ledger_after l first) (totals_after totals first) (in_turn ys (room - record_bytes * length xs))

    joined_run : month_run_of l totals (xs ++ ys) room ≡ read_off l (first ++ more)
    joined_run =
        right_run l totals (xs ++ ys) room size
        ∙ rw (in_turn_join xs ys room, turns_join l totals (in_turn xs room) (in_turn ys (room - record_bytes * length xs)))

    pub month_join : let r = month_run_of l totals xs room in r.refusal ≡ 0
        → month_run_of l totals (xs ++ ys) room ≡ on_from r.accepted (month_run_of r.ledger (totals_after totals r.accepted) ys (room - record_bytes * length xs))
    month_join none =
        let r = right_run l totals xs room size in
        let none' : ending first ≡ 0 = sym (ap (λ (r : Run). r.refusal) r) ∙ none in
        joined_run ∙ read_join l first more none'
        ∙ rw (r, (none_refused first none').1, right_run (ledger_after l first) (totals_after totals first) ys (room - record_bytes * length xs) (after_length totals first ∙ size))

    pub month_refused_run : ((month_run_of l totals xs room).refusal ≡ 0 → ⊥) → month_run_of l totals (xs ++ ys) room ≡ month_run_of l totals xs room
    month_refused_run some =
        let r = right_run l totals xs room size in
        joined_run ∙ read_refused l first more (λ z. some (ap (λ (r : Run). r.refusal) r ∙ z)) ∙ sym r

-- With room for every output record, how much room there is changes nothing.
month_alike : (l : Ledger) (totals bytes : List ℕ) (room more : ℕ) → record_bytes ≤ room → record_bytes ≤ more → month_refusal l totals bytes room ≡ month_refusal l totals bytes more
unfolding month_refusal month_faults faults_of
month_alike l totals bytes room more h k = simp (le-ltb room record_bytes h, le-ltb more record_bytes k)

pub month_roomy : (l : Ledger) (totals : List ℕ) → length totals ≡ totals_bytes → (xs : List (List ℕ)) (room more : ℕ) → record_bytes * length xs ≤ room → record_bytes * length xs ≤ more
    → month_run_of l totals xs room ≡ month_run_of l totals xs more
month_roomy l totals size [] room more h k = month_ends l totals size room ∙ sym (month_ends l totals size more)
month_roomy l totals size (bytes ∷ xs) room more h k =
    let same = month_alike l totals bytes room more (omega arith) (omega arith) in
    elim (ℕ_discrete (month_refusal l totals bytes room) 0) [
      | yes e ↦ month_goes_on l totals size bytes xs room e
          ∙ ap (on_from (accepted_turn l bytes ∷ []))
          (month_roomy (accepted_of l bytes).ledger (totals_with totals l bytes) (then_length totals (accepted_turn l bytes) ∙ size) xs (room - record_bytes) (more - record_bytes) (omega arith) (omega arith))
          ∙ sym (month_goes_on l totals size bytes xs more (sym same ∙ e))
      | no e ↦ month_stops l totals size bytes xs room (month_refusal l totals bytes room) refl e ∙ sym (month_stops l totals size bytes xs more (month_refusal l totals bytes room) (sym same) e)
    ]
