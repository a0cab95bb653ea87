-- The promises on yearly totals, proved.
use mathlib.Core.Path.{◌≡◌, refl, sym, ap, ◌∙◌}
use mathlib.Core.Bool.{Bool, true, false}
use mathlib.Core.Logic.{◌↔◌}
use mathlib.Core.List.{List, [], ◌∷◌, ◌++◌, map, append_assoc, append-nil}
use Prim.Native.Nat.{ℕ, ◌*◌, ◌<◌}
use native.Mathlib.Decide.{ℕ_discrete}
use native.Mathlib.Omega.{arith}
use borrow.Author.Tests.{ne_eqb}
use lib.ListN.{length, take, drop, replicate}
use lib.Seq.{take_at, drop_at}
use Rattle.waste.specs.Kind.{is_yearly}
use Rattle.record.specs.Fields.{record_bytes, period_of, kind_of}
use Rattle.ledger.specs.Step.{fresh}
use Rattle.ledger.specs.Refusal.{refusal_of, NoneAhead}
use Rattle.ledger.specs.Take.{accepted_of, refused_of, take_of, output_record}
use Rattle.ledger.specs.declared.book.Ledger.{Ledger}
use Rattle.ledger.specs.Answer.{Answer}
use Rattle.ledger.proofs.Take.{taken, take_refusal, output_length}
use Rattle.run.specs.History.{Offer, Turn, turns, accepted, leading, outputs, cut, records_of, in_turn, out_of}
use Rattle.run.proofs.History.{accepted_turn}
use Rattle.year_slots.specs.Slots.{slot_row, differs}
use Rattle.yearly_totals.specs.Months.{month_refusal, take_month_of, month_totals, written_month, totals_then, month_turns, totals_after, month_run_of}
use Rattle.yearly_totals.specs.YearRun.{as_monthly}
use Rattle.yearly_totals.proofs.Refusals.{wrong_length, month_refused, month_taken, taken_meets}
use Rattle.yearly_totals.proofs.Turns.{taken_month, not_taken_month, month_refusal_lem, right_run, wrong_run, month_ends}
use Rattle.yearly_totals.proofs.OneMonth.{refused_month}
use Rattle.promise_totals.specs.Afresh.{of_year, year_slot, afresh, zeros, outputs_of}
use Rattle.promise_totals.specs.Promise.{taken_offers, SlotFits, TotalsPromise}
use Rattle.promise_totals.proofs.Years.{afresh_part}
use Rattle.promise_totals.proofs.Numbers.{never_28, is_27, is_32, plain_small, none_ahead, ahead_none, fits_is, is_fit}
use Rattle.promise_totals.proofs.KeptTotals.{Kept, fresh_kept, stays_kept, after_offers}

untouched : (offers : List Offer) (k : ℕ) → k < 100 → let done = month_turns fresh zeros offers in
    of_year k (outputs_of done) ≡ [] → take 32 (drop (32 * k) (totals_after zeros done)) ≡ replicate 32 0
unfolding slot_row year_slot
untouched offers k h none =
    let outs = outputs_of (month_turns fresh zeros offers) in
    let is : totals_after zeros (month_turns fresh zeros offers) ≡ afresh outs = (after_offers offers fresh_kept).buffer in
    rw is (afresh_part outs k h ∙ ap (λ (mine : List (List ℕ)). slot_row (year_slot k mine)) none)

-- The leading turns of a run, and their output records in the output.
abbrev output_records : List Turn → List (List ℕ)
output_records done = map (λ turn. output_record turn.answer) done

after_leading : (offers : List Offer) {l : Ledger} {totals : List ℕ} {outs : List (List ℕ)} → Kept l totals outs → let done = leading (month_turns l totals offers) in
    totals_after totals done ≡ afresh (outs ++ output_records done)
unfolding month_turns leading totals_after accepted_of refused_of
after_leading [] {l} {totals} {outs} h = h.is ∙ ap afresh (sym (append-nil outs))
after_leading (offer ∷ rest) {l} {totals} {outs} h =
    let bytes = offer.bytes in
    let room = offer.room in
    elim (ℕ_discrete (month_refusal l totals bytes room) 0) [
      | yes e ↦
          let o = output_record (accepted_of l bytes) in
          let on = after_leading rest (stays_kept h bytes room (taken_meets l totals bytes room e).none) in
          let more = leading (month_turns (accepted_of l bytes).ledger (totals_then totals (accepted_turn l bytes)) rest) in
          rw (taken_month l totals bytes room e) (on ∙ ap afresh (append_assoc outs (o ∷ []) (output_records more)))
      | no e ↦ rw (not_taken_month l totals bytes room e) (simp (ne_eqb (month_refusal l totals bytes room) 0 e) (h.is ∙ ap afresh (sym (append-nil outs))))
    ]

cut_outputs : (done : List Turn) (rest : List ℕ) → cut (length done) (outputs done ++ rest) ≡ output_records done
unfolding cut outputs
cut_outputs [] rest = refl
cut_outputs (turn ∷ done) rest =
    let o = output_record turn.answer in
    rw (append_assoc o (outputs done) rest, take_at o (outputs done ++ rest) record_bytes (output_length turn.answer), drop_at o (outputs done ++ rest) record_bytes (output_length turn.answer))
    (ap (λ (outs : List (List ℕ)). o ∷ outs) (cut_outputs done rest))

run_as_afresh : (file out : List ℕ) → let r = month_run_of fresh zeros (records_of file) (length out) in
    totals_after zeros r.accepted ≡ afresh (cut (length r.accepted) (out_of r out))
unfolding out_of
run_as_afresh file out =
    let r = right_run fresh zeros (records_of file) (length out) refl in
    let done = leading (month_turns fresh zeros (in_turn (records_of file) (length out))) in
    rw r (after_leading (in_turn (records_of file) (length out)) fresh_kept ∙ ap afresh (sym (cut_outputs done (drop (length (outputs done)) out))))

-- One record, by its refusal.
module _ (l : Ledger) (totals bytes : List ℕ) (room : ℕ) where
  abbrev answer : Answer
  answer = take_month_of l totals bytes room

  abbrev q : ℕ
  q = refusal_of l bytes room

  refused_is : answer.refusal ≡ month_refusal l totals bytes room
  refused_is = month_refusal_lem l totals bytes room

  own_answer : answer.refusal ≡ 0 → answer ≡ take_of l bytes room
  own_answer z =
      let none = sym refused_is ∙ z in
      taken_month l totals bytes room none ∙ sym (taken l bytes room (taken_meets l totals bytes room none).none)

  taken_where : (answer.refusal ≡ 0) ↔ ((length totals ≡ 3200) × ((take_of l bytes room).refusal ≡ 0) × (is_yearly (kind_of bytes) ≡ false) × SlotFits totals (period_of bytes))
  taken_where = (
    λ z. let t = taken_meets l totals bytes room (sym refused_is ∙ z) in (t.size, take_refusal l bytes room ∙ t.none, t.month, fits_is totals (period_of bytes) t.agrees),
    λ t. refused_is ∙ month_taken l totals bytes room t.0 (sym (take_refusal l bytes room) ∙ t.1) t.2 (is_fit totals (period_of bytes) t.3),
  )

  -- a buffer of another length has the refusal 28, and no other has
  sized : {k : ℕ} → answer.refusal ≡ k → (k ≡ 28 → ⊥) → length totals ≡ 3200
  sized z other =
      elim (ℕ_discrete (length totals) 3200) [
        | yes size ↦ size
        | no size ↦ absurd (other (sym z ∙ refused_is ∙ wrong_length l totals bytes room size))
      ]

  abbrev turned : ℕ
  turned = as_monthly q (is_yearly (kind_of bytes)) (differs totals (period_of bytes))

  turned_is : length totals ≡ 3200 → answer.refusal ≡ turned
  turned_is size = refused_is ∙ month_refused l totals bytes room size

  refused_28 : (answer.refusal ≡ 28) ↔ (length totals ≡ 3200 → ⊥)
  refused_28 = (
    λ z size. never_28 q (is_yearly (kind_of bytes)) (differs totals (period_of bytes)) (plain_small l bytes room) (sym (turned_is size) ∙ z),
    λ other. refused_is ∙ wrong_length l totals bytes room other,
  )

  refused_27 : (answer.refusal ≡ 27) ↔ ((length totals ≡ 3200) × NoneAhead 6 l bytes room × (is_yearly (kind_of bytes) ≡ true))
  unfolding as_monthly
  refused_27 = (
    λ z. let size = sized z (λ e. omega arith) in
        let p = is_27 q (is_yearly (kind_of bytes)) (differs totals (period_of bytes)) (plain_small l bytes room) (sym (turned_is size) ∙ z) in
        (size, none_ahead l bytes room p.1, p.0),
    λ t. turned_is t.0 ∙ simp (t.2, ahead_none l bytes room t.1),
  )

  refused_32 : (answer.refusal ≡ 32) ↔ ((length totals ≡ 3200) × ((take_of l bytes room).refusal ≡ 0) × (is_yearly (kind_of bytes) ≡ false) × (SlotFits totals (period_of bytes) → ⊥))
  unfolding as_monthly
  refused_32 = (
    λ z. let size = sized z (λ e. omega arith) in
        let p = is_32 q (is_yearly (kind_of bytes)) (differs totals (period_of bytes)) (plain_small l bytes room) (sym (turned_is size) ∙ z) in
        (size, take_refusal l bytes room ∙ p.0, p.1, λ f. let same = sym p.2 ∙ is_fit totals (period_of bytes) f in let no : ◌≡◌ {A = ℕ} 0 1 = cc in omega arith),
    λ t. turned_is t.0 ∙ simp (sym (take_refusal l bytes room) ∙ t.1, t.2, other t.3 (differs totals (period_of bytes)) refl),
  )
    where
      other : (SlotFits totals (period_of bytes) → ⊥) → (d : Bool) → differs totals (period_of bytes) ≡ d → d ≡ true
      other unfit true e = refl
      other unfit false e = absurd (unfit (fits_is totals (period_of bytes) e))

an_offering : (offers : List Offer) (l : Ledger) (totals : List ℕ) → accepted (month_turns l totals offers) ≡ turns l (taken_offers l totals offers)
unfolding month_turns taken_offers accepted turns accepted_of refused_of
an_offering [] l totals = refl
an_offering (offer ∷ rest) l totals =
    let bytes = offer.bytes in
    let room = offer.room in
    elim (ℕ_discrete (month_refusal l totals bytes room) 0) [
      | yes e ↦
          rw (taken_month l totals bytes room e, taken l bytes room (taken_meets l totals bytes room e).none)
          (ap (λ (ts : List Turn). accepted_turn l bytes ∷ ts) (an_offering rest (accepted_of l bytes).ledger (totals_then totals (accepted_turn l bytes))))
      | no e ↦
          rw (not_taken_month l totals bytes room e)
          (simp (ne_eqb (month_refusal l totals bytes room) 0 e)
          (an_offering rest l (totals_then totals (record { before = l; bytes = bytes; answer = refused_of l (month_refusal l totals bytes room) }))))
    ]

refused_stays : (l : Ledger) (totals bytes out : List ℕ) → let a = take_month_of l totals bytes (length out) in
    (a.refusal ≡ 0 → ⊥) → (a ≡ refused_of l a.refusal) × (month_totals l totals bytes (length out) ≡ totals) × (written_month l totals bytes out ≡ out)
refused_stays l totals bytes out some =
    let a = take_month_of l totals bytes (length out) in
    let r = refused_month l totals bytes out a.refusal (sym (month_refusal_lem l totals bytes (length out))) some in
    (sym r.0, sym r.1.0, sym r.1.1)

empty_file : (l : Ledger) (totals : List ℕ) (room : ℕ) → let r = month_run_of l totals [] room in
    (r.ledger ≡ l) × (r.accepted ≡ []) × ((length totals ≡ 3200) → r.refusal ≡ 0) × ((length totals ≡ 3200 → ⊥) → r.refusal ≡ 28)
empty_file l totals room =
    elim (ℕ_discrete (length totals) 3200) [
      | yes size ↦ rw (month_ends l totals size room) (refl, refl, λ z. refl, λ z. absurd (z size))
      | no size ↦ rw (wrong_run l totals [] room size) (refl, refl, λ z. absurd (size z), λ z. refl)
    ]

pub totals_promise : TotalsPromise
totals_promise =
    record {
      as_afresh = λ offers. (after_offers offers fresh_kept).buffer;
      untouched = untouched;
      run_as_afresh = run_as_afresh;
      own_answer = own_answer;
      taken_where = taken_where;
      an_offering = λ l totals offers. an_offering offers l totals;
      as_plain = λ offers none. (after_offers offers fresh_kept).plain none;
      never_32 = λ offers. (after_offers offers fresh_kept).never 0;
      refused_28 = refused_28;
      refused_27 = refused_27;
      refused_32 = refused_32;
      refused_stays = refused_stays;
      empty_file = empty_file;
    }
