-- Document 02, request l, 'Yearly totals beside a monthly run'. proofs/Proved.antt proves `TotalsPromise`.
use Rattle.std.specs.Prelude.{◌≡◌, true, false, cond, ◌↔◌, List, [], ◌∷◌, ℕ, ◌+◌, ◌-◌, ◌*◌, ◌/◌, ◌%◌, ◌^◌, ◌≤◌, ◌<◌, length, get_or, take, drop, replicate}
use Rattle.numbers.specs.Lists.{Each}
use Rattle.waste.specs.Kind.{is_yearly}
use Rattle.record.specs.Fields.{period_of, kind_of}
use Rattle.ledger.specs.Step.{fresh}
use Rattle.ledger.specs.Refusal.{NoneAhead}
use Rattle.ledger.specs.Take.{take_of, refused_of}
use Rattle.ledger.specs.declared.book.Ledger.{Ledger}
use Rattle.run.specs.History.{Offer, is_accepted, accepted, turns, cut, records_of, out_of}
use Rattle.year_slots.specs.Slots.{slot_at}
use Rattle.yearly_totals.specs.Months.{take_month_of, month_turn_of, totals_then, month_totals, written_month, month_turns, totals_after, month_run_of}
use Rattle.promise_totals.specs.Afresh.{of_year, afresh, zeros, outputs_of}

-- No offered record is yearly.
abbrev pub NoneYearly : List Offer → Type 0
NoneYearly [] = Unit
NoneYearly (offer ∷ rest) = (is_yearly (kind_of offer.bytes) ≡ false) × NoneYearly rest

-- The offers that are accepted.
unfoldable pub taken_offers : Ledger → (totals : List ℕ) → List Offer → List Offer
taken_offers l totals [] = []
taken_offers l totals (offer ∷ rest) =
    let turn = month_turn_of l totals offer in
    let next = taken_offers turn.answer.ledger (totals_then totals turn) rest in
    cond (is_accepted turn) (offer ∷ next) next

-- 32 'where the slot's months are not the remainder of n − 1 by 12, a sum stored there is above 10^19, with months above 0 its year is not its
-- slot plus 1, or with 0 months any byte of it is not 0'; here what the slot of period n is otherwise.
pub record SlotFits (totals : List ℕ) (n : ℕ) : Type 0 where
  pub months : (slot_at totals ((n - 1) / 12)).months ≡ (n - 1) % 12
  pub x0 : (slot_at totals ((n - 1) / 12)).x0 ≤ 10 ^ 19
  pub figure : (slot_at totals ((n - 1) / 12)).figure ≤ 10 ^ 19
  pub bound : (slot_at totals ((n - 1) / 12)).bound ≤ 10 ^ 19
  pub begun : 0 < (slot_at totals ((n - 1) / 12)).months → (slot_at totals ((n - 1) / 12)).year ≡ (n - 1) / 12 + 1
  pub blank : (slot_at totals ((n - 1) / 12)).months ≡ 0 → (i : ℕ) → i < 32 → get_or totals (32 * ((n - 1) / 12) + i) 0 ≡ 0

pub record TotalsPromise : Type 0 where
  -- 'From a fresh ledger and a buffer of zeros, after any list of offered records the buffer equals the one worked out afresh from the output
  -- records of the accepted ones;
  pub as_afresh : (offers : List Offer) → let done = month_turns fresh zeros offers in totals_after zeros done ≡ afresh (outputs_of done)
  -- untouched slots are all zero.'
  pub untouched : (offers : List Offer) (k : ℕ) → k < 100 → let done = month_turns fresh zeros offers in
      of_year k (outputs_of done) ≡ [] → take 32 (drop (32 * k) (totals_after zeros done)) ≡ replicate 32 0
  -- The same of a file that is run, from the bytes of its output.
  pub run_as_afresh : (file out : List ℕ) → let r = month_run_of fresh zeros (records_of file) (length out) in
      totals_after zeros r.accepted ≡ afresh (cut (length r.accepted) (out_of r out))
  -- Each answer is the step's own when it is accepted,
  pub own_answer : (l : Ledger) (totals bytes : List ℕ) (room : ℕ) → (take_month_of l totals bytes room).refusal ≡ 0 → take_month_of l totals bytes room ≡ take_of l bytes room
  -- and it is where the step accepts a monthly record, the buffer is 3200 bytes, and the record's slot fits.
  pub taken_where : (l : Ledger) (totals bytes : List ℕ) (room : ℕ)
      → ((take_month_of l totals bytes room).refusal ≡ 0)
      ↔ ((length totals ≡ 3200) × ((take_of l bytes room).refusal ≡ 0) × (is_yearly (kind_of bytes) ≡ false) × SlotFits totals (period_of bytes))
  -- So the accepted records are an offering of the step, whatever the buffer, and demand 3 holds of them.
  pub an_offering : (l : Ledger) (totals : List ℕ) (offers : List Offer) → accepted (month_turns l totals offers) ≡ turns l (taken_offers l totals offers)
  -- From a fresh ledger and a buffer of zeros, monthly records are answered as the step answers them, and 32 never occurs.
  pub as_plain : (offers : List Offer) → NoneYearly offers → month_turns fresh zeros offers ≡ turns fresh offers
  pub never_32 : (offers : List Offer) → Each (λ i turn. turn.answer.refusal ≡ 32 → ⊥) 0 (month_turns fresh zeros offers)
  -- 'Refusals: 28 a buffer that is not 3200 bytes, before 1; 27 a yearly record, between 5 and 6; 32, last, [..]
  pub refused_28 : (l : Ledger) (totals bytes : List ℕ) (room : ℕ) → ((take_month_of l totals bytes room).refusal ≡ 28) ↔ (length totals ≡ 3200 → ⊥)
  pub refused_27 : (l : Ledger) (totals bytes : List ℕ) (room : ℕ)
      → ((take_month_of l totals bytes room).refusal ≡ 27) ↔ ((length totals ≡ 3200) × NoneAhead 6 l bytes room × (is_yearly (kind_of bytes) ≡ true))
  pub refused_32 : (l : Ledger) (totals bytes : List ℕ) (room : ℕ)
      → ((take_month_of l totals bytes room).refusal ≡ 32)
      ↔ ((length totals ≡ 3200) × ((take_of l bytes room).refusal ≡ 0) × (is_yearly (kind_of bytes) ≡ false) × (SlotFits totals (period_of bytes) → ⊥))
  -- ledger, buffer and output then stay.'
  pub refused_stays : (l : Ledger) (totals bytes out : List ℕ) → let a = take_month_of l totals bytes (length out) in
      (a.refusal ≡ 0 → ⊥) → (a ≡ refused_of l a.refusal) × (month_totals l totals bytes (length out) ≡ totals) × (written_month l totals bytes out ≡ out)
  -- The buffer belongs to the call: an empty file is refused with 28 where it has another length, and else answered with 0, whatever the ledger.
  pub empty_file : (l : Ledger) (totals : List ℕ) (room : ℕ) → let r = month_run_of l totals [] room in
      (r.ledger ≡ l) × (r.accepted ≡ []) × ((length totals ≡ 3200) → r.refusal ≡ 0) × ((length totals ≡ 3200 → ⊥) → r.refusal ≡ 28)
