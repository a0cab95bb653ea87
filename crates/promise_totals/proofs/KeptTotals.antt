-- From a fresh ledger and a buffer of zeros, the slot of the next month always fits: its months are those of the year so far, and all sums
-- together are at most what the ledger has released.
use mathlib.Core.Path.{◌≡◌, refl, sym, ap, ◌∙◌}
use mathlib.Core.Bool.{Bool, true, false, cond, ◌&&◌, ◌||◌, and-false}
use mathlib.Core.List.{List, [], ◌∷◌, ◌++◌, append_assoc, append-nil}
use Prim.Native.Nat.{ℕ, suc, ◌+◌, ◌*◌, ◌/◌, ◌%◌, ◌^◌, ◌≤◌, ◌<◌}
use native.Mathlib.Decide.{dec_le, ℕ_discrete}
use native.Mathlib.Omega.{arith}
use borrow.Author.Tests.{ne_eqb}
use lib.Dec.{eqb, ltb}
use lib.ListN.{length}
use Rattle.numbers.specs.Lists.{added, Each}
use Rattle.numbers.proofs.Eight.{cond_most}
use Rattle.numbers.proofs.Lists.{length_more, added_more}
use Rattle.waste.specs.Kind.{is_yearly}
use Rattle.record.specs.Fields.{period_of, kind_of}
use Rattle.carbon.specs.Carbon.{most_records}
use Rattle.output.proofs.Laws.{Says}
use Rattle.ledger.specs.Step.{fresh, after}
use Rattle.ledger.specs.Refusal.{refusal_of}
use Rattle.ledger.specs.Take.{accepted_of, refused_of, take_of, output_record, output_fields, total_released}
use Rattle.ledger.specs.declared.book.Ledger.{Ledger}
use Rattle.ledger.proofs.Accepted.{Accepted, accepted_meets}
use Rattle.ledger.proofs.Fits.{output_says}
use Rattle.ledger.proofs.Take.{taken, not_taken}
use Rattle.run.specs.History.{Offer, Turn, turns, accepted}
use Rattle.run.proofs.History.{accepted_turn}
use Rattle.year_slots.specs.Slots.{totals_bytes, slot_at, slot_row, differs}
use Rattle.year_slots.specs.declared.Slot.{Slot}
use Rattle.year_slots.proofs.Slots.{SmallSlot, zeros_blank, agrees, agrees_blank}
use Rattle.yearly_totals.specs.Months.{month_refusal, totals_then, month_turns, totals_after}
use Rattle.yearly_totals.specs.YearRun.{as_monthly}
use Rattle.yearly_totals.proofs.Refusals.{month_refused, taken_meets, refused_any}
use Rattle.yearly_totals.proofs.Turns.{taken_month, not_taken_month, added_then, stays_then}
use Rattle.yearly_totals.proofs.YearRun.{brings}
use Rattle.promise_totals.specs.Promise.{NoneYearly}
use Rattle.promise_totals.specs.Afresh.{period_in, x0_in, figure_in, bound_in, of_year, year_slot, afresh, zeros, outputs_of}
use Rattle.promise_totals.proofs.Numbers.{plain_small}
use Rattle.promise_totals.proofs.Years.{of_own_year, of_other_year, year_part, afresh_length, afresh_slot, afresh_more}

-- so many of the first n months are in year k + 1
abbrev InYear : (k n months : ℕ) → Type 0
InYear k n months = (n ≤ 12 * k → months ≡ 0) × (12 * k ≤ n → n ≤ 12 * k + 12 → 12 * k + months ≡ n) × (12 * k + 12 ≤ n → months ≡ 12)

pub record Kept (l : Ledger) (totals : List ℕ) (outs : List (List ℕ)) : Type 0 where
  pub is : totals ≡ afresh outs
  pub few : l.n ≤ most_records
  pub counted : (k : ℕ) → InYear k l.n (length (of_year k outs))
  pub x0 : added x0_in outs ≤ total_released l
  pub figure : added figure_in outs ≤ total_released l
  pub bound : added bound_in outs ≤ l.n * 2 ^ 44
  pub released : total_released l ≤ 3 * 10 ^ 18

pub fresh_kept : Kept fresh zeros []
unfolding fresh afresh year_slot of_year total_released slot_row
fresh_kept =
    record {
      is = refl;
      few = omega arith;
      counted = λ k. (λ before. refl, λ low high. omega arith, λ past. absurd (omega arith));
      x0 = omega arith;
      figure = omega arith;
      bound = omega arith;
      released = omega arith;
    }

none_in : {A : Type 0} (xs : List A) → length xs ≡ 0 → xs ≡ []
none_in [] e = refl
none_in (x ∷ xs) e = absurd (omega arith)

module _ {l : Ledger} {totals : List ℕ} {outs : List (List ℕ)} (h : Kept l totals outs) where
  abbrev k : ℕ
  k = l.n / 12

  abbrev mine : List (List ℕ)
  mine = of_year k outs

  months_so_far : length mine ≡ l.n % 12
  months_so_far = omega (arith, (h.counted k).1 (omega arith) (omega arith))

  pub size : length totals ≡ totals_bytes
  size = ap length h.is ∙ afresh_length outs

  small : l.n < most_records → SmallSlot (year_slot k mine)
  unfolding year_slot
  small more =
      let x0 = year_part x0_in k outs in
      let figure = year_part figure_in k outs in
      let bound = year_part bound_in k outs in
      let number : (year_slot k mine).year ≤ k + 1 = cond_most (eqb (length mine) 0) (omega arith) (omega arith) in
      record {
        year = omega (arith, number);
        months = omega (arith, months_so_far);
        x0 = omega (arith, x0, h.x0, h.released);
        figure = omega (arith, figure, h.figure, h.released);
        bound = omega (arith, bound, h.bound, h.few);
      }

  slot_now : l.n < most_records → slot_at totals k ≡ year_slot k mine
  slot_now more = rw h.is (afresh_slot outs k (omega arith) (small more))

  -- The slot of the next month fits.
  pub next_fits : l.n < most_records → differs totals (l.n + 1) ≡ false
  unfolding year_slot
  next_fits more =
      let slot = slot_now more in
      elim (ℕ_discrete (l.n % 12) 0) [
        | yes z ↦
            let none : slot_at totals k ≡ year_slot k [] = slot ∙ ap (year_slot k) (none_in mine (months_so_far ∙ z)) in
            agrees_blank totals l.n z (zeros_blank totals k (ap (λ (s : Slot). s.year) none) (ap (λ (s : Slot). s.months) none) (ap (λ (s : Slot). s.x0) none) (ap (λ (s : Slot). s.figure) none) (ap (λ (s : Slot). s.bound) none))
        | no z ↦
            let number : (year_slot k mine).year ≡ k + 1 = simp (ne_eqb (length mine) 0 (λ y. z (sym months_so_far ∙ y))) in
            agrees totals l.n
            (record {
              months = rw slot months_so_far;
              x0 = rw slot (omega (arith, year_part x0_in k outs, h.x0, h.released));
              figure = rw slot (omega (arith, year_part figure_in k outs, h.figure, h.released));
              bound = rw slot (omega (arith, year_part bound_in k outs, h.bound, h.few));
            })
            z (rw slot number)
      ]

  -- An accepted record goes on so.
  module _ (bytes : List ℕ) (room : ℕ) (ok : refusal_of l bytes room ≡ 0) where
    abbrev a : Accepted l bytes
    a = accepted_meets l bytes room ok

    abbrev o : List ℕ
    o = output_record (accepted_of l bytes)

    said : Says (output_fields (accepted_of l bytes)) o
    said = rw (append-nil o) at (output_says l bytes a [])

    period_is : period_in o ≡ l.n + 1
    unfolding output_fields accepted_of after
    period_is = said.period

    -- its year has one month more, and the others as many as before
    counts : (k : ℕ) → InYear k (l.n + 1) (length (of_year k (outs ++ (o ∷ []))))
    counts k =
        let c = h.counted k in
        elim (dec_le (12 * k) l.n) [
          | yes low ↦ elim (dec_le l.n (12 * k + 11)) [
            | yes high ↦
                let many : length (of_year k (outs ++ (o ∷ []))) ≡ suc (length (of_year k outs))
                = ap length (of_own_year k outs o (omega (arith, period_is)) (omega (arith, period_is))) ∙ length_more (of_year k outs) o in
                let so_far = c.1 low (omega arith) in
                (λ before. absurd (omega arith), λ a b. omega (arith, many, so_far), λ past. omega (arith, many, so_far))
            | no high ↦
                let same : length (of_year k (outs ++ (o ∷ []))) ≡ length (of_year k outs) = ap length (of_other_year k outs o (λ a b. omega (arith, period_is, b))) in
                (λ before. absurd (omega arith), λ a b. absurd (omega arith), λ past. same ∙ c.2 (omega arith))
          ]
          | no low ↦
              let same : length (of_year k (outs ++ (o ∷ []))) ≡ length (of_year k outs) = ap length (of_other_year k outs o (λ a b. omega (arith, period_is, a))) in
              let none : length (of_year k outs) ≡ 0 = c.0 (omega arith) in
              (λ before. same ∙ none, λ a b. omega (arith, same, none), λ past. absurd (omega arith))
        ]

    not_refused : (accepted_of l bytes).refusal ≡ 0
    unfolding accepted_of
    not_refused = refl

    added_on : totals_then totals (accepted_turn l bytes) ≡ afresh (outs ++ (o ∷ []))
    unfolding output_fields
    added_on =
        let more = rw (said.x0, said.figure, said.bound) at (afresh_more outs o l.n a.more period_is (small a.more)) in
        added_then totals (accepted_turn l bytes) not_refused ∙ rw (a.period, h.is) more

    pub stays_kept : Kept (accepted_of l bytes).ledger (totals_then totals (accepted_turn l bytes)) (outs ++ (o ∷ []))
    unfolding accepted_of after output_fields
    stays_kept =
        let b = brings l bytes a in
        record {
          is = added_on;
          few = omega (arith, a.more);
          counted = counts;
          x0 = omega (arith, added_more x0_in outs o, h.x0, said.x0, b.released);
          figure = omega (arith, added_more figure_in outs o, h.figure, said.figure, b.released, b.figure);
          bound = omega (arith, added_more bound_in outs o, h.bound, said.bound, b.bound);
          released = b.most;
        }

-- What the refusal of a record is while the totals are kept: that of the plain step, or 27.
module _ {l : Ledger} {totals : List ℕ} {outs : List (List ℕ)} (h : Kept l totals outs) (bytes : List ℕ) (room : ℕ) where
  pub kept_refusal : month_refusal l totals bytes room ≡ as_monthly (refusal_of l bytes room) (is_yearly (kind_of bytes)) false
  kept_refusal =
      month_refused l totals bytes room (size h)
      ∙ elim (ℕ_discrete (refusal_of l bytes room) 0) [
        | yes z ↦ let a = accepted_meets l bytes room z in rw (a.period, next_fits h a.more)
        | no z ↦ refused_any (refusal_of l bytes room) (is_yearly (kind_of bytes)) (differs totals (period_of bytes)) z
      ]

-- The plain step has no refusal above 17, so 32 is not among these; and a record that is not yearly has the plain step's.
not_32 : (q : ℕ) (y : Bool) → q ≤ 17 → as_monthly q y false ≡ 32 → ⊥
unfolding as_monthly
not_32 q y small = by (y && (eqb q 0 || ltb 5 q))
  where
    by : (test : Bool) → cond test 27 (cond (eqb q 0 && false) 32 q) ≡ 32 → ⊥
    by true z = omega arith
    by false z = omega (arith, simp and-false at z)

not_yearly : (q : ℕ) → as_monthly q false false ≡ q
unfolding as_monthly
not_yearly q = simp and-false

-- So the buffer is worked out afresh after any offers, 32 never occurs, and monthly records are answered as the plain step answers them.
pub record AfterOffers (offers : List Offer) (l : Ledger) (totals : List ℕ) (outs : List (List ℕ)) : Type 0 where
  pub buffer : let done = month_turns l totals offers in totals_after totals done ≡ afresh (outs ++ outputs_of done)
  pub never : (i : ℕ) → Each (λ j turn. turn.answer.refusal ≡ 32 → ⊥) i (month_turns l totals offers)
  pub plain : NoneYearly offers → month_turns l totals offers ≡ turns l offers

-- an accepted record before others
module _ (offer : Offer) (rest : List Offer) (l : Ledger) (totals : List ℕ) (outs : List (List ℕ)) where
  abbrev bytes : List ℕ
  bytes = offer.bytes

  abbrev room : ℕ
  room = offer.room

  one_taken : (e : month_refusal l totals bytes room ≡ 0) → AfterOffers rest (accepted_of l bytes).ledger (totals_then totals (accepted_turn l bytes)) (outs ++ (output_record (accepted_of l bytes) ∷ []))
      → AfterOffers (offer ∷ rest) l totals outs
  unfolding month_turns totals_after accepted accepted_of turns
  one_taken e on =
      let is = taken_month l totals bytes room e in
      let ok = (taken_meets l totals bytes room e).none in
      let more = month_turns (accepted_of l bytes).ledger (totals_then totals (accepted_turn l bytes)) rest in
      record {
        buffer = rw is (on.buffer ∙ ap afresh (append_assoc outs (output_record (accepted_of l bytes) ∷ []) (outputs_of more)));
        never = λ i. rw is (λ z. omega arith, on.never (i + 1));
        plain = λ none. rw (is, taken l bytes room ok) (ap (λ (ts : List Turn). accepted_turn l bytes ∷ ts) (on.plain none.1));
      }

  -- a refused one
  one_refused : Kept l totals outs → (month_refusal l totals bytes room ≡ 0 → ⊥) → AfterOffers rest l totals outs → AfterOffers (offer ∷ rest) l totals outs
  unfolding month_turns totals_after accepted refused_of turns
  one_refused h e on =
      let q = month_refusal l totals bytes room in
      let is = not_taken_month l totals bytes room e in
      let same = stays_then totals (record { before = l; bytes = bytes; answer = refused_of l q }) e in
      record {
        buffer = rw (is, same) (on.buffer ∙ simp (ne_eqb q 0 e));
        never = λ i. rw (is, same) (λ z. not_32 (refusal_of l bytes room) (is_yearly (kind_of bytes)) (plain_small l bytes room) (sym (kept_refusal h bytes room) ∙ z), on.never (i + 1));
        plain = λ none.
            let as_step : q ≡ refusal_of l bytes room = kept_refusal h bytes room ∙ rw none.0 (not_yearly (refusal_of l bytes room)) in
            let plainly : take_of l bytes room ≡ refused_of l q = not_taken l bytes room (λ z. e (as_step ∙ z)) ∙ ap (refused_of l) (sym as_step) in
            rw (is, same, plainly) (ap (λ (ts : List Turn). record { before = l; bytes = bytes; answer = refused_of l q } ∷ ts) (on.plain none.1));
      }

pub after_offers : (offers : List Offer) {l : Ledger} {totals : List ℕ} {outs : List (List ℕ)} → Kept l totals outs → AfterOffers offers l totals outs
unfolding month_turns totals_after accepted turns
after_offers [] {l} {totals} {outs} h = record { buffer = h.is ∙ ap afresh (sym (append-nil outs)); never = λ i. tt; plain = λ none. refl }
after_offers (offer ∷ rest) {l} {totals} {outs} h =
    elim (ℕ_discrete (month_refusal l totals offer.bytes offer.room) 0) [
      | yes e ↦ one_taken offer rest l totals outs e (after_offers rest (stays_kept h offer.bytes offer.room (taken_meets l totals offer.bytes offer.room e).none))
      | no e ↦ one_refused offer rest l totals outs h e (after_offers rest h)
    ]
