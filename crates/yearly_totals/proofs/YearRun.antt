-- The records of a year, run as a plain file: where the slot is ready and its sums are small, the plain run takes what the steps take.
use mathlib.Core.Path.{◌≡◌, refl, ap, ◌∙◌}
use mathlib.Core.Bool.{false}
use mathlib.Core.List.{List, [], ◌∷◌, ◌++◌, append_assoc}
use Prim.Native.Nat.{ℕ, zero, suc, ◌+◌, ◌-◌, ◌*◌, ◌/◌, ◌%◌, ◌^◌, ◌≤◌, ◌<◌}
use native.Mathlib.Nat.{mul-zero}
use native.Mathlib.Decide.{ℕ_discrete}
use native.Mathlib.Omega.{arith}
use lib.ListN.{length, get_or, drop}
use lib.Seq.{drop_at, drop-drop, drop-nil, get_or-take}
use Rattle.waste.specs.Kind.{is_yearly}
use Rattle.record.specs.Fields.{record_bytes, period_of, kind_of, factors_of}
use Rattle.figure.specs.Figure.{b_of}
use Rattle.figure.proofs.Laws.{figure_most, bound_half, b_of_most}
use Rattle.ledger.specs.Step.{brought_at, x0_of, after}
use Rattle.ledger.specs.Refusal.{refusal_of}
use Rattle.ledger.specs.Take.{accepted_of, output_record, output_fields, total_released}
use Rattle.ledger.specs.declared.book.Ledger.{Ledger}
use Rattle.ledger.proofs.Sound.{sound_is, released_most}
use Rattle.ledger.proofs.Accepted.{Accepted, accepted_meets, stays_sound}
use Rattle.ledger.proofs.Fits.{output_says}
use Rattle.ledger.proofs.Step.{released_grows}
use Rattle.ledger.proofs.Take.{output_length}
use Rattle.run.specs.History.{outputs, records_of, Run, run_of}
use Rattle.run.proofs.History.{no_records, first_record_lem, accepted_turn, on_from, stopped, run_goes_on, run_stops, run_ends}
use Rattle.year_slots.specs.Slots.{totals_bytes, slot_at, with_month, added_to, sum_limit, differs}
use Rattle.year_slots.specs.Months.{MonthFits, month_added, months_added, MonthsFit}
use Rattle.year_slots.specs.declared.Slot.{Slot}
use Rattle.year_slots.proofs.Slots.{SmallSlot, slot_written, Agrees, agreed, agrees}
use Rattle.yearly_totals.specs.Months.{totals_after, month_run_of}
use Rattle.yearly_totals.specs.YearRun.{as_monthly}
use Rattle.yearly_totals.proofs.Refusals.{month_refused, month_taken, refused_any, refused_some}
use Rattle.yearly_totals.proofs.Turns.{added_then, then_length, totals_with, month_goes_on, month_stops, month_ends}

-- What an accepted record brings to its slot. All x0 of a ledger add up to what it has released, which is below 3 × 10^18.
abbrev most_released : ℕ
most_released = 3 * 10 ^ 18

module _ (l : Ledger) (bytes : List ℕ) (a : Accepted l bytes) where
  pub record Brings : Type 0 where
    pub released : total_released (after l bytes) ≡ total_released l + (accepted_of l bytes).x0
    pub most : total_released (after l bytes) ≤ most_released
    pub figure : (accepted_of l bytes).figure ≤ (accepted_of l bytes).x0
    pub bound : (accepted_of l bytes).bound ≤ 2 ^ 44

  pub brings : Brings
  unfolding accepted_of after
  brings =
      let sound = stays_sound l bytes a in
      let s = sound_is (after l bytes) sound in
      record {
        released = released_grows l bytes;
        most = omega (arith, released_most (after l bytes) sound);
        figure = omega (arith, figure_most (factors_of bytes) (x0_of l bytes) a.ranges);
        bound = omega (arith, bound_half (factors_of bytes) (b_of (l.n + 1) (brought_at (after l bytes))) a.ranges, b_of_most (l.n + 1) (brought_at (after l bytes)) s.few (λ t h. (s.at t h).small));
      }

-- The slot of the next record is ready for j records of a year: it agrees with n, and with more than one to come no sum of it can be
-- above the limit before the last.
pub record SlotReady (l : Ledger) (totals : List ℕ) (j : ℕ) : Type 0 where
  pub size : length totals ≡ totals_bytes
  pub fits : 0 < j → differs totals (l.n + 1) ≡ false
  pub span : l.n % 12 + j ≤ 12
  pub x0 : 1 < j → (slot_at totals (l.n / 12)).x0 + most_released ≤ sum_limit + total_released l
  pub figure : 1 < j → (slot_at totals (l.n / 12)).figure + most_released ≤ sum_limit + total_released l
  pub bound : 1 < j → (slot_at totals (l.n / 12)).bound + j * 2 ^ 44 ≤ sum_limit

module _ (l : Ledger) (totals bytes : List ℕ) (room j : ℕ) (ok : refusal_of l bytes room ≡ 0) (h : SlotReady l totals (suc j)) where
  abbrev a : Accepted l bytes
  a = accepted_meets l bytes room ok

  abbrev k : ℕ
  k = l.n / 12

  abbrev s : Slot
  s = slot_at totals k

  abbrev s' : Slot
  s' = with_month k s (accepted_of l bytes).x0 (accepted_of l bytes).figure (accepted_of l bytes).bound

  agreement : Agrees totals l.n
  agreement = agreed totals l.n (h.fits (omega arith))

  -- the period of the record is n + 1
  pub added_is : totals_with totals l bytes ≡ added_to totals (l.n + 1) (accepted_of l bytes).x0 (accepted_of l bytes).figure (accepted_of l bytes).bound
  unfolding accepted_of
  added_is = added_then totals (accepted_turn l bytes) refl ∙ rw a.period

  pub does_agree : differs totals (period_of bytes) ≡ false
  does_agree = rw a.period (h.fits (omega arith))

  small : SmallSlot s'
  unfolding with_month
  small =
      let b = brings l bytes a in
      let g = agreement in
      record {
        year = omega (arith, a.more);
        months = omega (arith, g.months);
        x0 = omega (arith, g.x0, b.released, b.most);
        figure = omega (arith, g.figure, b.released, b.most, b.figure);
        bound = omega (arith, g.bound, b.bound);
      }

  slot_is : slot_at (totals_with totals l bytes) k ≡ s'
  unfolding added_to
  slot_is =
      let e : l.n + 1 - 1 ≡ l.n = omega arith in
      rw (added_is, e) (slot_written totals k s' small (omega (arith, h.size, a.more)))

  -- What its output record says fits the slot.
  pub month_fits : (rest : List ℕ) → MonthFits (slot_at totals ((l.n + 1 - 1) / 12)) (output_record (accepted_of l bytes) ++ rest)
  unfolding output_fields
  month_fits rest =
      let e : l.n + 1 - 1 ≡ l.n = omega arith in
      let b = brings l bytes a in
      let g = agreement in
      let o = output_says l bytes a rest in
      rw e
      (record {
        x0 = (g.x0, omega (arith, o.x0, b.released, b.most));
        figure = (g.figure, omega (arith, o.figure, b.released, b.most, b.figure));
        bound = (g.bound, omega (arith, o.bound, b.bound));
      })

  -- and adds what the step adds
  pub month_is : (rest : List ℕ) → month_added totals l.n (output_record (accepted_of l bytes) ++ rest) ≡ totals_with totals l bytes
  unfolding output_fields
  month_is rest = let o = output_says l bytes a rest in rw (added_is, o.x0, o.figure, o.bound)

  -- The slot is ready for the records after it.
  pub still_ready : SlotReady (accepted_of l bytes).ledger (totals_with totals l bytes) j
  unfolding accepted_of after with_month
  still_ready =
      let b = brings l bytes a in
      let g = agreement in
      let same : 0 < j → (l.n + 1) / 12 ≡ k = λ some. omega (arith, h.span) in
      let next : 0 < j → slot_at (totals_with totals l bytes) ((l.n + 1) / 12) ≡ s' = λ some. rw (same some) slot_is in
      record {
        size = then_length totals (accepted_turn l bytes) ∙ h.size;
        fits = λ some.
            agrees (totals_with totals l bytes) (l.n + 1)
            (record {
              months = rw (next some) (omega (arith, g.months, h.span));
              x0 = rw (next some) (omega (arith, h.x0 (omega arith), b.released, b.most));
              figure = rw (next some) (omega (arith, h.figure (omega arith), b.released, b.most, b.figure));
              bound = rw (next some) (omega (arith, h.bound (omega arith), b.bound));
            })
            (λ z. omega (arith, h.span)) (rw (next some) (omega (arith, same some)));
        span = omega (arith, h.span);
        x0 = λ more. rw (next (omega arith)) (omega (arith, h.x0 (omega arith), b.released));
        figure = λ more. rw (next (omega arith)) (omega (arith, h.figure (omega arith), b.released, b.figure));
        bound = λ more. rw (next (omega arith)) (omega (arith, h.bound (omega arith), b.bound));
      }

-- The first record is not yearly, if it is accepted; then no later one that is accepted is.
abbrev pub Monthly : Ledger → List (List ℕ) → (room : ℕ) → Type 0
Monthly l [] room = Unit
Monthly l (bytes ∷ rest) room = refusal_of l bytes room ≡ 0 → is_yearly (kind_of bytes) ≡ false

still_monthly : (l : Ledger) (bytes : List ℕ) (rest : List (List ℕ)) (room more : ℕ) → refusal_of l bytes room ≡ 0 → is_yearly (kind_of bytes) ≡ false
    → Monthly (accepted_of l bytes).ledger rest more
unfolding accepted_of after
still_monthly l bytes [] room more ok month = tt
still_monthly l bytes (next ∷ rest) room more ok month = λ ok'.
    let same = (accepted_meets (after l bytes) next more ok').same (λ z. omega arith) in
    rw same.0 month

-- The steps take what the plain run takes; the refusal is turned, and the totals are those of the output records.
pub record TakenAtOnce (l : Ledger) (totals : List ℕ) (xs : List (List ℕ)) (room : ℕ) (r : Run) : Type 0 where
  pub run_is : month_run_of l totals xs room
      ≡ record { ledger = r.ledger; accepted = r.accepted; refusal = as_monthly r.refusal (is_yearly (kind_of (get_or xs (length r.accepted) []))) false }
  pub fit : (rest : List ℕ) → MonthsFit (length r.accepted) totals l.n (outputs r.accepted ++ rest)
  pub added : (rest : List ℕ) → months_added (length r.accepted) totals l.n (outputs r.accepted ++ rest) ≡ totals_after totals r.accepted

none_taken : (l : Ledger) (totals : List ℕ) (room : ℕ) → length totals ≡ totals_bytes → TakenAtOnce l totals [] room (stopped l 0)
unfolding MonthsFit months_added outputs totals_after as_monthly
none_taken l totals room size = record { run_is = month_ends l totals size room; fit = λ rest. tt; added = λ rest. refl }

one_refused : (l : Ledger) (totals bytes : List ℕ) (room : ℕ) (xs : List (List ℕ)) → length totals ≡ totals_bytes → (refusal_of l bytes room ≡ 0 → ⊥)
    → TakenAtOnce l totals (bytes ∷ xs) room (stopped l (refusal_of l bytes room))
unfolding MonthsFit months_added outputs totals_after
one_refused l totals bytes room xs size some =
    let q = refusal_of l bytes room in
    let year = is_yearly (kind_of bytes) in
    record {
      run_is =
          month_stops l totals size bytes xs room (as_monthly q year false)
          (month_refused l totals bytes room size ∙ refused_any q year (differs totals (period_of bytes)) some) (refused_some q year false some);
      fit = λ rest. tt;
      added = λ rest. refl;
    }

one_more : (l : Ledger) (totals bytes : List ℕ) (room : ℕ) (xs : List (List ℕ)) (e : refusal_of l bytes room ≡ 0) → SlotReady l totals (suc (length xs)) → is_yearly (kind_of bytes) ≡ false
    → (r : Run) → TakenAtOnce (accepted_of l bytes).ledger (totals_with totals l bytes) xs (room - record_bytes) r
    → TakenAtOnce l totals (bytes ∷ xs) room (on_from (accepted_turn l bytes ∷ []) r)
unfolding MonthsFit months_added outputs totals_after accepted_of after
one_more l totals bytes room xs e h month r on =
    let o = output_record (accepted_of l bytes) in
    let j = length xs in
    let cut : (rest : List ℕ) → drop record_bytes (o ++ (outputs r.accepted ++ rest)) ≡ outputs r.accepted ++ rest
    = λ rest. drop_at o (outputs r.accepted ++ rest) record_bytes (output_length (accepted_of l bytes)) in
    record {
      run_is =
          month_goes_on l totals h.size bytes xs room (month_taken l totals bytes room h.size e month (does_agree l totals bytes room j e h))
          ∙ ap (on_from (accepted_turn l bytes ∷ [])) on.run_is;
      fit = λ rest.
          rw (append_assoc o (outputs r.accepted) rest) (
            month_fits l totals bytes room j e h (outputs r.accepted ++ rest),
            rw (cut rest, month_is l totals bytes room j e h (outputs r.accepted ++ rest)) (on.fit rest),
          );
      added = λ rest.
          let out = o ++ (outputs r.accepted ++ rest) in
          let step : months_added (length r.accepted) (month_added totals l.n out) (l.n + 1) (drop record_bytes out) ≡ totals_after (totals_with totals l bytes) r.accepted
          = rw (cut rest, month_is l totals bytes room j e h (outputs r.accepted ++ rest)) (on.added rest) in
          rw (append_assoc o (outputs r.accepted) rest) step;
    }

pub taken_at_once : (xs : List (List ℕ)) (l : Ledger) (totals : List ℕ) (room : ℕ) → SlotReady l totals (length xs) → Monthly l xs room
    → TakenAtOnce l totals xs room (run_of l xs room)
taken_at_once [] l totals room h m = rw (run_ends l room) (none_taken l totals room h.size)
taken_at_once (bytes ∷ xs) l totals room h m =
    elim (ℕ_discrete (refusal_of l bytes room) 0) [
      | yes e ↦
          let l' = (accepted_of l bytes).ledger in
          rw (run_goes_on l bytes xs room e)
          (one_more l totals bytes room xs e h (m e) (run_of l' xs (room - record_bytes))
          (taken_at_once xs l' (totals_with totals l bytes) (room - record_bytes) (still_ready l totals bytes room (length xs) e h) (still_monthly l bytes xs room (room - record_bytes) e (m e))))
      | no e ↦ rw (run_stops l bytes xs room (refusal_of l bytes room) refl e) (one_refused l totals bytes room xs h.size e)
    ]

-- The kind of a record of a file is read at its place; after the last there is none.
nothing_there : (i : ℕ) → kind_of (get_or (records_of []) i []) ≡ kind_of (drop (record_bytes * i) [])
nothing_there zero = rw (no_records [] refl)
nothing_there (suc i) = rw (no_records [] refl, drop-nil (record_bytes * suc i))

pub kind_at : (i : ℕ) (file : List ℕ) → kind_of (get_or (records_of file) i []) ≡ kind_of (drop (record_bytes * i) file)
kind_at zero [] = nothing_there 0
kind_at zero (b ∷ rest) = rw (first_record_lem (b ∷ rest) (omega arith), mul-zero record_bytes) (get_or-take record_bytes (b ∷ rest) 2 0 (omega arith))
kind_at (suc i) [] = nothing_there (suc i)
kind_at (suc i) (b ∷ rest) =
    let far : record_bytes + record_bytes * i ≡ record_bytes * suc i = omega arith in
    rw (first_record_lem (b ∷ rest) (omega arith))
    (kind_at i (drop record_bytes (b ∷ rest)) ∙ rw (← far, ← drop-drop (record_bytes * i) record_bytes (b ∷ rest)))
