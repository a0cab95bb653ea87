-- One turn over a year: the first record is refused, or the records up to the end of the year are taken as the plain run takes them.
use mathlib.Core.Path.{◌≡◌, refl, sym, ◌∙◌}
use mathlib.Core.Bool.{Bool, true, false, cond, ◌||◌}
use mathlib.Core.List.{List, [], ◌++◌}
use Prim.Native.Nat.{ℕ, ◌+◌, ◌-◌, ◌*◌, ◌/◌, ◌%◌, ◌≤◌, ◌<◌}
use native.Mathlib.Decide.{ℕ_discrete}
use native.Mathlib.Omega.{arith}
use borrow.Author.Tests.{ltb-true, lt-ltb, leb-true}
use lib.Dec.{leb, ltb}
use lib.ListN.{length, take, drop, length-append, length-drop, length-take}
use lib.Seq.{get_or-take}
use Rattle.numbers.proofs.Eight.{three_true, either_false}
use Rattle.waste.specs.Kind.{is_yearly}
use Rattle.record.specs.Fields.{record_bytes, period_of, kind_of}
use Rattle.carbon.specs.Carbon.{most_records}
use Rattle.ledger.specs.Refusal.{refusal_of}
use Rattle.ledger.specs.declared.book.Ledger.{Ledger}
use Rattle.ledger.proofs.Accepted.{accepted_meets}
use Rattle.run.specs.History.{outputs, records_of, Run, run_of, out_of, outcome_of}
use Rattle.run.specs.Outcome.{Outcome}
use Rattle.run.proofs.History.{first_record_lem, begun_record, records_count, stopped, run_counts, run_within, outputs_length}
use Rattle.year_slots.specs.Slots.{totals_bytes, slot_at, differs}
use Rattle.year_slots.specs.declared.Slot.{Slot}
use Rattle.year_slots.specs.Months.{months_added, MonthsFit}
use Rattle.yearly_totals.specs.Months.{month_refusal, totals_after}
use Rattle.yearly_totals.specs.YearRun.{as_monthly, slot_refuses, small_sum, are_small, at_once, records_at_once, year_run}
use Rattle.yearly_totals.proofs.Refusals.{month_refused, refused_any, accepted_only}
use Rattle.yearly_totals.proofs.Turns.{month_stops}
use Rattle.yearly_totals.proofs.YearRun.{SlotReady, Monthly, TakenAtOnce, taken_at_once, kind_at}

module _ (l : Ledger) (totals left : List ℕ) (room : ℕ) (size : length totals ≡ totals_bytes) (some : 0 < length left) where
  abbrev bytes : List ℕ
  bytes = take record_bytes left

  abbrev q : ℕ
  q = refusal_of l bytes room

  abbrev refuses : Bool
  refuses = slot_refuses totals l.n

  abbrev year : Bool
  year = is_yearly (kind_of left)

  kind_is : kind_of bytes ≡ kind_of left
  kind_is = get_or-take record_bytes left 2 0 (omega arith)

  -- the slot of the ledger's next month is that of a record that nothing else refuses
  refusal_is : month_refusal l totals bytes room ≡ as_monthly q year refuses
  unfolding slot_refuses
  refusal_is =
      month_refused l totals bytes room size ∙ rw kind_is
      (elim (ℕ_discrete q 0) [
        | yes z ↦ let a = accepted_meets l bytes room z in rw a.period (simp (lt-ltb l.n most_records a.more))
        | no z ↦ refused_any q year (differs totals (period_of bytes)) z ∙ sym (refused_any q year refuses z)
      ])

  pub year_refused : (refuses || year) ≡ true → year_run l totals left room ≡ stopped l (as_monthly q year refuses)
  unfolding records_at_once
  year_refused e =
      let long = length-take record_bytes left in
      rw (e, begun_record bytes (omega (arith, long)) (omega (arith, long)))
      (month_stops l totals size bytes [] room (as_monthly q year refuses) refusal_is (not_none refuses year e))
    where
      not_none : (r y : Bool) → (r || y) ≡ true → as_monthly q y r ≡ 0 → ⊥
      not_none true y e z = let f = (accepted_only q y true z).2 in let no : ◌≡◌ {A = ℕ} 0 1 = cc in omega arith
      not_none false true e z = let f = (accepted_only q true false z).1 in let no : ◌≡◌ {A = ℕ} 0 1 = cc in omega arith
      not_none false false e z = let no : ◌≡◌ {A = ℕ} 0 1 = cc in omega arith

  module _ (e : (refuses || year) ≡ false) where
    pub has_slot : (l.n < most_records) × (differs totals (l.n + 1) ≡ false)
    unfolding slot_refuses
    has_slot = by (ltb l.n most_records) refl (either_false refuses year e).0
      where
        by : (less : Bool) → ltb l.n most_records ≡ less → cond less (differs totals (l.n + 1)) true ≡ false → (l.n < most_records) × (differs totals (l.n + 1) ≡ false)
        by true t d = (ltb-true l.n most_records t, d)
        by false t d = let no : ◌≡◌ {A = ℕ} 0 1 = cc in absurd (omega arith)

    abbrev pub m : ℕ
    m = at_once totals l.n

    -- the slot is ready for so many records
    ready : (j : ℕ) → j ≤ m → SlotReady l totals j
    unfolding at_once are_small
    ready j few = by (are_small s) refl few
      where
        s : Slot
        s = slot_at totals (l.n / 12)

        by : (small : Bool) → are_small s ≡ small → j ≤ cond small (12 - l.n % 12) 1 → SlotReady l totals j
        by true t few =
            let p = three_true (leb s.x0 small_sum) (leb s.figure small_sum) (leb s.bound small_sum) t in
            record {
              size = size;
              fits = λ more. has_slot.1;
              span = omega arith;
              x0 = λ more. omega (arith, leb-true s.x0 small_sum p.0);
              figure = λ more. omega (arith, leb-true s.figure small_sum p.1.0);
              bound = λ more. omega (arith, leb-true s.bound small_sum p.1.1);
            }
        by false t few =
            record {
              size = size;
              fits = λ more. has_slot.1;
              span = omega arith;
              x0 = λ more. absurd (omega arith);
              figure = λ more. absurd (omega arith);
              bound = λ more. absurd (omega arith);
            }

    some_records : 0 < m
    unfolding at_once
    some_records = by (are_small (slot_at totals (l.n / 12)))
      where
        by : (small : Bool) → 0 < cond small (12 - l.n % 12) 1
        by true = omega arith
        by false = omega arith

    abbrev pub part : List ℕ
    part = take (record_bytes * m) left

    abbrev pub ran : Run
    ran = run_of l (records_of part) room

    monthly : Monthly l (records_of part) room
    monthly =
        let begun : 0 < length part = omega (arith, length-take (record_bytes * m) left, some_records) in
        let inside : 2 < record_bytes * m = omega (arith, some_records) in
        rw (first_record_lem part begun) (λ ok. rw (get_or-take record_bytes part 2 0 (omega arith), get_or-take (record_bytes * m) left 2 0 inside) (either_false refuses year e).1)

    pub taken : TakenAtOnce l totals (records_of part) room ran
    taken =
        let few : length (records_of part) ≤ m = omega (arith, records_count part, length-take (record_bytes * m) left) in
        taken_at_once (records_of part) l totals room (ready (length (records_of part)) few) monthly

    -- how many are accepted, in the ledger, in the part and in the room
    pub fits_all : (l.n + length ran.accepted ≤ most_records) × (record_bytes * length ran.accepted ≤ length part) × (record_bytes * length ran.accepted ≤ room)
    fits_all =
        let few : l.n ≤ most_records = omega (arith, has_slot.0) in
        let c = run_counts l (records_of part) room few in
        let w = run_within (length part) part (omega arith) l room in
        (omega (arith, c.n, c.few), w.0, w.1)

    year_is : year_run l totals left room
        ≡ record { ledger = ran.ledger; accepted = ran.accepted; refusal = as_monthly ran.refusal (is_yearly (kind_of (drop (record_bytes * length ran.accepted) part))) false }
    unfolding records_at_once
    year_is = rw (e, ← kind_at (length ran.accepted) part) taken.run_is

    -- The output records of the plain run can be added to the totals, ...
    module _ (out : List ℕ) {o : Outcome} {out' : List ℕ} (is : o ≡ outcome_of ran) (writes : out' ≡ out_of ran out) where
      pub can_add : length out ≡ room
          → ((l.n + o.accepted ≤ most_records) × (record_bytes * o.accepted ≤ length out')) × MonthsFit o.accepted totals l.n out'
      unfolding outcome_of out_of
      can_add long =
          let f = fits_all in
          let kept : length (outputs ran.accepted ++ drop (length (outputs ran.accepted)) out) ≡ length out
          = simp (length-append, length-drop) (omega (arith, outputs_length ran.accepted, f.2, long)) in
          rw (is, writes) ((f.0, omega (arith, kept, f.2, long)), taken.fit (drop (length (outputs ran.accepted)) out))

      -- ... and then the year's run has ended.
      pub year_ends : {totals' : List ℕ} {next : ℕ} → totals' ≡ months_added o.accepted totals l.n out' → next ≡ kind_of (drop (record_bytes * o.accepted) part)
          → let r = year_run l totals left room in
          (record { ledger = o.ledger; accepted = o.accepted; refusal = as_monthly o.refusal (is_yearly next) false; work = o.work } ≡ outcome_of r)
          × ((totals' ≡ totals_after totals r.accepted) × (out' ≡ out_of r out))
      unfolding outcome_of out_of
      year_ends adds kind =
          rw (year_is, adds, kind, is, writes) (refl, (taken.added (drop (length (outputs ran.accepted)) out), refl))
