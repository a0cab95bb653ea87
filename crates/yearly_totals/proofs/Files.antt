-- A file year by year: where a run is at the head of its loop, and how a year and the end go from there.
use mathlib.Core.Path.{◌≡◌, refl, sym, ap, ◌∙◌}
use mathlib.Core.Bool.{Bool, true, false, cond, ◌||◌}
use mathlib.Core.List.{List, [], ◌∷◌, ◌++◌, append_assoc, append-nil}
use Prim.Native.Nat.{ℕ, zero, suc, ◌+◌, ◌-◌, ◌*◌, ◌/◌, ◌%◌, ◌≤◌, ◌<◌}
use native.Mathlib.Decide.{ℕ_discrete}
use native.Mathlib.Omega.{arith}
use borrow.Author.Tests.{eq-eqb, ne_eqb}
use lib.Dec.{eqb}
use lib.ListN.{length, take, drop, length-append, length-drop, length-take, drop_of_length-le}
use lib.Seq.{drop-drop, drop_at, take_at}
use Rattle.waste.specs.Kind.{is_yearly}
use Rattle.record.specs.Fields.{record_bytes, kind_of}
use Rattle.ledger.specs.Take.{accepted_of}
use Rattle.ledger.specs.declared.book.Ledger.{Ledger}
use Rattle.ledger.proofs.Accepted.{accepted_meets, has_room}
use Rattle.run.specs.History.{Turn, outputs, work_over, records_of, Run, out_of, outcome_of}
use Rattle.run.specs.Outcome.{Outcome}
use Rattle.run.proofs.History.{no_records, first_record_lem, records_count, records_split, on_from, outputs_length, outputs_join, over_most, work_join}
use Rattle.year_slots.specs.Slots.{totals_bytes, slot_at}
use Rattle.yearly_totals.specs.Months.{month_refusal, totals_after, month_run_of}
use Rattle.yearly_totals.specs.YearRun.{slot_refuses, are_small, at_once, records_at_once, year_run}
use Rattle.yearly_totals.proofs.Refusals.{taken_meets}
use Rattle.yearly_totals.proofs.Turns.{then_length, after_length, after_join, totals_with, month_goes_on, month_stops, month_ends, month_join, month_refused_run}

-- The accepted records of a file are in it, their output records are in the room, and without refusal they are the whole file.
pub record RunWithin (file : List ℕ) (room : ℕ) (r : Run) : Type 0 where
  pub in_file : record_bytes * length r.accepted ≤ length file
  pub in_room : record_bytes * length r.accepted ≤ room
  pub all : r.refusal ≡ 0 → record_bytes * length r.accepted ≡ length file

pub month_within : (k : ℕ) (file : List ℕ) → length file ≤ k → (l : Ledger) (totals : List ℕ) → length totals ≡ totals_bytes → (room : ℕ)
    → RunWithin file room (month_run_of l totals (records_of file) room)
month_within zero file short l totals size room =
    rw (no_records file (omega arith), month_ends l totals size room) (record { in_file = omega arith; in_room = omega arith; all = λ none. omega arith })
month_within (suc k) file short l totals size room =
    elim (ℕ_discrete (length file) 0) [
      | yes z ↦ rw (no_records file z, month_ends l totals size room) (record { in_file = omega arith; in_room = omega arith; all = λ none. omega (arith, z) })
      | no z ↦
          let bytes = take record_bytes file in
          let rest = records_of (drop record_bytes file) in
          rw (first_record_lem file (omega (arith, z)))
          (elim (ℕ_discrete (month_refusal l totals bytes room) 0) [
            | yes e ↦
                let ok = (taken_meets l totals bytes room e).none in
                let long = (accepted_meets l bytes room ok).size in
                let on = month_within k (drop record_bytes file) (simp length-drop (omega arith)) (accepted_of l bytes).ledger (totals_with totals l bytes) (then_length totals _ ∙ size) (room - record_bytes) in
                rw (month_goes_on l totals size bytes rest room e)
                (record {
                  in_file = omega (arith, on.in_file, long, length-take record_bytes file, length-drop record_bytes file);
                  in_room = omega (arith, on.in_room, has_room l bytes room ok);
                  all = λ none. omega (arith, on.all none, long, length-take record_bytes file, length-drop record_bytes file);
                })
            | no e ↦ rw (month_stops l totals size bytes rest room (month_refusal l totals bytes room) refl e)
                (record { in_file = omega arith; in_room = omega arith; all = λ none. absurd (e none) })
          ])
    ]

-- At least one record is run at once.
pub at_least_one : (l : Ledger) (totals left : List ℕ) → 0 < records_at_once l totals left
unfolding records_at_once at_once
at_least_one l totals left = by (slot_refuses totals l.n || is_yearly (kind_of left)) (are_small (slot_at totals (l.n / 12)))
  where
    by : (refused small : Bool) → 0 < cond refused 1 (cond small (12 - l.n % 12) 1)
    by true small = omega arith
    by false true = omega arith
    by false false = omega arith

-- What is left after the first bytes of a file is what is left after as many as there are.
drop_taken : (k : ℕ) (xs : List ℕ) → drop (length (take k xs)) xs ≡ drop k xs
drop_taken zero xs = refl
drop_taken (suc k) [] = refl
drop_taken (suc k) (x ∷ xs) = drop_taken k xs

-- The year at the start of what is left, and what follows it.
module _ (l : Ledger) (totals left : List ℕ) (room : ℕ) (size : length totals ≡ totals_bytes) where
  abbrev pub k : ℕ
  k = record_bytes * records_at_once l totals left

  abbrev pub ran : Run
  ran = year_run l totals left room

  pub year_within : RunWithin (take k left) room ran
  year_within = month_within (length (take k left)) (take k left) (omega arith) l totals size room

  abbrev done : ℕ
  done = record_bytes * length ran.accepted

  split : month_run_of l totals (records_of left) room ≡ month_run_of l totals (records_of (take k left) ++ records_of (drop k left)) room
  split = ap (λ (rs : List (List ℕ)). month_run_of l totals rs room) (records_split (records_at_once l totals left) left)

  pub goes_on : ran.refusal ≡ 0
      → month_run_of l totals (records_of left) room ≡ on_from ran.accepted (month_run_of ran.ledger (totals_after totals ran.accepted) (records_of (drop done left)) (room - done))
  goes_on none =
      let w = year_within in
      let all : record_bytes * length (records_of (take k left)) ≡ done = omega (arith, w.all none, records_count (take k left)) in
      let past : drop done left ≡ drop k left = ap (λ (j : ℕ). drop j left) (w.all none) ∙ drop_taken k left in
      split ∙ month_join l totals size (records_of (take k left)) (records_of (drop k left)) room none ∙ rw (all, past)

  pub ends_here : (ran.refusal ≡ 0 → ⊥) → month_run_of l totals (records_of left) room ≡ ran
  ends_here some = split ∙ month_refused_run l totals size (records_of (take k left)) (records_of (drop k left)) room some

-- The whole run is what was done and the run of what is left, or it has ended with a refusal.
abbrev end_of : (refusal : ℕ) (done : List Turn) → Ledger → Run → Run
end_of refusal done l rest = cond (eqb refusal 0) (on_from done rest) (record { ledger = l; accepted = done; refusal = refusal })

pub record MidFile (l₀ : Ledger) (totals₀ file out₀ totals out : List ℕ) (l : Ledger) (at accepted refusal work : ℕ) : Type 0 where
  pub size : length totals ≡ totals_bytes
  pub in_file : at ≤ length file
  pub in_out : at ≤ length out₀
  pub as_long : length out ≡ length out₀
  pub done : List Turn
  pub counted : at ≡ record_bytes * length done
  pub accepts : accepted ≡ length done
  pub worked : work ≡ work_over done
  pub buffer : totals ≡ totals_after totals₀ done
  pub put_out : out ≡ outputs done ++ drop at out₀
  pub so_far : month_run_of l₀ totals₀ (records_of file) (length out₀) ≡ end_of refusal done l (month_run_of l totals (records_of (drop at file)) (length out₀ - at))

pub file_starts : (l : Ledger) (totals file out : List ℕ) → length totals ≡ totals_bytes → MidFile l totals file out totals out l 0 0 0 0
unfolding outputs work_over totals_after
file_starts l totals file out size =
    record {
      size = size;
      in_file = omega arith;
      in_out = omega arith;
      as_long = refl;
      done = [];
      counted = omega arith;
      accepts = refl;
      worked = refl;
      buffer = refl;
      put_out = refl;
      so_far = ap (λ (k : ℕ). month_run_of l totals (records_of file) k) (omega arith);
    }

module _ {l₀ : Ledger} {totals₀ file out₀ totals out : List ℕ} {l : Ledger} {at accepted work : ℕ} (h : MidFile l₀ totals₀ file out₀ totals out l at accepted 0 work) where
  abbrev left : List ℕ
  left = drop at file

  abbrev room : ℕ
  room = length out₀ - at

  abbrev r : Run
  r = year_run l totals left room

  abbrev w : RunWithin (take (k l totals left room h.size) left) room r
  w = year_within l totals left room h.size

  abbrev at' : ℕ
  at' = at + record_bytes * length r.accepted

  -- what is written is put after what was put out
  put_on : {part : List ℕ} → part ≡ out_of r (drop at out) → take at out ++ part ≡ outputs (h.done ++ r.accepted) ++ drop at' out₀
  unfolding out_of
  put_on e =
      let long : length (outputs h.done) ≡ at = outputs_length h.done ∙ omega (arith, h.counted) in
      let before : take at out ≡ outputs h.done = ap (take at) h.put_out ∙ take_at (outputs h.done) (drop at out₀) at long in
      let after : drop at out ≡ drop at out₀ = ap (drop at) h.put_out ∙ drop_at (outputs h.done) (drop at out₀) at long in
      rw (e, before, after, outputs_length r.accepted, drop-drop (record_bytes * length r.accepted) at out₀, outputs_join h.done r.accepted)
      (sym (append_assoc (outputs h.done) (outputs r.accepted) (drop at' out₀)))

  -- where the run goes on, and where it ends
  all_run : month_run_of l₀ totals₀ (records_of file) (length out₀) ≡ on_from h.done (month_run_of l totals (records_of left) room)
  all_run = h.so_far

  run_on : r.refusal ≡ 0 → month_run_of l₀ totals₀ (records_of file) (length out₀)
      ≡ on_from (h.done ++ r.accepted) (month_run_of r.ledger (totals_after totals r.accepted) (records_of (drop at' file)) (length out₀ - at'))
  run_on none =
      let rest = month_run_of r.ledger (totals_after totals r.accepted) (records_of (drop at' file)) (length out₀ - at') in
      let far : room - record_bytes * length r.accepted ≡ length out₀ - at' = omega arith in
      all_run
      ∙ ap (on_from h.done) (goes_on l totals left room h.size none ∙ rw (drop-drop (record_bytes * length r.accepted) at file, far))
      ∙ λ i. record { ledger = rest.ledger; accepted = sym (append_assoc h.done r.accepted rest.accepted) i; refusal = rest.refusal }

  next_end : month_run_of l₀ totals₀ (records_of file) (length out₀)
      ≡ end_of r.refusal (h.done ++ r.accepted) r.ledger (month_run_of r.ledger (totals_after totals r.accepted) (records_of (drop at' file)) (length out₀ - at'))
  next_end =
      elim (ℕ_discrete r.refusal 0) [
        | yes z ↦ simp (eq-eqb r.refusal 0 z) (run_on z)
        | no z ↦ simp (ne_eqb r.refusal 0 z) (all_run ∙ ap (on_from h.done) (ends_here l totals left room h.size z))
      ]

  pub year_on : {o : Outcome} {totals' part : List ℕ} → o ≡ outcome_of r → totals' ≡ totals_after totals r.accepted → part ≡ out_of r (drop at out)
      → MidFile l₀ totals₀ file out₀ totals' (take at out ++ (part ++ drop (length out - at) (drop at out))) o.ledger (at + record_bytes * o.accepted) (accepted + o.accepted) o.refusal (work + o.work)
  unfolding outcome_of
  year_on is adds writes =
      let none_past : drop (length out - at) (drop at out) ≡ [] = drop_of_length-le (drop at out) {i = length out - at} (simp length-drop (omega arith)) in
      let put = put_on writes in
      let many = length-append h.done r.accepted in
      let inside : at' ≤ length out₀ = omega (arith, h.in_out, w.in_room) in
      rw (is, adds, none_past, append-nil)
      (record {
        size = after_length totals r.accepted ∙ h.size;
        in_file = omega (arith, h.in_file, w.in_file, length-take (k l totals left room h.size) left, length-drop at file);
        in_out = inside;
        as_long = ap length put ∙ length-append (outputs (h.done ++ r.accepted)) (drop at' out₀) ∙ omega (arith, outputs_length (h.done ++ r.accepted), many, h.counted, length-drop at' out₀, inside);
        done = h.done ++ r.accepted;
        counted = omega (arith, h.counted, many);
        accepts = omega (arith, h.accepts, many);
        worked = omega (arith, h.worked, work_join h.done r.accepted);
        buffer = ap (λ (t : List ℕ). totals_after t r.accepted) h.buffer ∙ sym (after_join totals₀ h.done r.accepted);
        put_out = put;
        so_far = next_end;
      })

  -- A year that is taken whole moves on, and its decay work is small.
  pub moves : {o : Outcome} → o ≡ outcome_of r → at < length file → o.refusal ≡ 0 → 0 < record_bytes * o.accepted
  unfolding outcome_of
  moves is some none =
      rw is (omega (arith, w.all (sym (ap (λ (o : Outcome). o.refusal) is) ∙ none), length-take (k l totals left room h.size) left, length-drop at file, at_least_one l totals left))

  pub work_fits : {o : Outcome} → o ≡ outcome_of r → (work + o.work ≤ 8 * (accepted + o.accepted)) × (record_bytes * (accepted + o.accepted) ≤ length file)
  unfolding outcome_of
  work_fits is =
      rw is (
        omega (arith, h.worked, h.accepts, over_most h.done, over_most r.accepted),
        omega (arith, h.counted, h.accepts, w.in_file, length-take (k l totals left room h.size) left, length-drop at file, h.in_file),
      )

-- Where a record was refused, or nothing is left, the run has ended.
pub file_ends : {l₀ : Ledger} {totals₀ file out₀ totals out : List ℕ} {l : Ledger} {at accepted refusal work : ℕ} → MidFile l₀ totals₀ file out₀ totals out l at accepted refusal work
    → (refusal ≡ 0 → length file ≤ at) → let r = month_run_of l₀ totals₀ (records_of file) (length out₀) in
    (record { ledger = l; accepted = accepted; refusal = refusal; work = work } ≡ outcome_of r) × ((totals ≡ totals_after totals₀ r.accepted) × (out ≡ out_of r out₀))
unfolding outcome_of out_of
file_ends {l₀} {totals₀} {file} {out₀} {totals} {out} {l} {at} {accepted} {refusal} {work} h last =
    let long : length (outputs h.done) ≡ at = outputs_length h.done ∙ omega (arith, h.counted) in
    rw (h.so_far ∙ by_refusal (ℕ_discrete refusal 0), long)
    ((λ i. record { ledger = l; accepted = h.accepts i; refusal = refusal; work = h.worked i }), (h.buffer, h.put_out))
  where
    by_refusal : Dec (refusal ≡ 0) → end_of refusal h.done l (month_run_of l totals (records_of (drop at file)) (length out₀ - at)) ≡ record { ledger = l; accepted = h.done; refusal = refusal }
    by_refusal (yes z) =
        let gone : records_of (drop at file) ≡ [] = no_records (drop at file) (simp length-drop (omega (arith, last z))) in
        simp (eq-eqb refusal 0 z) (rw (gone, month_ends l totals h.size (length out₀ - at), z, append-nil))
    by_refusal (no z) = simp (ne_eqb refusal 0 z)
