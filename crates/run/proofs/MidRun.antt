-- Where a run stands at the head of its loop, and how a turn and each end go from there.
use mathlib.Core.Path.{◌≡◌, refl, sym, ap, ◌∙◌}
use mathlib.Core.Bool.{Bool, true, false, not, cond}
use mathlib.Core.List.{List, [], ◌∷◌, ◌++◌, append_assoc, append-nil}
use Prim.Native.Nat.{ℕ, ◌+◌, ◌-◌, ◌*◌, ◌/◌, ◌≤◌, ◌<◌}
use native.Mathlib.Decide.{ℕ_discrete}
use native.Mathlib.Omega.{arith}
use borrow.Author.Tests.{eq-eqb, ne_eqb, lt-ltb, ltb-true, ltb-false}
use lib.Dec.{ltb}
use lib.ListN.{length, take, drop, length-drop, length-append, length-take, take-append-drop, drop_of_length-le}
use lib.Seq.{length-take-le, take_at, drop_at, drop-drop}
use Rattle.numbers.specs.Eight.{eight, every_of}
use Rattle.numbers.proofs.Eight.{every_not, every_each}
use Rattle.numbers.proofs.Lists.{added_more}
use Rattle.record.specs.Fields.{record_bytes, kind_of, climate_of}
use Rattle.record.specs.Ranges.{light}
use Rattle.carbon.specs.Carbon.{entry_at}
use Rattle.refusal.specs.Refusal.{faults_of}
use Rattle.ledger.specs.Step.{released_at, work_of, after}
use Rattle.ledger.specs.Refusal.{sound, refusal_of}
use Rattle.ledger.specs.Take.{accepted_of, output_record}
use Rattle.refusal.specs.Reach.{reach_of, left_over}
use Rattle.run.specs.History.{Turn, outputs, work_over, records_of, run_of, outcome_of, out_of}
use Rattle.ledger.specs.declared.book.Ledger.{Ledger}
use Rattle.refusal.proofs.Laws.{early_of, first_early, first_late}
use Rattle.ledger.proofs.Accepted.{accepted_meets, was_sound, has_room, accepted_sound, room_alike}
use Rattle.ledger.proofs.Take.{output_length}
use Rattle.run.proofs.History.{no_records, first_record_lem, stopped, on_from, accepted_turn, run_goes_on, run_stops, run_ends, on_from_lem, outputs_length, outputs_join, over_most}

-- The refusal that everything before the masses decides.
abbrev pub early : Ledger → List ℕ → (room : ℕ) → Bool → ℕ
early l bytes room good = early_of good l.n l.kind l.climate l.year bytes room

module _ (l : Ledger) (bytes : List ℕ) (room : ℕ) where
  refused_early : (early l bytes room (sound l) ≡ 0 → ⊥) → refusal_of l bytes room ≡ early l bytes room (sound l)
  unfolding refusal_of
  refused_early h = first_early (sound l) l.n l.kind l.climate l.year bytes room h

  refused_late : early l bytes room (sound l) ≡ 0 → refusal_of l bytes room ≡ cond (not (every_of (light bytes) 8)) 9 0
  unfolding refusal_of
  refused_late h = first_late (sound l) l.n l.kind l.climate l.year bytes room h

-- The table entries are those of the record that stands at a place, if the ledger accepts it.
abbrev pub Fit : List ℕ → Ledger → List ℕ → Type 0
Fit entries l bytes = refusal_of l bytes 48 ≡ 0 → entries ≡ eight (entry_at (kind_of bytes) (climate_of bytes))

pub record MidRun (l₀ : Ledger) (file out₀ entries : List ℕ) (good : Bool) (out : List ℕ) (l : Ledger) (at work : ℕ) : Type 0 where
  pub flag : good ≡ sound l
  pub fit : Fit entries l (take 48 (drop at file))
  pub in_file : at ≤ length file
  pub in_out : at ≤ length out
  pub as_long : length out ≡ length out₀
  pub untouched : drop at out ≡ drop at out₀
  pub done : List Turn
  pub counted : at ≡ record_bytes * length done
  pub grown : l.n ≡ l₀.n + length done
  pub worked : work ≡ work_over done
  pub begun : at ≡ 0 → l ≡ l₀
  pub held_to : 0 < at → (sound l ≡ true) × (l.released ≡ eight (released_at l))
  pub put_out : take at out ≡ outputs done
  pub so_far : run_of l₀ (records_of file) (length out₀) ≡ on_from done (run_of l (records_of (drop at file)) (length out - at))

pub run_starts : (l : Ledger) (file out entries : List ℕ) (good : Bool) → good ≡ sound l → Fit entries l (take 48 file) → MidRun l file out entries good out l 0 0
unfolding outputs work_over
run_starts l file out entries good flag fit =
    record {
      flag = flag;
      fit = fit;
      in_file = omega arith;
      in_out = omega arith;
      as_long = refl;
      untouched = refl;
      done = [];
      counted = omega arith;
      grown = omega arith;
      worked = refl;
      begun = λ z. refl;
      held_to = λ some. absurd (omega arith);
      put_out = refl;
      so_far = ap (λ (k : ℕ). run_of l (records_of file) k) (omega arith);
    }

-- the entries of an accepted record are those of the next one that is accepted
next_fit : (l : Ledger) (bytes next entries : List ℕ) → refusal_of l bytes 48 ≡ 0 → Fit entries l bytes → Fit entries (accepted_of l bytes).ledger next
unfolding accepted_of after
next_fit l bytes next entries ok fit ok' =
    let same = (accepted_meets (after l bytes) next 48 ok').same (λ z. omega arith) in
    fit ok ∙ rw (same.0, same.1)

-- 48 bytes of the output, lent to an accepted record: how many they are, and what comes back
pub lent_length : (out : List ℕ) (at : ℕ) → at + record_bytes ≤ length out → length (take record_bytes (drop at out)) ≡ record_bytes
lent_length out at enough = length-take-le record_bytes (drop at out) (simp length-drop (omega arith))

pub lent_back : (out : List ℕ) (at : ℕ) (o : List ℕ) {ys : List ℕ} → at + record_bytes ≤ length out → ys ≡ o ++ drop record_bytes (take record_bytes (drop at out))
    → take at out ++ (ys ++ drop record_bytes (drop at out)) ≡ take at out ++ (o ++ drop record_bytes (drop at out))
lent_back out at o enough e = rw (e, drop_of_length-le (take record_bytes (drop at out)) {i = record_bytes} (omega (arith, lent_length out at enough)), append-nil)

-- how far the records go that are whole and have room
within : (records room : ℕ) (test : Bool) → ltb records room ≡ test
    → (cond test records room / record_bytes * record_bytes ≤ records) × (cond test records room / record_bytes * record_bytes ≤ room)
within records room true e = (omega arith, omega (arith, ltb-true records room e))
within records room false e = (omega (arith, ltb-false records room e), omega arith)

module _ (records room : ℕ) where
  pub reach_within : (reach_of records room ≤ records) × (reach_of records room ≤ room)
  unfolding reach_of
  reach_within = within records room (ltb records room) refl

  pub next_within : (at k : ℕ) → at ≡ record_bytes * k → at < reach_of records room → at + record_bytes ≤ reach_of records room
  unfolding reach_of
  next_within at k e h = omega arith

full_room : (records room : ℕ) {at : ℕ} (test : Bool) → at ≡ cond test records room / record_bytes * record_bytes → record_bytes ≤ records - at → room - at < record_bytes
full_room records room true e h = absurd (omega arith)
full_room records room false e h = omega arith

module _ {l₀ : Ledger} {file out₀ entries : List ℕ} {good : Bool} {out : List ℕ} {l : Ledger} {at work : ℕ}
    (h : MidRun l₀ file out₀ entries good out l at work) where
  abbrev pub here : List ℕ
  here = take 48 (drop at file)

  abbrev pub room : ℕ
  room = length out - at

  -- what the run then answers, and what it leaves in the output
  abbrev pub Ends : ℕ → Type 0
  Ends q =
      (record { ledger = l; accepted = l.n - l₀.n; refusal = q; work = work } ≡ outcome_of (run_of l₀ (records_of file) (length out₀)))
      × (out ≡ out_of (run_of l₀ (records_of file) (length out₀)) out₀)

  -- what was released can be worked out where a record was accepted, and stays where none was
  pub may_settle : (accepted : ℕ) → accepted ≡ l.n - l₀.n
      → (accepted ≡ 0 → l.released ≡ l₀.released) × ((accepted ≡ 0 → ⊥) → (sound l ≡ true) × (l.released ≡ eight (released_at l)))
  may_settle accepted e = (
    λ z. ap (λ (m : Ledger). m.released) (h.begun (omega (arith, h.counted, h.grown))),
    λ some. h.held_to (omega (arith, h.counted, h.grown, some)),
  )

  -- where the run stops
  ends : (q : ℕ) → run_of l (records_of (drop at file)) room ≡ stopped l q → Ends q
  unfolding outcome_of out_of
  ends q e =
      let all : run_of l₀ (records_of file) (length out₀) ≡ on_from h.done (stopped l q) = h.so_far ∙ ap (on_from h.done) e in
      let n : length (h.done ++ []) ≡ l.n - l₀.n = rw append-nil (omega (arith, h.grown)) in
      let all_work : work_over (h.done ++ []) ≡ work = rw append-nil (sym h.worked) in
      let long : length (outputs h.done) ≡ at = outputs_length h.done ∙ omega (arith, h.counted) in (
        (λ i. record { ledger = l; accepted = sym n i; refusal = q; work = sym all_work i }) ∙ ap outcome_of (sym all),
        rw (all, append-nil, long, ← h.untouched, ← h.put_out) (sym (take-append-drop at out)),
      )

  pub at_end : length file - at ≡ 0 → Ends 0
  at_end e = ends 0 (rw (no_records (drop at file) (length-drop at file ∙ e)) (run_ends l room))

  pub at_refusal : (q : ℕ) → at < length file → refusal_of l here room ≡ q → (q ≡ 0 → ⊥) → Ends q
  at_refusal q left e ne =
      ends q
      (rw (first_record_lem (drop at file) (simp length-drop (omega arith)))
      (run_stops l here (records_of (drop 48 (drop at file))) room q e ne))

  -- bytes left over that make no record, or one without room
  at_short : at < length file → length file - at < record_bytes → Ends 1
  unfolding refusal_of faults_of
  at_short left short =
      at_refusal 1 left
      (simp (ne_eqb (length here) record_bytes (λ e. omega (arith, length-take 48 (drop at file), length-drop at file)))) (omega arith)

  at_full : record_bytes ≤ length file - at → room < record_bytes → Ends 2
  unfolding refusal_of faults_of
  at_full whole none =
      at_refusal 2 (omega arith)
      (simp (eq-eqb (length here) record_bytes (length-take-le 48 (drop at file) (simp length-drop (omega arith))), lt-ltb room record_bytes none)) (omega arith)

  -- behind the records that are whole and have room
  no_more : (test : Bool) → ltb (length file - at) record_bytes ≡ test → (length file - at ≡ 0 → ⊥) → (record_bytes ≤ length file - at → room < record_bytes)
      → Ends (cond test 1 2)
  no_more true e some full = at_short (omega (arith, some)) (ltb-true (length file - at) record_bytes e)
  no_more false e some full = let long = ltb-false (length file - at) record_bytes e in at_full long (full long)

  pub at_last : at ≡ reach_of (length file) (length out) → Ends (left_over (length file - at))
  unfolding left_over reach_of
  at_last e =
      elim (ℕ_discrete (length file - at) 0) [
        | yes z ↦ simp (eq-eqb (length file - at) 0 z) (at_end z)
        | no z ↦ simp (ne_eqb (length file - at) 0 z) (no_more (ltb (length file - at) record_bytes) refl z (full_room (length file) (length out) (ltb (length file) (length out)) e))
      ]

  -- a fault ahead of the masses
  pub at_early : (q : ℕ) → at < length file → record_bytes ≤ room → q ≡ early l here record_bytes good → (q ≡ 0 → ⊥) → Ends q
  at_early q left enough e ne =
      let e' : q ≡ early l here record_bytes (sound l) = rw (← h.flag) e in
      at_refusal q left (room_alike l here room record_bytes enough (omega arith) ∙ refused_early l here record_bytes (λ z. ne (e' ∙ z)) ∙ sym e') ne

  module _ (none : early l here record_bytes good ≡ 0) where
    none' : early l here record_bytes (sound l) ≡ 0
    none' = rw (← h.flag) none

    -- a mass over the limit
    pub at_heavy : at < length file → record_bytes ≤ room → (t : ℕ) → t < 8 → light here t ≡ false → Ends 9
    at_heavy left enough t b heavy =
        at_refusal 9 left
        (room_alike l here room record_bytes enough (omega arith) ∙ refused_late l here record_bytes none' ∙ simp (every_not (light here) 8 t b heavy)) (omega arith)

    -- no fault at all
    pub no_refusal : ((t : ℕ) → t < 8 → light here t ≡ true) → refusal_of l here record_bytes ≡ 0
    no_refusal each = refused_late l here record_bytes none' ∙ simp (every_each (light here) 8 each)

  -- the work so far is small
  pub work_fits : work ≤ at
  work_fits = omega (arith, h.worked, h.counted, over_most h.done)

  -- an accepted record
  pub turn_on : (out' : List ℕ) → at < length file → refusal_of l here room ≡ 0
      → out' ≡ take at out ++ (output_record (accepted_of l here) ++ drop 48 (drop at out))
      → MidRun l₀ file out₀ entries good out' (accepted_of l here).ledger (at + 48) (work + work_of l here)
  unfolding outputs accepted_of after work_over
  turn_on out' left ok e =
      let o : List ℕ = output_record (accepted_of l here) in
      let w : List ℕ = take at out in
      let turn = accepted_turn l here in
      let a = accepted_meets l here room ok in
      let enough : 48 ≤ room = has_room l here room ok in
      let size : length o ≡ 48 = output_length (accepted_of l here) in
      let n : length w ≡ at = length-take-le at out h.in_out in
      let m : length (w ++ o) ≡ at + 48 = simp length-append (omega arith) in
      let e' : out' ≡ (w ++ o) ++ drop 48 (drop at out) = e ∙ sym (append_assoc w o (drop 48 (drop at out))) in
      let same : length out' ≡ length out = ap length e' ∙ simp (length-append, length-drop) (omega arith) in
      let left' : room - 48 ≡ length out' - (at + 48) = omega arith in
      record {
        flag = h.flag ∙ was_sound l here room ok ∙ sym (accepted_sound l here a);
        fit = next_fit l here (take 48 (drop (at + 48) file)) entries (room_alike l here 48 room (omega arith) enough ∙ ok) h.fit;
        in_file = omega (arith, a.size, length-take 48 (drop at file), length-drop at file);
        in_out = omega arith;
        as_long = same ∙ h.as_long;
        untouched = ap (drop (at + 48)) e' ∙ drop_at (w ++ o) (drop 48 (drop at out)) (at + 48) m ∙ ap (drop 48) h.untouched ∙ drop-drop 48 at out₀;
        done = h.done ++ (turn ∷ []);
        counted = omega (arith, h.counted, length-append h.done (turn ∷ []));
        grown = omega (arith, h.grown, length-append h.done (turn ∷ []));
        worked = rw h.worked (sym (added_more (λ (turn : Turn). work_of turn.before turn.bytes) h.done turn));
        begun = λ z. absurd (omega arith);
        held_to = λ some. (accepted_sound l here a, refl);
        put_out = ap (take (at + 48)) e' ∙ take_at (w ++ o) (drop 48 (drop at out)) (at + 48) m
            ∙ rw (h.put_out, outputs_join h.done (turn ∷ []), append-nil);
        so_far =
            h.so_far
            ∙ rw (first_record_lem (drop at file) (simp length-drop (omega arith)), run_goes_on l here (records_of (drop 48 (drop at file))) room ok, left', drop-drop 48 at file)
            (on_from_lem h.done turn (run_of (accepted_of l here).ledger (records_of (drop (at + 48) file)) (length out' - (at + 48))));
      }
