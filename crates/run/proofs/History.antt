-- How a history goes: the records of a file, a step that accepts, a step that refuses, and stretches one after another.
use mathlib.Core.Path.{◌≡◌, refl, sym, ap, ◌∙◌}
use mathlib.Core.Bool.{true, false, ◌&&◌}
use mathlib.Core.List.{List, [], ◌∷◌, ◌++◌, append_assoc, append-nil}
use Prim.Native.Nat.{ℕ, zero, suc, ◌+◌, ◌-◌, ◌*◌, ◌≤◌, ◌<◌}
use native.Mathlib.Decide.{dec_le, ℕ_discrete}
use native.Mathlib.Omega.{arith}
use borrow.Author.Tests.{eq-eqb, ne_eqb, eqb-true, ltb-true, ltb-false}
use lib.Dec.{eqb, ltb}
use lib.ListN.{length, take, drop, length-drop, length-append, length-take, take-append-drop}
use lib.Seq.{take-append-le, drop-append-le, take_all, length-take-le}
use Rattle.numbers.proofs.Eight.{both_true}
use Rattle.record.specs.Fields.{record_bytes}
use Rattle.carbon.specs.Carbon.{most_records}
use Rattle.ledger.specs.Step.{after}
use Rattle.ledger.specs.Refusal.{refusal_of}
use Rattle.ledger.specs.Take.{accepted_of, take_of, output_record}
use Rattle.run.specs.History.{Offer, Turn, turn_of, turns, ledger_after, AllAccepted, leading, ending, outputs, work_over, cut, records_begun, records_of, in_turn, Run, read_off, run_of}
use Rattle.ledger.specs.declared.book.Ledger.{Ledger}
use Rattle.ledger.proofs.Take.{taken, take_refusal, output_length}
use Rattle.ledger.proofs.Accepted.{accepted_meets, has_room, room_alike}
use Rattle.ledger.proofs.Settle.{work_small}

-- A file of no bytes has no records, and any other has a first record and the records of the rest.
pub no_records : (file : List ℕ) → length file ≡ 0 → records_of file ≡ []
unfolding records_of cut
no_records file h = rw h

pub first_record_lem : (file : List ℕ) → 0 < length file → records_of file ≡ take record_bytes file ∷ records_of (drop record_bytes file)
unfolding records_of cut
first_record_lem file h =
    let e : records_begun (length file) ≡ suc (records_begun (length (drop record_bytes file))) = simp length-drop (omega arith) in
    ap (λ (k : ℕ). cut k file) e

-- The bytes of one record, or of a part of one, are one record.
pub begun_record : (bytes : List ℕ) → 0 < length bytes → length bytes ≤ record_bytes → records_of bytes ≡ bytes ∷ []
begun_record bytes some short =
    first_record_lem bytes some
    ∙ rw (no_records (drop record_bytes bytes) (simp length-drop (omega arith)), take_all record_bytes bytes short)

pub one_record : (bytes : List ℕ) → length bytes ≡ record_bytes → records_of bytes ≡ bytes ∷ []
one_record bytes h = begun_record bytes (omega arith) (omega arith)

-- A file has a record for every 48 bytes begun.
cut_length : (k : ℕ) (file : List ℕ) → length (cut k file) ≡ k
unfolding cut
cut_length zero file = refl
cut_length (suc k) file = ap suc (cut_length k (drop record_bytes file))

pub records_count : (file : List ℕ) → length (records_of file) ≡ records_begun (length file)
unfolding records_of
records_count file = cut_length (records_begun (length file)) file

-- Whole records in front of a file are in front of its records.
pub records_join : (k : ℕ) (file rest : List ℕ) → length file ≡ record_bytes * k
    → (records_of (file ++ rest) ≡ records_of file ++ records_of rest) × (length (records_of file) ≡ k)
records_join zero [] rest e = rw (no_records [] refl) (refl, refl)
records_join zero (b ∷ file) rest e = absurd (omega arith)
records_join (suc k) file rest e =
    let on = records_join k (drop 48 file) rest (simp length-drop (omega arith)) in
    let first = first_record_lem file (omega arith) in
    let joined : records_of (file ++ rest) ≡ take 48 file ∷ records_of (drop 48 file ++ rest)
    = first_record_lem (file ++ rest) (simp length-append (omega arith))
    ∙ rw (take-append-le 48 file rest (omega arith), drop-append-le 48 file rest (omega arith)) in
    (joined ∙ rw (on.0, first), rw first (ap suc on.1))

-- A file is its first k records, or all of them, and the records after them.
pub records_split : (k : ℕ) (file : List ℕ) → records_of file ≡ records_of (take (record_bytes * k) file) ++ records_of (drop (record_bytes * k) file)
records_split k file = by_size (dec_le (record_bytes * k) (length file))
  where
    by_size : Dec (record_bytes * k ≤ length file) → records_of file ≡ records_of (take (record_bytes * k) file) ++ records_of (drop (record_bytes * k) file)
    by_size (yes long) =
        ap records_of (sym (take-append-drop (record_bytes * k) file))
        ∙ (records_join k (take (record_bytes * k) file) (drop (record_bytes * k) file) (length-take-le (record_bytes * k) file long)).0
    by_size (no short) =
        rw (
          take_all (record_bytes * k) file (omega arith),
          no_records (drop (record_bytes * k) file) (simp length-drop (omega arith)),
          append-nil,
        )

-- A run that stops at once, with a refusal or at the end.
abbrev pub stopped : Ledger → ℕ → Run
stopped l refusal = record { ledger = l; accepted = []; refusal = refusal }

-- Accepted records in front of a run.
abbrev pub on_from : List Turn → Run → Run
on_from done r = record { ledger = r.ledger; accepted = done ++ r.accepted; refusal = r.refusal }

abbrev pub accepted_turn : Ledger → List ℕ → Turn
accepted_turn l bytes = record { before = l; bytes = bytes; answer = accepted_of l bytes }

-- What the turn at the head of a run decides, in any history.
module _ (l : Ledger) (turn : Turn) (rest : List Turn) where
  pub goes_on : turn.answer.refusal ≡ 0 → read_off l (turn ∷ rest) ≡ on_from (turn ∷ []) (read_off turn.answer.ledger rest)
  unfolding leading ending ledger_after
  goes_on e = simp (eq-eqb turn.answer.refusal 0 e)

  pub stops : (turn.answer.refusal ≡ 0 → ⊥) → read_off l (turn ∷ rest) ≡ stopped l turn.answer.refusal
  unfolding leading ending ledger_after
  stops e = simp (ne_eqb turn.answer.refusal 0 e)

-- A run is its first step and the run of the rest ...
module _ (l : Ledger) (bytes : List ℕ) (rest : List (List ℕ)) (room : ℕ) where
  pub run_goes_on : refusal_of l bytes room ≡ 0
      → run_of l (bytes ∷ rest) room ≡ on_from (accepted_turn l bytes ∷ []) (run_of (accepted_of l bytes).ledger rest (room - record_bytes))
  unfolding run_of turns in_turn
  run_goes_on e =
      goes_on l (turn_of l (record { bytes = bytes; room = room })) _ (take_refusal l bytes room ∙ e)
      ∙ rw (taken l bytes room e)

  -- ... or stops at a record that is refused.
  pub run_stops : (q : ℕ) → refusal_of l bytes room ≡ q → (q ≡ 0 → ⊥) → run_of l (bytes ∷ rest) room ≡ stopped l q
  unfolding run_of turns in_turn
  run_stops q e h =
      let is : (take_of l bytes room).refusal ≡ q = take_refusal l bytes room ∙ e in
      stops l (turn_of l (record { bytes = bytes; room = room })) _ (λ z. h (sym is ∙ z)) ∙ ap (stopped l) is

pub run_ends : (l : Ledger) (room : ℕ) → run_of l [] room ≡ stopped l 0
unfolding run_of turns in_turn leading ending ledger_after
run_ends l room = refl

pub on_from_lem : (done : List Turn) (turn : Turn) (r : Run) → on_from done (on_from (turn ∷ []) r) ≡ on_from (done ++ (turn ∷ [])) r
on_from_lem done turn r = λ i. record { ledger = r.ledger; accepted = sym (append_assoc done (turn ∷ []) r.accepted) i; refusal = r.refusal }

-- The run of one record, or of a part of one, has its refusal.
pub begun_refusal : (l : Ledger) (bytes : List ℕ) (room : ℕ) → 0 < length bytes → length bytes ≤ record_bytes
    → (run_of l (records_of bytes) room).refusal ≡ refusal_of l bytes room
begun_refusal l bytes room some short =
    rw (begun_record bytes some short)
    (elim (ℕ_discrete (refusal_of l bytes room) 0) [
      | yes e ↦ rw (run_goes_on l bytes [] room e, run_ends) (sym e)
      | no e ↦ rw (run_stops l bytes [] room (refusal_of l bytes room) refl e)
    ])

-- Turns that are all accepted are all leading ones, and end with 0.
pub none_refused : (all : List Turn) → ending all ≡ 0 → AllAccepted all × (leading all ≡ all)
unfolding ending leading
none_refused [] e = (tt, refl)
none_refused (turn ∷ rest) e =
    elim (ℕ_discrete turn.answer.refusal 0) [
      | yes z ↦
          let test = eq-eqb turn.answer.refusal 0 z in
          let on = none_refused rest (simp test at e) in
          ((z, on.0), simp test (ap (λ (ts : List Turn). turn ∷ ts) on.1))
      | no z ↦ absurd (z (simp (ne_eqb turn.answer.refusal 0 z) at e))
    ]

pub none_ending : (all : List Turn) → AllAccepted all → ending all ≡ 0
unfolding ending
none_ending [] e = refl
none_ending (turn ∷ rest) e = simp (eq-eqb turn.answer.refusal 0 e.0) (none_ending rest e.1)

-- A run that refuses nothing takes its first record, and refuses none of the rest.
pub run_takes : (l : Ledger) (bytes : List ℕ) (rest : List (List ℕ)) (room : ℕ) → (run_of l (bytes ∷ rest) room).refusal ≡ 0
    → (refusal_of l bytes room ≡ 0) × ((run_of (accepted_of l bytes).ledger rest (room - record_bytes)).refusal ≡ 0)
run_takes l bytes rest room none =
    elim (ℕ_discrete (refusal_of l bytes room) 0) [
      | yes e ↦ (e, sym (ap (λ (r : Run). r.refusal) (run_goes_on l bytes rest room e)) ∙ none)
      | no e ↦ absurd (e (sym (ap (λ (r : Run). r.refusal) (run_stops l bytes rest room (refusal_of l bytes room) refl e)) ∙ none))
    ]

-- Turns that go on after others, in any history: where none of the first is refused they follow, ...
pub read_join : (l : Ledger) (first more : List Turn) → ending first ≡ 0 → read_off l (first ++ more) ≡ on_from (leading first) (read_off (ledger_after l (leading first)) more)
unfolding leading ending ledger_after
read_join l [] more none = refl
read_join l (turn ∷ rest) more none =
    elim (ℕ_discrete turn.answer.refusal 0) [
      | yes e ↦
          let test = eq-eqb turn.answer.refusal 0 e in
          goes_on l turn (rest ++ more) e
          ∙ ap (on_from (turn ∷ [])) (read_join turn.answer.ledger rest more (simp test at none))
          ∙ simp test
      | no e ↦ absurd (e (simp (ne_eqb turn.answer.refusal 0 e) at none))
    ]

-- ... and after a refused one they change nothing.
pub read_refused : (l : Ledger) (first more : List Turn) → (ending first ≡ 0 → ⊥) → read_off l (first ++ more) ≡ read_off l first
unfolding ending
read_refused l [] more some = absurd (some refl)
read_refused l (turn ∷ rest) more some =
    elim (ℕ_discrete turn.answer.refusal 0) [
      | yes e ↦
          goes_on l turn (rest ++ more) e
          ∙ ap (on_from (turn ∷ [])) (read_refused turn.answer.ledger rest more (λ z. some (simp (eq-eqb turn.answer.refusal 0 e) z)))
          ∙ sym (goes_on l turn rest e)
      | no e ↦ stops l turn (rest ++ more) e ∙ sym (stops l turn rest e)
    ]

-- Records that follow others have the room that those leave, and each is taken on the ledger that the one before it left.
pub in_turn_join : (xs ys : List (List ℕ)) (room : ℕ) → in_turn (xs ++ ys) room ≡ in_turn xs room ++ in_turn ys (room - record_bytes * length xs)
unfolding in_turn
in_turn_join [] ys room = ap (in_turn ys) (omega arith)
in_turn_join (bytes ∷ xs) ys room =
    let left : room - record_bytes - record_bytes * length xs ≡ room - record_bytes * suc (length xs) = omega arith in
    ap (λ (offers : List Offer). record { bytes = bytes; room = room } ∷ offers) (in_turn_join xs ys (room - record_bytes) ∙ rw left)

turns_join : (l : Ledger) (first more : List Offer) → turns l (first ++ more) ≡ turns l first ++ turns (ledger_after l (turns l first)) more
unfolding turns ledger_after
turns_join l [] more = refl
turns_join l (offer ∷ rest) more = ap (λ (all : List Turn). turn_of l offer ∷ all) (turns_join (turn_of l offer).answer.ledger rest more)

-- Two stretches of records are one, where the first ends without refusal.
module _ (l : Ledger) (xs ys : List (List ℕ)) (room : ℕ) where
  abbrev first : List Turn
  first = turns l (in_turn xs room)

  joined_run : run_of l (xs ++ ys) room ≡ read_off l (first ++ turns (ledger_after l first) (in_turn ys (room - record_bytes * length xs)))
  unfolding run_of
  joined_run = rw (in_turn_join xs ys room, turns_join l (in_turn xs room) (in_turn ys (room - record_bytes * length xs)))

  pub run_join : (run_of l xs room).refusal ≡ 0
      → run_of l (xs ++ ys) room ≡ on_from (run_of l xs room).accepted (run_of (run_of l xs room).ledger ys (room - record_bytes * length xs))
  unfolding run_of
  run_join none =
      joined_run
      ∙ read_join l first (turns (ledger_after l first) (in_turn ys (room - record_bytes * length xs))) none
      ∙ rw (none_refused first none).1

  -- Records after one that is refused change nothing.
  pub run_refused : ((run_of l xs room).refusal ≡ 0 → ⊥) → run_of l (xs ++ ys) room ≡ run_of l xs room
  unfolding run_of
  run_refused some = joined_run ∙ read_refused l first (turns (ledger_after l first) (in_turn ys (room - record_bytes * length xs))) some

-- n counts the accepted records, which are all that there are, or fewer where one is refused.
pub record Counts (l : Ledger) (xs : List (List ℕ)) (r : Run) : Type 0 where
  pub n : r.ledger.n ≡ l.n + length r.accepted
  pub few : r.ledger.n ≤ most_records
  pub all : r.refusal ≡ 0 → length r.accepted ≡ length xs
  pub fewer : (r.refusal ≡ 0 → ⊥) → length r.accepted < length xs

pub run_counts : (l : Ledger) (xs : List (List ℕ)) (room : ℕ) → l.n ≤ most_records → Counts l xs (run_of l xs room)
unfolding accepted_of after
run_counts l [] room h = rw (run_ends l room) (record { n = omega arith; few = h; all = λ q. refl; fewer = λ q. absurd (q refl) })
run_counts l (bytes ∷ xs) room h =
    elim (ℕ_discrete (refusal_of l bytes room) 0) [
      | yes e ↦
          let more = (accepted_meets l bytes room e).more in
          let on = run_counts (accepted_of l bytes).ledger xs (room - record_bytes) (omega arith) in
          rw (run_goes_on l bytes xs room e)
          (record { n = omega (arith, on.n); few = on.few; all = λ q. ap suc (on.all q); fewer = λ q. omega (arith, on.fewer q) })
      | no e ↦ rw (run_stops l bytes xs room (refusal_of l bytes room) refl e)
          (record { n = omega arith; few = h; all = λ q. absurd (e q); fewer = λ q. omega arith })
    ]

pub run_most : (l : Ledger) (xs : List (List ℕ)) (r : Run) → Counts l xs r → length r.accepted ≤ length xs
run_most l xs r c = elim (ℕ_discrete r.refusal 0) [ yes e ↦ omega (arith, c.all e) | no e ↦ omega (arith, c.fewer e) ]

-- A file that is accepted to its end is whole records.
pub run_whole : (k : ℕ) (file : List ℕ) → length file ≤ k → (l : Ledger) (room : ℕ) → (run_of l (records_of file) room).refusal ≡ 0
    → record_bytes * length (records_of file) ≡ length file
run_whole zero file short l room none = rw (no_records file (omega arith)) (omega arith)
run_whole (suc k) file short l room none =
    elim (ℕ_discrete (length file) 0) [
      | yes z ↦ rw (no_records file z) (omega (arith, z))
      | no z ↦
          let first = first_record_lem file (omega (arith, z)) in
          let took = run_takes l (take record_bytes file) (records_of (drop record_bytes file)) room (rw first at none) in
          let size = (accepted_meets l (take record_bytes file) room took.0).size in
          let on = run_whole k (drop record_bytes file) (simp length-drop (omega arith)) (accepted_of l (take record_bytes file)).ledger (room - record_bytes) took.1 in
          omega (arith, ap length first, on, size, length-take record_bytes file, length-drop record_bytes file)
    ]

-- The accepted records of a file are in it, and their output records in the room.
pub run_within : (k : ℕ) (file : List ℕ) → length file ≤ k → (l : Ledger) (room : ℕ)
    → let done = record_bytes * length (run_of l (records_of file) room).accepted in (done ≤ length file) × (done ≤ room)
run_within zero file short l room = rw (no_records file (omega arith), run_ends l room) (omega arith, omega arith)
run_within (suc k) file short l room =
    elim (ℕ_discrete (length file) 0) [
      | yes z ↦ rw (no_records file z, run_ends l room) (omega arith, omega arith)
      | no z ↦
          let bytes = take record_bytes file in
          let rest = records_of (drop record_bytes file) in
          rw (first_record_lem file (omega (arith, z)))
          (elim (ℕ_discrete (refusal_of l bytes room) 0) [
            | yes e ↦
                let size = (accepted_meets l bytes room e).size in
                let on = run_within k (drop record_bytes file) (simp length-drop (omega arith)) (accepted_of l bytes).ledger (room - record_bytes) in
                rw (run_goes_on l bytes rest room e)
                (omega (arith, on.0, size, length-take record_bytes file, length-drop record_bytes file), omega (arith, on.1, has_room l bytes room e))
            | no e ↦ rw (run_stops l bytes rest room (refusal_of l bytes room) refl e) (omega arith, omega arith)
          ])
    ]

-- With room for every output record, how much room there is changes nothing.
pub run_roomy : (l : Ledger) (xs : List (List ℕ)) (room more : ℕ) → record_bytes * length xs ≤ room → record_bytes * length xs ≤ more
    → run_of l xs room ≡ run_of l xs more
run_roomy l [] room more h k = run_ends l room ∙ sym (run_ends l more)
run_roomy l (bytes ∷ xs) room more h k =
    let same = room_alike l bytes room more (omega arith) (omega arith) in
    elim (ℕ_discrete (refusal_of l bytes room) 0) [
      | yes e ↦ run_goes_on l bytes xs room e
          ∙ ap (on_from (accepted_turn l bytes ∷ [])) (run_roomy (accepted_of l bytes).ledger xs (room - record_bytes) (more - record_bytes) (omega arith) (omega arith))
          ∙ sym (run_goes_on l bytes xs more (sym same ∙ e))
      | no e ↦ run_stops l bytes xs room (refusal_of l bytes room) refl e ∙ sym (run_stops l bytes xs more (refusal_of l bytes room) (sym same) e)
    ]

-- The decay work of some records is at most 8 each, and adds up over stretches.
pub over_most : (done : List Turn) → work_over done ≤ 8 * length done
unfolding work_over
over_most [] = omega arith
over_most (turn ∷ rest) = omega (arith, work_small turn.before turn.bytes, over_most rest)

pub work_join : (done more : List Turn) → work_over (done ++ more) ≡ work_over done + work_over more
unfolding work_over
work_join [] more = omega arith
work_join (turn ∷ rest) more = omega (arith, work_join rest more)

-- Output records are 48 bytes each, and follow one another.
pub outputs_length : (done : List Turn) → length (outputs done) ≡ record_bytes * length done
unfolding outputs
outputs_length [] = refl
outputs_length (turn ∷ rest) = length-append (output_record turn.answer) (outputs rest) ∙ omega (arith, output_length turn.answer, outputs_length rest)

pub outputs_join : (done more : List Turn) → outputs (done ++ more) ≡ outputs done ++ outputs more
unfolding outputs
outputs_join [] more = refl
outputs_join (turn ∷ rest) more = rw (outputs_join rest more, append_assoc)

-- What the test at the head of a loop over parts of a file says: nothing is refused, and bytes are left.
pub goes : (refusal at size : ℕ) → (eqb refusal 0 && ltb at size) ≡ true → (refusal ≡ 0) × (at < size)
goes refusal at size e =
    let both = both_true (eqb refusal 0) (ltb at size) e in
    (eqb-true refusal 0 both.0, ltb-true at size both.1)

pub no_more : (refusal at size : ℕ) → (eqb refusal 0 && ltb at size) ≡ false → refusal ≡ 0 → size ≤ at
no_more refusal at size e z = ltb-false at size (simp (eq-eqb refusal 0 z) at e)
