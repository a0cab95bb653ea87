-- The run of what is left of a file is the run of its first stretch and, where that refuses nothing, the run of the rest.
use mathlib.Core.Path.{◌≡◌, refl, sym, ap, ◌∙◌}
use mathlib.Core.Bool.{Bool, true, false, cond}
use mathlib.Core.List.{List, [], ◌++◌, append-nil}
use Prim.Native.Nat.{ℕ, ◌+◌, ◌-◌, ◌*◌, ◌≤◌, ◌<◌}
use native.Mathlib.Nat.{zero-add, add-zero, add-sub_cancel_left}
use native.Mathlib.Decide.{ℕ_discrete, dec_le}
use native.Mathlib.Omega.{arith}
use borrow.Author.Tests.{ltb-true, ltb-false, eq-eqb, ne_eqb}
use lib.Dec.{eqb, ltb}
use lib.ListN.{length, take, drop, length-drop, length-append, length-take, drop_of_length-le}
use lib.Seq.{take_all, take_at, drop_at, drop-drop}
use Rattle.std.proofs.Common.{min}
use Rattle.std.proofs.lemmas.List.{nil_from_length}
use Rattle.record.specs.Fields.{record_bytes}
use Rattle.carbon.specs.Carbon.{most_records}
use Rattle.ledger.specs.Step.{fresh}
use Rattle.ledger.specs.declared.book.Ledger.{Ledger}
use Rattle.run.specs.History.{work_over, records_of, Run, run_of, out_of, outcome_of, whole_run}
use Rattle.stretches.specs.Stretches.{stretch_bytes, stretch_end, stretch_run}
use Rattle.run.specs.Outcome.{Outcome}
use Rattle.run.proofs.History.{no_records, records_split, records_count, on_from, run_ends, run_join, run_refused, run_roomy, Counts, run_counts, run_most, outputs_length, over_most, work_join}

-- A stretch of a file from a place to its end: 32 records, or what is left.
pub record Stretch (file : List ℕ) (at end : ℕ) : Type 0 where
  pub in_file : end ≤ length file
  pub on : at ≤ end
  pub part : take (end - at) (drop at file) ≡ take stretch_bytes (drop at file)
  pub rest : drop end file ≡ drop stretch_bytes (drop at file)
  pub far : at < length file → at < end

the_rest : (file : List ℕ) (at : ℕ) → at ≤ length file → length file - at < stretch_bytes → Stretch file at (length file)
the_rest file at h short =
    let left = drop at file in
    record {
      in_file = omega arith;
      on = h;
      part = take_all (length file - at) left (simp length-drop (omega arith)) ∙ sym (take_all stretch_bytes left (simp length-drop (omega arith)));
      rest = drop_of_length-le file {i = length file} (omega arith) ∙ sym (drop_of_length-le left {i = stretch_bytes} (simp length-drop (omega arith)));
      far = λ l. l;
    }

a_stretch : (file : List ℕ) (at : ℕ) → at + stretch_bytes ≤ length file → Stretch file at (at + stretch_bytes)
a_stretch file at h =
    record {
      in_file = h;
      on = omega arith;
      part = rw (add-sub_cancel_left at stretch_bytes);
      rest = sym (drop-drop stretch_bytes at file);
      far = λ l. omega arith;
    }

pub stretch_is : (file : List ℕ) (at : ℕ) {end : ℕ} → at ≤ length file → end ≡ stretch_end (length file) at → Stretch file at end
unfolding stretch_end
stretch_is file at h e = rw e (by_size (ltb (length file - at) stretch_bytes) refl)
  where
    by_size : (short : Bool) → ltb (length file - at) stretch_bytes ≡ short → Stretch file at (cond short (length file) (at + stretch_bytes))
    by_size true less = the_rest file at h (ltb-true (length file - at) stretch_bytes less)
    by_size false more = a_stretch file at (omega (arith, ltb-false (length file - at) stretch_bytes more))

-- The first stretch of a file is 32 records, or all of them.
stretch_records : (file : List ℕ) → records_of file ≡ records_of (take stretch_bytes file) ++ records_of (drop stretch_bytes file)
stretch_records file = records_split 32 file

-- The run of what is left of a file, with room for every output record.
abbrev pub rest_run : Ledger → List ℕ → Run
rest_run l left = run_of l (records_of left) (record_bytes * length (records_of left))

module _ (l : Ledger) (left : List ℕ) (few : l.n ≤ most_records) where
  abbrev stretch : List (List ℕ)
  stretch = records_of (take stretch_bytes left)

  abbrev ran : Run
  ran = stretch_run l left

  stretch_few : length stretch ≤ 32
  stretch_few = omega (arith, records_count (take stretch_bytes left), length-take stretch_bytes left)

  pub counts : Counts l stretch ran
  counts = run_counts l stretch stretch_bytes few

  pub output_fits : record_bytes * length ran.accepted ≤ stretch_bytes
  output_fits = omega (arith, stretch_few, run_most l stretch ran counts)

  pub output_size : (out : List ℕ) → length out ≡ stretch_bytes → length (out_of ran out) ≡ stretch_bytes
  unfolding out_of
  output_size out size = simp (length-append, length-drop) (omega (arith, outputs_length ran.accepted, output_fits))

  pub all_records : length (records_of left) ≡ length stretch + length (records_of (drop stretch_bytes left))
  all_records = ap length (stretch_records left) ∙ length-append stretch (records_of (drop stretch_bytes left))

  pub stretch_most : length ran.accepted ≤ length (records_of left)
  stretch_most = omega (arith, all_records, run_most l stretch ran counts)

  -- the same run with the room of the whole
  same_run : run_of l stretch (record_bytes * length (records_of left)) ≡ ran
  same_run = run_roomy l stretch (record_bytes * length (records_of left)) stretch_bytes (omega (arith, all_records)) (omega (arith, stretch_few))

  rest_is : rest_run l left ≡ run_of l (stretch ++ records_of (drop stretch_bytes left)) (record_bytes * length (records_of left))
  rest_is = ap (λ (rs : List (List ℕ)). run_of l rs (record_bytes * length (records_of left))) (stretch_records left)

  -- What is left goes on after a stretch that is accepted,
  pub goes_on : ran.refusal ≡ 0 → rest_run l left ≡ on_from ran.accepted (rest_run ran.ledger (drop stretch_bytes left))
  goes_on none =
      let room : record_bytes * length (records_of left) - record_bytes * length stretch ≡ record_bytes * length (records_of (drop stretch_bytes left))
      = omega (arith, all_records) in
      rest_is
      ∙ run_join l stretch (records_of (drop stretch_bytes left)) (record_bytes * length (records_of left)) (ap (λ (r : Run). r.refusal) same_run ∙ none)
      ∙ rw (same_run, room)

  -- and ends in a stretch in which a record is refused.
  pub ends_here : (ran.refusal ≡ 0 → ⊥) → rest_run l left ≡ ran
  ends_here some =
      rest_is
      ∙ run_refused l stretch (records_of (drop stretch_bytes left)) (record_bytes * length (records_of left)) (λ z. some (sym (ap (λ (r : Run). r.refusal) same_run) ∙ z))
      ∙ same_run

-- The next part of what is left is the next stretch,
module _ (left part rest : List ℕ) (cut : left ≡ part ++ rest) {n : ℕ} (a_stretch : n ≡ stretch_bytes) (long : length part ≡ min n (length left)) where
  lengths : length left ≡ length part + length rest
  lengths = ap length cut ∙ length-append part rest

  size_of_part : length part ≡ min stretch_bytes (length left)
  size_of_part = rw a_stretch at long

  pub next_part : (part ≡ take stretch_bytes left) × (rest ≡ drop stretch_bytes left)
  next_part = rw cut (by_size (dec_le stretch_bytes (length left)))
    where
      by_size : Dec (stretch_bytes ≤ length left) → (part ≡ take stretch_bytes (part ++ rest)) × (rest ≡ drop stretch_bytes (part ++ rest))
      by_size (yes more) =
          let all : length part ≡ stretch_bytes = omega (arith, size_of_part) in (sym (take_at part rest stretch_bytes all), sym (drop_at part rest stretch_bytes all))
      by_size (no less) =
          let short : length (part ++ rest) ≤ stretch_bytes = omega (arith, ap length cut) in
          let none : rest ≡ [] = nil_from_length rest (omega (arith, lengths, size_of_part)) in
          let whole : part ++ rest ≡ part = rw none (append-nil part) in
          (sym whole ∙ sym (take_all stretch_bytes (part ++ rest) short), none ∙ sym (drop_of_length-le (part ++ rest) {i = stretch_bytes} short))

-- and its run, with the room of a stretch, is the stretch's.
pub part_run : (l : Ledger) (left part rest : List ℕ) → left ≡ part ++ rest → {n : ℕ} → n ≡ stretch_bytes → length part ≡ min n (length left)
    → {room : ℕ} → room ≡ stretch_bytes → run_of l (records_of part) room ≡ stretch_run l left
part_run l left part rest cut a_stretch long size =
    λ i. run_of l (records_of ((next_part left part rest cut a_stretch long).0 i)) (size i)

-- How a run from a fresh ledger ends, after so much decay work: n counts the accepted records.
abbrev end_of : (work : ℕ) → Run → Outcome
end_of work r = record { ledger = r.ledger; accepted = r.ledger.n; refusal = r.refusal; work = work + work_over r.accepted }

-- The end of the whole is the end of what is left, or that of the record that was refused.
abbrev rest_end : (refusal work : ℕ) → Ledger → List ℕ → Outcome
rest_end refusal work l left = cond (eqb refusal 0) (end_of work (rest_run l left)) (record { ledger = l; accepted = l.n; refusal = refusal; work = work })

pub record MidWhole (file : List ℕ) (l : Ledger) (left : List ℕ) (refusal work : ℕ) : Type 0 where
  pub few : l.n ≤ most_records
  pub worked : work ≤ 8 * l.n
  pub so_far : outcome_of (whole_run file) ≡ rest_end refusal work l left

pub whole_starts : (file : List ℕ) → MidWhole file fresh file 0 0
unfolding whole_run outcome_of fresh
whole_starts file =
    let c = run_counts fresh (records_of file) (record_bytes * length (records_of file)) (omega arith) in
    let counted : length (whole_run file).accepted ≡ (whole_run file).ledger.n = omega (arith, c.n) in
    record {
      few = omega arith;
      worked = omega arith;
      so_far =
          λ i. record {
            ledger = (whole_run file).ledger;
            accepted = counted i;
            refusal = (whole_run file).refusal;
            work = sym (zero-add (work_over (whole_run file).accepted)) i;
          };
    }

module _ {file left : List ℕ} {l : Ledger} {work : ℕ} (h : MidWhole file l left 0 work) where
  abbrev done : Run
  done = stretch_run l left

  next_end : end_of work (rest_run l left) ≡ rest_end done.refusal (work + work_over done.accepted) done.ledger (drop stretch_bytes left)
  next_end =
      let rest = rest_run done.ledger (drop stretch_bytes left) in
      let added_up : work + work_over (done.accepted ++ rest.accepted) ≡ work + work_over done.accepted + work_over rest.accepted
      = omega (arith, work_join done.accepted rest.accepted) in
      elim (ℕ_discrete done.refusal 0) [
        | yes z ↦ simp (eq-eqb done.refusal 0 z)
            (ap (end_of work) (goes_on l left h.few z)
            ∙ λ i. record { ledger = rest.ledger; accepted = rest.ledger.n; refusal = rest.refusal; work = added_up i })
        | no z ↦ simp (ne_eqb done.refusal 0 z) (ap (end_of work) (ends_here l left h.few z))
      ]

  -- the run of the next part is the stretch's
  module _ (part rest : List ℕ) (cut : left ≡ part ++ rest) {n : ℕ} (a_stretch : n ≡ stretch_bytes) (long : length part ≡ min n (length left))
      {o : Outcome} {room : ℕ} (size : room ≡ stretch_bytes) (answered : o ≡ outcome_of (run_of l (records_of part) room)) where
    says : o ≡ outcome_of done
    says = answered ∙ ap outcome_of (part_run l left part rest cut a_stretch long size)

    pub next_worked : (work + o.work ≤ 8 * o.ledger.n) × (o.ledger.n ≤ most_records)
    unfolding outcome_of
    next_worked =
        let c = counts l left h.few in
        rw says (omega (arith, h.worked, over_most done.accepted, c.n), c.few)

    pub whole_goes_on : MidWhole file o.ledger rest o.refusal (work + o.work)
    unfolding outcome_of
    whole_goes_on =
        record {
          few = next_worked.1;
          worked = next_worked.0;
          so_far = rw (says, (next_part left part rest cut a_stretch long).1) (h.so_far ∙ next_end);
        }

pub whole_ends : {file left : List ℕ} {l : Ledger} {refusal work : ℕ} → MidWhole file l left refusal work → (refusal ≡ 0 → length left ≡ 0)
    → record { ledger = l; accepted = l.n; refusal = refusal; work = work } ≡ outcome_of (whole_run file)
unfolding work_over
whole_ends {file} {left} {l} {refusal} {work} h last = sym (h.so_far ∙ by_refusal (ℕ_discrete refusal 0))
  where
    by_refusal : Dec (refusal ≡ 0) → rest_end refusal work l left ≡ record { ledger = l; accepted = l.n; refusal = refusal; work = work }
    by_refusal (yes z) =
        let gone : records_of left ≡ [] = no_records left (last z) in
        simp (eq-eqb refusal 0 z) (rw (gone, run_ends, z, add-zero))
    by_refusal (no z) = simp (ne_eqb refusal 0 z)
