-- `MidRun` holds at the head of the loop; each way out and each turn is a law of it.
use mathlib.Core.Path.{◌≡◌, refl, sym, ap, ◌∙◌}
use mathlib.Core.Bool.{true, Bool}
use mathlib.Core.List.{List}
use Prim.Native.Nat.{ℕ, ◌+◌, ◌-◌, ◌≤◌, ◌<◌}
use native.Mathlib.Nat.{add-sub_cancel_left}
use native.Mathlib.Omega.{arith}
use borrow.Author.Rules.{rules}
use lib.ListN.{length, take, drop}
use Rattle.record.specs.Ranges.{light}
use Rattle.refusal.specs.Numbers.{numbered}
use Rattle.refusal.specs.Reach.{reach_of}
use Rattle.refusal.proofs.Numbers.{number_some}
use Rattle.ledger.specs.Refusal.{refusal_of}
use Rattle.ledger.specs.Take.{accepted_of, entered_of, output_record}
use Rattle.ledger.specs.declared.answer.Entered.{Entered}
use Rattle.ledger.specs.declared.book.Ledger.{Ledger}
use Rattle.ledger.proofs.Accepted.{room_alike}
use Rattle.ledger.proofs.Settle.{work_small}
use Rattle.run.proofs.MidRun.{MidRun, early, run_starts, lent_length, lent_back, reach_within, next_within, at_last, at_early, at_heavy, no_refusal, work_fits, turn_on, Ends}
use Rattle.run.proofs.run.Goals.{then-at-reach, else-at-reach+in-Some, else-at-reach+in_default+then-loop-t-test+then-not-is_light}
use Rattle.run.proofs.run.Goals as goal

-- the record at the head of the loop is whole and has room
record Ready (file out : List ℕ) (at reach : ℕ) : Type 0 where
  in_reach : at + 48 ≤ reach
  in_file : at + 48 ≤ length file
  in_out : at + 48 ≤ length out

ready : {l₀ l : Ledger} {file out₀ entries out : List ℕ} {good : Bool} {at work reach : ℕ} → MidRun l₀ file out₀ entries good out l at work
    → reach ≡ reach_of (length file) (length out₀) → at < reach → Ready file out at reach
ready {file} {out₀} {at} mid end below =
    let w = reach_within (length file) (length out₀) in
    let next = next_within (length file) (length out₀) at (length mid.done) mid.counted (omega (arith, end, below)) in
    record { in_reach = omega (arith, end, next); in_file = omega (arith, next, w.0); in_out = omega (arith, next, w.1, mid.as_long) }

-- past both checks the record is accepted
passed : {l₀ l : Ledger} {file out₀ entries out : List ℕ} {good : Bool} {at work : ℕ} → MidRun l₀ file out₀ entries good out l at work
    → early l (take (at + 48 - at) (drop at file)) 48 good ≡ 0
    → ((t : ℕ) → t < 8 → light (take (at + 48 - at) (drop at file)) t ≡ true)
    → refusal_of l (take 48 (drop at file)) 48 ≡ 0
passed {l} {file} {good} {at} mid none each =
    no_refusal mid (rw (add-sub_cancel_left at 48) at none) (λ t b. rw (add-sub_cancel_left at 48) at (each t b))

pub records-init : goal.records-init
records-init c = (run_starts _ _ _ _ _ c.is_sound-good.ensures c.run_entries-entries.ensures, omega arith)

pub slice_bounds-bytes-end : goal.slice_bounds-bytes-end
slice_bounds-bytes-end c = let b : c.records.at + 48 ≤ length c.args.records.now = (ready c.records.invariant.0 c.reach-reach.ensures (omega arith)).in_file in search rules

pub slice_bounds-enter-end : goal.slice_bounds-enter-end
slice_bounds-enter-end c = let b : c.records.at + 48 ≤ length c.records.out = (ready c.records.invariant.0 c.reach-reach.ensures (omega arith)).in_out in search rules

pub enter-entered-requires : goal.enter-entered-requires
enter-entered-requires c =
    let ok = passed c.records.invariant.0 (sym c.in_default.ensures) (λ t b. c.loop-t.invariant.1 t (omega (arith, c.loop-t-test.false))) in
    rw (add-sub_cancel_left c.records.at 48, lent_length c.records.out c.records.at (ready c.records.invariant.0 c.reach-reach.ensures (omega arith)).in_out)
    (record { out_value = ok; entries_value = c.records.invariant.0.fit ok })

pub overflow_add-work : goal.overflow_add-work
unfolding entered_of
overflow_add-work c =
    omega (
      arith,
      work_fits c.records.invariant.0,
      ap (λ (e : Entered). e.work) c.enter-entered.ensures.value,
      work_small c.records.ledger (take (c.records.at + 48 - c.records.at) (drop c.records.at c.args.records.now)),
      (ready c.records.invariant.0 c.reach-reach.ensures (omega arith)).in_file,
    )

pub records-preserved : goal.records-preserved
unfolding entered_of accepted_of
records-preserved c =
    let ok = passed c.records.invariant.0 (sym c.in_default.ensures) (λ t b. c.loop-t.invariant.1 t (omega (arith, c.loop-t-test.false))) in
    let r = (ready c.records.invariant.0 c.reach-reach.ensures (omega arith)) in
    let at = c.records.at in
    let l = c.records.ledger in
    let bytes = take 48 (drop at c.args.records.now) in (
      rw (rw (add-sub_cancel_left at 48) at c.enter-entered.ensures.value, add-sub_cancel_left at 48)
          (turn_on c.records.invariant.0 _ (omega (arith, r.in_file))
          (room_alike l bytes (length c.records.out - at) 48 (omega (arith, r.in_out)) (omega arith) ∙ ok)
          (lent_back c.records.out at (output_record (accepted_of l bytes)) r.in_out
          (rw (add-sub_cancel_left at 48) at c.enter-entered.ensures.out_after))),
      r.in_reach,
    )

pub returns : goal.returns
returns c =
    let mid = c.records.invariant.0 in
    let size = add-sub_cancel_left c.records.at 48 in
    let left : (c.if-at-reach.accepted.0 ≡ c.records.ledger.n - c.args.ledger.n) × Ends mid (numbered c.if-at-reach.accepted.1) =
    elim c.if-at-reach.branch [
      | then-at-reach w ↦
          rw w.accepted-is
          (refl, rw w.left_over-left.ensures (at_last mid (rw mid.as_long (omega (arith, w.if-at-reach.true, c.records.invariant.1, c.reach-reach.ensures)))))
      | else-at-reach+in-Some w ↦
          let r = (ready c.records.invariant.0 c.reach-reach.ensures (omega arith)) in
          rw w.accepted-is (refl, at_early mid _ (omega (arith, r.in_file)) (omega (arith, r.in_out)) (rw size at w.in-Some.ensures) (number_some w.in-Some.why))
      | else-at-reach+in_default+then-loop-t-test+then-not-is_light w ↦
          let r = (ready c.records.invariant.0 c.reach-reach.ensures (omega arith)) in
          rw w.accepted-is (
            refl,
            at_heavy mid (rw size at (sym w.in_default.ensures)) (omega (arith, r.in_file)) (omega (arith, r.in_out)) w.loop-t.t (search rules)
                (rw size at (sym w.is_light.ensures ∙ w.if-not-is_light.true)),
          )
    ] in
    record {
      value = (λ i. record { ledger = c.settled.ensures i; accepted = left.0 i; refusal = numbered c.if-at-reach.accepted.1; work = c.records.work }) ∙ left.1.0;
      out_after = left.1.1;
    }
