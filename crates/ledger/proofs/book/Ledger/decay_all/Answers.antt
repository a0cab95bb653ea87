-- Each type by itself, inert waste having no carbon; the releases of a sound ledger and the decay work add up to less than 64 bits hold.
use mathlib.Core.Path.{◌≡◌}
use mathlib.Core.List.{List}
use Prim.Native.Nat.{ℕ, ◌+◌, ◌*◌, ◌≤◌, ◌<◌}
use native.Mathlib.Omega.{arith}
use lib.Dec.{lit<}
use Rattle.record.specs.Fields.{record_bytes}
use Rattle.carbon.specs.Carbon.{most_brought}
use Rattle.ledger.specs.Step.{decayed_at}
use Rattle.ledger.specs.Refusal.{refusal_of}
use Rattle.ledger.specs.declared.book.Ledger.{Ledger}
use Rattle.ledger.specs.declared.period.Decayed.{Decayed}
use Rattle.ledger.proofs.Settle.{all_decayed, seven_small, work_most}
use Rattle.ledger.proofs.Accepted.{accepted_meets, new_small, no_carbon}
use Rattle.ledger.proofs.book.Ledger.decay_all.Goals as goal

-- one type's release and decay work are small
record Small (d : Decayed) : Type 0 where
  release : d.release ≤ most_brought
  work : d.work ≤ 1

one : (l : Ledger) (bytes : List ℕ) → refusal_of l bytes record_bytes ≡ 0 → {d : Decayed} → (t : ℕ) → t < 8 → d ≡ decayed_at l bytes t → Small d
unfolding decayed_at
one l bytes e t h is = rw is (record { release = (new_small l bytes (accepted_meets l bytes 48 e) t h).G; work = work_most l bytes t })

-- what the seven come to at most
record AllSmall (a b d e f g h : Decayed) : Type 0 where
  releases : a.release + b.release + d.release + e.release + f.release + g.release + h.release ≤ 7 * most_brought
  works : a.work + b.work + d.work + e.work + f.work + g.work + h.work ≤ 7 * 1

each : (l : Ledger) (bytes : List ℕ) → refusal_of l bytes record_bytes ≡ 0 → {a b d e f g h : Decayed}
    → a ≡ decayed_at l bytes 0 → b ≡ decayed_at l bytes 1 → d ≡ decayed_at l bytes 2 → e ≡ decayed_at l bytes 3
    → f ≡ decayed_at l bytes 4 → g ≡ decayed_at l bytes 6 → h ≡ decayed_at l bytes 7 → AllSmall a b d e f g h
each l bytes ok a b d e f g h =
    let a' = one l bytes ok 0 (lit< tt) a in
    let b' = one l bytes ok 1 (lit< tt) b in
    let d' = one l bytes ok 2 (lit< tt) d in
    let e' = one l bytes ok 3 (lit< tt) e in
    let f' = one l bytes ok 4 (lit< tt) f in
    let g' = one l bytes ok 6 (lit< tt) g in
    let h' = one l bytes ok 7 (lit< tt) h in
    record {
      releases = seven_small a'.release b'.release d'.release e'.release f'.release g'.release h'.release;
      works = seven_small a'.work b'.work d'.work e'.work f'.work g'.work h'.work;
    }

pub overflow_add-work : goal.overflow_add-work
overflow_add-work c = omega (arith, (each c.args.self c.args.bytes.now c.requires.record_bytes_value c.decay-a.ensures c.decay-b.ensures c.decay-c.ensures c.decay-d.ensures c.decay-e.ensures c.decay-g.ensures c.decay-h.ensures).works)

pub overflow_add-work-2 : goal.overflow_add-work-2
overflow_add-work-2 c = omega (arith, (each c.args.self c.args.bytes.now c.requires.record_bytes_value c.decay-a.ensures c.decay-b.ensures c.decay-c.ensures c.decay-d.ensures c.decay-e.ensures c.decay-g.ensures c.decay-h.ensures).works)

pub overflow_add-work-3 : goal.overflow_add-work-3
overflow_add-work-3 c = omega (arith, (each c.args.self c.args.bytes.now c.requires.record_bytes_value c.decay-a.ensures c.decay-b.ensures c.decay-c.ensures c.decay-d.ensures c.decay-e.ensures c.decay-g.ensures c.decay-h.ensures).works)

pub overflow_add-work-4 : goal.overflow_add-work-4
overflow_add-work-4 c = omega (arith, (each c.args.self c.args.bytes.now c.requires.record_bytes_value c.decay-a.ensures c.decay-b.ensures c.decay-c.ensures c.decay-d.ensures c.decay-e.ensures c.decay-g.ensures c.decay-h.ensures).works)

pub overflow_add-work-5 : goal.overflow_add-work-5
overflow_add-work-5 c = omega (arith, (each c.args.self c.args.bytes.now c.requires.record_bytes_value c.decay-a.ensures c.decay-b.ensures c.decay-c.ensures c.decay-d.ensures c.decay-e.ensures c.decay-g.ensures c.decay-h.ensures).works)

pub overflow_add-work-6 : goal.overflow_add-work-6
overflow_add-work-6 c = omega (arith, (each c.args.self c.args.bytes.now c.requires.record_bytes_value c.decay-a.ensures c.decay-b.ensures c.decay-c.ensures c.decay-d.ensures c.decay-e.ensures c.decay-g.ensures c.decay-h.ensures).works)

pub overflow_add-early : goal.overflow_add-early
overflow_add-early c = omega (arith, (each c.args.self c.args.bytes.now c.requires.record_bytes_value c.decay-a.ensures c.decay-b.ensures c.decay-c.ensures c.decay-d.ensures c.decay-e.ensures c.decay-g.ensures c.decay-h.ensures).releases)

pub overflow_add-early-2 : goal.overflow_add-early-2
overflow_add-early-2 c = omega (arith, (each c.args.self c.args.bytes.now c.requires.record_bytes_value c.decay-a.ensures c.decay-b.ensures c.decay-c.ensures c.decay-d.ensures c.decay-e.ensures c.decay-g.ensures c.decay-h.ensures).releases)

pub overflow_add-early-3 : goal.overflow_add-early-3
overflow_add-early-3 c = omega (arith, (each c.args.self c.args.bytes.now c.requires.record_bytes_value c.decay-a.ensures c.decay-b.ensures c.decay-c.ensures c.decay-d.ensures c.decay-e.ensures c.decay-g.ensures c.decay-h.ensures).releases)

pub overflow_add-later : goal.overflow_add-later
overflow_add-later c = omega (arith, (each c.args.self c.args.bytes.now c.requires.record_bytes_value c.decay-a.ensures c.decay-b.ensures c.decay-c.ensures c.decay-d.ensures c.decay-e.ensures c.decay-g.ensures c.decay-h.ensures).releases)

pub overflow_add-later-2 : goal.overflow_add-later-2
overflow_add-later-2 c = omega (arith, (each c.args.self c.args.bytes.now c.requires.record_bytes_value c.decay-a.ensures c.decay-b.ensures c.decay-c.ensures c.decay-d.ensures c.decay-e.ensures c.decay-g.ensures c.decay-h.ensures).releases)

pub overflow_add-result : goal.overflow_add-result
overflow_add-result c = omega (arith, (each c.args.self c.args.bytes.now c.requires.record_bytes_value c.decay-a.ensures c.decay-b.ensures c.decay-c.ensures c.decay-d.ensures c.decay-e.ensures c.decay-g.ensures c.decay-h.ensures).releases)

pub returns : goal.returns
returns c =
    let l = c.args.self in
    let bytes = c.args.bytes.now in
    all_decayed l bytes (no_carbon l bytes (accepted_meets l bytes 48 c.requires.record_bytes_value)) c.decay-a.ensures c.decay-b.ensures c.decay-c.ensures c.decay-d.ensures c.decay-e.ensures c.decay-g.ensures c.decay-h.ensures
