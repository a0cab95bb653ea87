-- Before record i the first i releases are there, and `stock` is what the records before it leave: `MidColumn`. Each record, and the end of the
-- file, is a law of it.
use mathlib.Core.Path.{ap, ◌∙◌}
use mathlib.Core.List.{List}
use Prim.Native.Nat.{ℕ, ◌*◌, ◌<◌}
use native.Mathlib.Omega.{arith}
use lib.ListN.{length}
use Rattle.std.specs.Iterator.Adapters.{enumerate_count}
use Rattle.record.specs.Fields.{record_bytes, kind_of, climate_of, deposit_of}
use Rattle.carbon.proofs.Laws.{entry_small}
use Rattle.by_type.specs.Alone.{left_alone}
use Rattle.releases.proofs.Midway.{chunk_is, chunk_within, chunks_on, chunks_end}
use Rattle.releases.proofs.MidColumn.{column_starts, held_small, entry_is, column_on, column_ends}
use Rattle.releases.proofs.column.fill_column.Goals as goal

pub loop-i-init : goal.loop-i-init
loop-i-init g c =
    let bytes = c.chunks_exact.ensures in
    rw (c.into_iter-i-iterator.ensures.into_iter_gives, c.enumerate-i-items.ensures.source, c.enumerate-i-items.ensures.count) (
      (bytes.size, bytes.rest, omega arith),
      column_starts c.args.file.now c.args.column.now g.row.T _ c.requires.places.0 c.requires.file_value.0 c.requires.entry_value,
    )

pub overflow_add-held : goal.overflow_add-held
overflow_add-held g c =
    let file = c.args.file.now in
    let loop = c.loop-i in
    let i = enumerate_count loop.i-iterator in
    let steps = c.in-Some.ensures.steps in
    let more : record_bytes * i < length file = omega (arith, chunk_within file i _ _ loop.invariant.0 steps.0.1.0 steps.0.1.1) in
    let deposit = c.deposit.ensures ∙ ap (λ (bytes : List ℕ). deposit_of bytes g.row.T) (chunk_is file i _ _ loop.invariant.0 steps.0.1.0 steps.0.1.1) in
    omega (arith, deposit, held_small c.requires.places.0 loop.invariant.1 more)

pub left-left-requires : goal.left-left-requires
left-left-requires g c =
    rw c.requires.entry_value (entry_small (kind_of c.args.file.now) (climate_of c.args.file.now) g.row.T)

pub loop-i-preserved : goal.loop-i-preserved
unfolding left_alone
loop-i-preserved g c =
    let file = c.args.file.now in
    let loop = c.loop-i in
    let i = enumerate_count loop.i-iterator in
    let steps = c.in-Some.ensures.steps in
    let within = chunk_within file i _ _ loop.invariant.0 steps.0.1.0 steps.0.1.1 in
    let more : record_bytes * i < length file = omega (arith, within) in
    let deposit = c.deposit.ensures ∙ ap (λ (bytes : List ℕ). deposit_of bytes g.row.T) (chunk_is file i _ _ loop.invariant.0 steps.0.1.0 steps.0.1.1) in
    rw (steps.2, steps.1) (
      chunks_on file i _ _ loop.invariant.0 steps.0.1.0 steps.0.1.1 steps.0.0,
      column_on c.requires.places.0 loop.invariant.1 more (omega (arith, within, c.requires.file_value.1, c.requires.places.1))
          (c.left-left.ensures.0 ∙ rw (deposit, ← entry_is c.requires.places.0 loop.invariant.1 more))
          (rw deposit),
    )

pub returns-clause-value : goal.returns-clause-value
returns-clause-value g c =
    let all = chunks_end c.args.file.now c.args.n _ c.loop-i.invariant.0 c.requires.file_value.1 c.in-None.ensures.steps.0.1.0 in
    (column_ends c.loop-i.invariant.1 (rw all c.requires.file_value.1)).0

pub returns-clause-column_after : goal.returns-clause-column_after
returns-clause-column_after g c =
    let all = chunks_end c.args.file.now c.args.n _ c.loop-i.invariant.0 c.requires.file_value.1 c.in-None.ensures.steps.0.1.0 in
    rw all at (column_ends c.loop-i.invariant.1 (rw all c.requires.file_value.1)).1
