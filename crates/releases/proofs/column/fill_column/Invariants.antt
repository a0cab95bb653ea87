-- Before record i the first i releases are there, and `stock` is what the records before it leave: `MidColumn`. Each record, and the end of the
-- file, is a law of it.
use Rattle.std.specs.Iterator.Adapters.{enumerate_source, enumerate_count}
use Rattle.std.specs.Slice.Iter.{chunks_exact_rest, chunks_exact_size}
use Rattle.releases.proofs.Midway.{Chunks}
use Rattle.releases.proofs.MidColumn.{MidColumn}
use Rattle.releases.proofs.column.fill_column.Given as goal

abbrev pub invariant-loop-i : goal.invariant-loop-i
invariant-loop-i g l =
    let i = enumerate_count l.i-iterator in
    let chunks = enumerate_source l.i-iterator in
    Chunks l.file i (chunks_exact_size chunks) (chunks_exact_rest chunks) × MidColumn l.file l.initial.column g.row.T l.entry l.column l.stock i
