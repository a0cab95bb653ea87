-- Before record i the first i figures are there: `MidFigures`. Each record, and the end of the file, is a law of it.
use mathlib.Core.List.{[], ◌∷◌}
use Rattle.std.specs.Iterator.Adapters.{enumerate_source, enumerate_count}
use Rattle.std.specs.Slice.Iter.{chunks_exact_rest, chunks_exact_size}
use Rattle.releases.proofs.Midway.{Chunks}
use Rattle.releases.proofs.MidFigures.{MidFigures}
use Rattle.releases.proofs.across.add_across.Given as goal

abbrev pub invariant-loop-i : goal.invariant-loop-i
invariant-loop-i l =
    let i = enumerate_count l.i-iterator in
    let chunks = enumerate_source l.i-iterator in
    Chunks l.file i (chunks_exact_size chunks) (chunks_exact_rest chunks) × MidFigures l.file l.initial.figures (l.wood ∷ l.paper ∷ l.food ∷ l.textiles ∷ l.garden ∷ l.inert ∷ l.domestic ∷ l.industrial ∷ []) l.figures i
