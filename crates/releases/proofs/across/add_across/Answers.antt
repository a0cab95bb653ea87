-- Before record i the first i figures are there: `MidFigures`. Each record, and the end of the file, is a law of it.
use mathlib.Core.Path.{refl, ap, ◌∙◌}
use mathlib.Core.List.{[], ◌∷◌}
use Prim.Native.Nat.{◌*◌, ◌<◌}
use native.Mathlib.Omega.{arith}
use lib.ListN.{length}
use Rattle.std.specs.Iterator.Adapters.{enumerate_count}
use Rattle.record.specs.Fields.{record_bytes, factors_of}
use Rattle.releases.proofs.Midway.{chunk_is, chunk_within, chunks_on, chunks_end}
use Rattle.releases.proofs.MidFigures.{figures_start, all_hold_at, in_range_lem, figures_on, figures_end}
use Rattle.releases.proofs.across.add_across.Goals as goal

pub loop-i-init : goal.loop-i-init
loop-i-init c =
    let bytes = c.chunks_exact.ensures in
    rw (c.into_iter-i-iterator.ensures.into_iter_gives, c.enumerate-i-items.ensures.source, c.enumerate-i-items.ensures.count)
    ((bytes.size, bytes.rest, omega arith), figures_start c.args.file.now c.args.figures.now _ c.requires.file_value.0)

pub across-x0-requires : goal.across-x0-requires
across-x0-requires c =
    let file = c.args.file.now in
    let loop = c.loop-i in
    let i = enumerate_count loop.i-iterator in
    let steps = c.in-Some.ensures.steps in
    let within = chunk_within file i _ _ loop.invariant.0 steps.0.1.0 steps.0.1.1 in
    all_hold_at file c.args.n c.requires.file_value.0 c.requires.file_value.1 c.in-Some.i (omega (arith, within, steps.1, c.requires.file_value.1))
    (c.args.wood.now ∷ c.args.paper.now ∷ c.args.food.now ∷ c.args.textiles.now ∷ c.args.garden.now ∷ c.args.inert.now ∷ c.args.domestic.now ∷ c.args.industrial.now ∷ []) refl c.requires.each

pub figure-requires : goal.figure-requires
figure-requires c =
    let file = c.args.file.now in
    let loop = c.loop-i in
    let i = enumerate_count loop.i-iterator in
    let steps = c.in-Some.ensures.steps in
    let more : record_bytes * i < length file = omega (arith, chunk_within file i _ _ loop.invariant.0 steps.0.1.0 steps.0.1.1) in
    rw (c.of.ensures ∙ ap factors_of (chunk_is file i _ _ loop.invariant.0 steps.0.1.0 steps.0.1.1)) (in_range_lem loop.invariant.1 more)

pub loop-i-preserved : goal.loop-i-preserved
loop-i-preserved c =
    let file = c.args.file.now in
    let loop = c.loop-i in
    let i = enumerate_count loop.i-iterator in
    let steps = c.in-Some.ensures.steps in
    let within = chunk_within file i _ _ loop.invariant.0 steps.0.1.0 steps.0.1.1 in
    let more : record_bytes * i < length file = omega (arith, within) in
    let factors = c.of.ensures ∙ ap factors_of (chunk_is file i _ _ loop.invariant.0 steps.0.1.0 steps.0.1.1) in
    rw (steps.2, steps.1) (
      chunks_on file i _ _ loop.invariant.0 steps.0.1.0 steps.0.1.1 steps.0.0,
      figures_on loop.invariant.1 more (omega (arith, within, c.requires.file_value.1, c.requires.n_in_bounds))
          (c.figure.ensures ∙ rw (factors, c.across-x0.ensures, steps.1)),
    )

pub returns : goal.returns
returns c =
    let all = chunks_end c.args.file.now c.args.n _ c.loop-i.invariant.0 c.requires.file_value.1 c.in-None.ensures.steps.0.1.0 in
    rw all at (figures_end c.loop-i.invariant.1 (rw all c.requires.file_value.1))
