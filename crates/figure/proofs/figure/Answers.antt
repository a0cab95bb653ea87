-- The three lines of the chain; factors within their ranges are all that they ask.
use Rattle.std.proofs.Common.{◌∙◌}
use Rattle.waste.proofs.Laws.{correction_most}
use Rattle.record.proofs.Laws.{ranged}
use Rattle.figure.specs.Figure.{figure_of, x1_of, x2_of, grams_of}
use Rattle.figure.proofs.figure.Goals as goal

pub kept-x1-requires : goal.kept-x1-requires
kept-x1-requires c = let r = ranged c.args.factors c.requires in (r.factor, r.captured)

pub methane-x2-requires : goal.methane-x2-requires
methane-x2-requires c =
    let r = ranged c.args.factors c.requires in
    rw c.correction-correction.ensures (r.oxidation, r.methane, r.docf, correction_most _)

pub returns : goal.returns
unfolding figure_of x1_of x2_of grams_of
returns c = c.grams.ensures.0 ∙ rw (c.methane-x2.ensures, c.correction-correction.ensures, c.kept-x1.ensures)
