-- Three grams, and B in grams.
use Rattle.std.proofs.Common.{ℕ, ◌+◌, ap}
use Rattle.figure.specs.Figure.{bound_of, grams_of}
use Rattle.figure.proofs.bound.Goals as goal

pub returns : goal.returns
unfolding bound_of grams_of
returns c = ap (λ (m : ℕ). 3 + m) c.grams.ensures.0
