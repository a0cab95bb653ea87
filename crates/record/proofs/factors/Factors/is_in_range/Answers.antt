-- The six tests, one after the other.
use mathlib.Core.Bool.{and-true, and_assoc}
use Rattle.record.specs.Ranges.{in_range}
use Rattle.record.proofs.factors.Factors.is_in_range.Goals as goal

pub returns : goal.returns
unfolding in_range
returns c = simp (c.is_share.ensures, c.is_between.ensures, c.is_factor.ensures, and_assoc, and-true)
