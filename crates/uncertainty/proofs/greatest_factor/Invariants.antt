-- The loop goes down from 100 and passes over what is not allowed, so what it stops at is the greatest that is.
use mathlib.Core.Path.{◌≡◌}
use Rattle.uncertainty.specs.Uncertainty.{allows, greatest, factor_for}
use Rattle.uncertainty.proofs.greatest_factor.Given as goal

abbrev pub invariant-loop-factor : goal.invariant-loop-factor
invariant-loop-factor l = factor_for l.squares ≡ greatest (allows l.squares) l.factor
