-- The float 0 is that of the whole number 0, which each of a refused point is.
use mathlib.Core.Path.{◌≡◌, refl, ap, ◌∙◌}
use lib.Ieee.{binary64, of_bits, of_int}
use Rattle.door.specs.Point.{Charted, float_of}
use Rattle.landfill.proofs.landfill_point.Goals as goal

zero_is : of_bits binary64 0 ≡ float_of 0
unfolding of_bits of_int
zero_is = refl

pub returns-in-Err-clause-at_after : goal.returns-in-Err-clause-at_after
returns-in-Err-clause-at_after c = zero_is ∙ ap (λ (n : Charted). n.point.figure) c.in-Err.ensures

pub returns-in-Err-clause-low_after : goal.returns-in-Err-clause-low_after
returns-in-Err-clause-low_after c = zero_is ∙ ap (λ (n : Charted). n.point.low) c.in-Err.ensures

pub returns-in-Err-clause-high_after : goal.returns-in-Err-clause-high_after
returns-in-Err-clause-high_after c = zero_is ∙ ap (λ (n : Charted). n.point.high) c.in-Err.ensures
