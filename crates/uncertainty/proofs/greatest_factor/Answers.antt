-- The loop goes down from 100 and passes over what is not allowed, so what it stops at is the greatest that is.
use mathlib.Core.Path.{◌≡◌, refl, sym, ◌∙◌}
use native.Mathlib.Omega.{arith}
use Rattle.uncertainty.specs.Uncertainty.{allows, factor_for}
use Rattle.uncertainty.proofs.Laws.{found, passed_over}
use Rattle.uncertainty.proofs.greatest_factor.Goals as goal

pub loop-factor-init : goal.loop-factor-init
unfolding factor_for
loop-factor-init c = refl

pub loop-factor-preserved : goal.loop-factor-preserved
loop-factor-preserved c = c.loop-factor.invariant ∙ passed_over (allows c.args.squares) c.loop-factor.factor (omega arith) (sym c.if-is_allowed.ensures)

pub returns-then-is_allowed : goal.returns-then-is_allowed
returns-then-is_allowed c = sym (c.loop-factor.invariant ∙ found (allows c.args.squares) c.loop-factor.factor (sym c.if-is_allowed.ensures))

pub returns : goal.returns
returns c = let none : c.loop-factor.factor ≡ 0 = omega arith in sym (rw none at c.loop-factor.invariant)
