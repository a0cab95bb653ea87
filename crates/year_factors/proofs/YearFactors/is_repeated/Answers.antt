-- The three tests.
use mathlib.Core.Bool.{and-true, and-false}
use borrow.Author.Tests.{eq-eqb, ne_eqb}
use Rattle.year_factors.proofs.YearFactors.is_repeated.Goals as goal

pub returns-then-factor-self : goal.returns-then-factor-self
returns-then-factor-self c = simp (ne_eqb _ _ (rw c.factor.ensures at c.if-factor-self.true))

pub returns-then-class-self : goal.returns-then-class-self
returns-then-class-self c = simp (
  eq-eqb _ _ (rw c.factor.ensures at c.if-factor-self.false),
  ne_eqb _ _ (rw c.class.ensures at c.if-class-self.true),
  and-false,
)

pub returns : goal.returns
returns c = simp (
  eq-eqb _ _ (rw c.factor.ensures at c.if-factor-self.false),
  eq-eqb _ _ (rw c.class.ensures at c.if-class-self.false),
  c.captured.ensures,
  and-true,
)
