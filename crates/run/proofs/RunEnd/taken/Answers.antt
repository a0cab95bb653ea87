-- Both cases of the refusal.
use mathlib.Core.Path.{refl}
use Rattle.refusal.proofs.Numbers.{number_not_zero}
use Rattle.run.specs.Outcome.{one_answer}
use Rattle.run.proofs.RunEnd.taken.Goals as goal

pub returns-in-Some : goal.returns-in-Some
unfolding one_answer
returns-in-Some c = rw (c.in-Some.is, number_not_zero c.in-Some.why) refl

pub returns : goal.returns
unfolding one_answer
returns c = rw (c.in_default.is, c.less.ensures, c.read.ensures.0, c.read-2.ensures.0, c.read-3.ensures.0) refl
