-- The one test.
use borrow.Author.Tests.{lt-ltb, le-ltb}
use Rattle.stretches.specs.Stretches.{stretch_end}
use Rattle.stretches.proofs.stretch_end.Goals as goal

pub returns-then-file-at-lt-STRETCH : goal.returns-then-file-at-lt-STRETCH
unfolding stretch_end
returns-then-file-at-lt-STRETCH c = simp (lt-ltb _ _ c.if-file-at-lt-STRETCH.true)

pub returns : goal.returns
unfolding stretch_end
returns c = simp (le-ltb _ _ c.if-file-at-lt-STRETCH.false)
