-- 200 bytes say their ledger; anything else counts as an unsound one.
use borrow.Author.Tests.{eq-eqb, ne_eqb}
use Rattle.ledger.specs.Step.{fresh}
use Rattle.image.specs.Image.{said_by, no_ledger, ledger_of}
use Rattle.image.proofs.read.Goals as goal

pub returns-then-bytes-ne-BYTES : goal.returns-then-bytes-ne-BYTES
unfolding ledger_of no_ledger fresh
returns-then-bytes-ne-BYTES c = simp (ne_eqb _ _ c.if-bytes-ne-BYTES.true, c.fresh-none.ensures)

pub returns : goal.returns
unfolding ledger_of said_by
returns c = simp (eq-eqb _ _ c.if-bytes-ne-BYTES.false, c.read.ensures.0, c.read-2.ensures.0, c.read_eight.ensures, c.read_eight-2.ensures, c.read_eight-3.ensures)
