-- The image of a fresh ledger is all zero; a buffer of another length keeps its bytes.
use mathlib.Core.Path.{◌∙◌, sym}
use borrow.Author.Tests.{ne_eqb}
use Rattle.ledger.specs.Step.{fresh}
use Rattle.image.specs.Image.{fresh_left}
use Rattle.image.proofs.Laws.{image_fills}
use Rattle.image.proofs.Kept.{fresh_keeps}
use Rattle.landfill.proofs.landfill_fresh.Goals as goal

pub returns-then-ledger-ne-BYTES-clause-ledger_after : goal.returns-then-ledger-ne-BYTES-clause-ledger_after
unfolding fresh_left
returns-then-ledger-ne-BYTES-clause-ledger_after c = simp (ne_eqb _ _ c.if-ledger-ne-BYTES.true)

pub returns-clause-ledger_after : goal.returns-clause-ledger_after
returns-clause-ledger_after c =
    let image = c.args.ledger.now in
    let size = c.if-ledger-ne-BYTES.false in
    c.write.ensures ∙ rw c.fresh.ensures (image_fills fresh image size ∙ sym (fresh_keeps image size))
