-- Four writes, one after the other.
use mathlib.Core.Path.{◌∙◌}
use Rattle.output.proofs.write_head.Goals as goal

pub returns : goal.returns
returns c = c.write-2.ensures ∙ rw c.write.ensures
