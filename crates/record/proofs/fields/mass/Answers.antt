-- Four bytes at the place of the type.
use Rattle.record.specs.Fields.{mass_of}
use Rattle.record.proofs.fields.mass.Goals as goal

pub returns : goal.returns
unfolding mass_of
returns c = c.four.ensures
