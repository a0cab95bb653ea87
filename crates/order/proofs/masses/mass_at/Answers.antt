-- The four bytes of the mass lie within the record.
use Rattle.record.specs.Fields.{mass_of}
use Rattle.order.proofs.masses.mass_at.Goals as goal

pub returns : goal.returns
unfolding mass_of
returns c = c.read.ensures.0
