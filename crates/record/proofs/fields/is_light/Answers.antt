-- The mass at its place, held to the limit.
use Rattle.record.specs.Ranges.{light}
use Rattle.record.proofs.fields.is_light.Goals as goal

pub returns : goal.returns
unfolding light
returns c = rw c.mass.ensures
