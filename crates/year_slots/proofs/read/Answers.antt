-- Five reads are the slot's five numbers.
use Rattle.year_slots.specs.Slots.{slot_at}
use Rattle.year_slots.proofs.read.Goals as goal

pub returns : goal.returns
unfolding slot_at
returns c = (
  rw (
    c.read-5.ensures.0,
    c.read-4.ensures.0,
    c.read-3.ensures.0,
    c.read-2.ensures.0,
    c.read.ensures.0,
  ),
  c.read-2.ensures.1,
)
