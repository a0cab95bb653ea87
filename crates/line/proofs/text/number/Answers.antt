-- The byte after a number is written where the number ends.
use Rattle.line.proofs.Writing.{write_byte}
use Rattle.line.proofs.text.number.Goals as goal

pub returns-clause-writes : goal.returns-clause-writes
returns-clause-writes c = write_byte c.put_number-end.ensures.writes c.args.follows
