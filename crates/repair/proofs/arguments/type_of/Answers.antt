-- The byte is a digit from 1 to 8, or before or after these.
use Rattle.std.proofs.Common.{arith, le-leb}
use Rattle.std.proofs.lemmas.Bool.{lt-leb}
use Rattle.repair.specs.Digits.{type_named}
use Rattle.repair.proofs.arguments.type_of.Goals as goal

pub returns-in-49-to-56 : goal.returns-in-49-to-56
unfolding type_named
returns-in-49-to-56 c = simp (le-leb 49 c.args.digit (omega arith), le-leb c.args.digit 56 (omega arith))

pub returns-in_default : goal.returns-in_default
unfolding type_named
returns-in_default c = simp (lt-leb 49 c.args.digit (omega arith))

pub returns-in_default-2 : goal.returns-in_default-2
unfolding type_named
returns-in_default-2 c = simp (le-leb 49 c.args.digit (omega arith), lt-leb c.args.digit 56 (omega arith))
