-- Before place t the places passed are written where their bits are set, two bytes each.
use Rattle.std.proofs.Common.{◌+◌, ◌≤◌, ◌*◌}
use Rattle.numbers.specs.Lists.{joined}
use Rattle.line.specs.Writing.{Writes}
use Rattle.changes.specs.Report.{place_text}
use Rattle.changes.proofs.put_places.Given as goal

abbrev pub invariant-loop-t : goal.invariant-loop-t
invariant-loop-t l = (l.end ≤ l.at + 2 * l.t) × Writes l.initial.line l.at (joined (place_text l.bits) l.t) l.line l.end
