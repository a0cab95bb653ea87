-- Both are held to the limit.
use Rattle.record.specs.Ranges.{dry_in_range}
use Rattle.record.proofs.fields.is_dry_in_range.Goals as goal

pub returns : goal.returns
unfolding dry_in_range
returns c = rw (c.dry-2.ensures, c.dry.ensures)
