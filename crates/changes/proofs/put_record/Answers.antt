-- Each word is written where the one before it ends.
use Rattle.line.proofs.Writing.{write_on}
use Rattle.changes.specs.Report.{record_text}
use Rattle.changes.proofs.put_record.Goals as goal

pub returns-clause-writes : goal.returns-clause-writes
unfolding record_text
returns-clause-writes c =
    let place = write_on c.put-place_at.ensures c.put_number-colon_at.ensures.writes in
    let places = write_on (write_on place c.put-places_at.ensures) c.put_places-end_at.ensures.writes in
    write_on places c.put.ensures
