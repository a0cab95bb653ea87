-- Document 01, 'One step', the output record, and 'Worked figures', the listing's line: what both say first.
use Rattle.std.specs.Prelude.{◌≡◌, List, ℕ}
use Rattle.record.specs.Fields.{period_of, kind_of, climate_of}
use Rattle.ledger.specs.Take.{total_stock, output_fields}
use Rattle.ledger.specs.Answer.{Answer}
use Rattle.line.specs.Line.{accepted_text}
use Rattle.lines.specs.Listing.{answer_text}

-- What an accepted record's output record and line say first is the record's own.
pub record SaysOwn (bytes : List ℕ) (a : Answer) : Type 0 where
  pub own_period : (output_fields a).period ≡ period_of bytes
  pub own_kind : (output_fields a).kind ≡ kind_of bytes
  pub own_climate : (output_fields a).climate ≡ climate_of bytes
  pub own_line : answer_text a ≡ accepted_text (period_of bytes) a.x0 a.figure a.bound (total_stock a.ledger)
