-- Document 01, of the output records and of the listing. proofs/Proved.antt proves `ListingPromise`.
use Rattle.std.specs.Prelude.{◌≡◌, List, ℕ, ◌*◌, ◌≤◌, length}
use Rattle.record.specs.Fields.{record_bytes}
use Rattle.ledger.specs.Step.{fresh}
use Rattle.ledger.specs.Take.{take_of}
use Rattle.ledger.specs.declared.book.Ledger.{Ledger}
use Rattle.run.specs.History.{records_of, run_of}
use Rattle.lines.specs.Listing.{run_text, listing_of}
use Rattle.promise_listing.specs.SaysOwn.{SaysOwn}

pub record ListingPromise : Type 0 where
  -- 'The output record [..]: bytes 0-1 period, 2 kind, 3 climate', and the line 'for each accepted one: period, x0, ..'
  pub says_own : (l : Ledger) (bytes : List ℕ) (room : ℕ) → (take_of l bytes room).refusal ≡ 0 → SaysOwn bytes (take_of l bytes room)
  -- 'The listing program [..] prints for each accepted one [..]. At a refusal it prints [..] the record's place, and stops': the
  -- listing of a file is that of its run, whatever room for output records the run has, if it is enough for all.
  pub listing_of_run : (file : List ℕ) (room : ℕ) → record_bytes * length (records_of file) ≤ room
      → listing_of file ≡ run_text 1 (run_of fresh (records_of file) room)
