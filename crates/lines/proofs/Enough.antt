-- What the program `listing` relies on: a ledger takes 1200 records, so record 1201 is refused at the latest.
use mathlib.Core.Path.{◌≡◌, ap, ◌∙◌}
use mathlib.Core.List.{List, ◌++◌}
use Prim.Native.Nat.{ℕ, ◌+◌, ◌*◌, ◌≤◌, ◌<◌}
use native.Mathlib.Decide.{dec_le}
use native.Mathlib.Omega.{arith}
use borrow.Author.Tests.{le-leb, lt-leb}
use lib.ListN.{length, length-append}
use Rattle.record.specs.Fields.{record_bytes}
use Rattle.carbon.specs.Carbon.{most_records}
use Rattle.ledger.specs.Step.{fresh}
use Rattle.run.specs.History.{records_of, run_of, whole_run}
use Rattle.run.proofs.History.{records_join, run_refused, run_roomy, run_counts}
use Rattle.line.specs.Line.{line_bytes}
use Rattle.lines.specs.Listing.{run_text, listing_of, most_lines, room_for}

-- More records than a ledger takes are not all accepted.
not_all : (xs : List (List ℕ)) (room : ℕ) → most_records < length xs → (run_of fresh xs room).refusal ≡ 0 → ⊥
unfolding fresh
not_all xs room many none =
    let c = run_counts fresh xs room (omega arith) in
    omega (arith, c.all none, c.n, c.few)

-- So no byte past the first 57,648 changes the listing.
pub no_byte_more : (file rest : List ℕ) → length file ≡ record_bytes * (most_records + 1) → listing_of (file ++ rest) ≡ listing_of file
unfolding listing_of whole_run
no_byte_more file rest e =
    let joined = records_join (most_records + 1) file rest e in
    let xs = records_of file in
    let all = record_bytes * length (records_of (file ++ rest)) in
    let more : record_bytes * length xs ≤ all = omega (arith, ap length joined.0, length-append xs (records_of rest)) in
    ap (run_text 1)
    (ap (λ (rs : List (List ℕ)). run_of fresh rs all) joined.0
    ∙ run_refused fresh xs (records_of rest) all (not_all xs all (omega (arith, joined.1)))
    ∙ run_roomy fresh xs all (record_bytes * length xs) more (omega arith))

-- And 108,090 bytes of text have room for the lines of any file.
pub enough_room : (file : List ℕ) → room_for file ≤ line_bytes * (most_records + 1)
unfolding room_for most_lines
enough_room file = by_size (dec_le (length (records_of file)) (most_records + 1))
  where
    by_size : Dec (length (records_of file) ≤ most_records + 1) → room_for file ≤ line_bytes * (most_records + 1)
    by_size (yes few) = simp (le-leb (length (records_of file)) (most_records + 1) few) (omega arith)
    by_size (no many) = simp (lt-leb (length (records_of file)) (most_records + 1) (omega arith)) (omega arith)
