-- What is promised of output records and of the listing, proved.
use mathlib.Core.Path.{◌≡◌, refl, sym, ap, ◌∙◌}
use mathlib.Core.List.{List}
use Prim.Native.Nat.{ℕ, ◌*◌, ◌≤◌}
use native.Mathlib.Omega.{arith}
use lib.ListN.{length}
use Rattle.record.specs.Fields.{record_bytes}
use Rattle.ledger.specs.Step.{fresh, after}
use Rattle.ledger.specs.Take.{take_of, accepted_of, output_fields}
use Rattle.ledger.specs.declared.book.Ledger.{Ledger}
use Rattle.ledger.proofs.Accepted as step
use Rattle.ledger.proofs.Take.{taken, take_refusal}
use Rattle.run.specs.History.{records_of, run_of, whole_run}
use Rattle.run.proofs.History.{run_roomy}
use Rattle.lines.specs.Listing.{answer_text, run_text, listing_of}
use Rattle.promise_listing.specs.SaysOwn.{SaysOwn}
use Rattle.promise_listing.specs.Promise.{ListingPromise}

-- An accepted record has the period n + 1, and its kind and climate become the ledger's.
says_own : (l : Ledger) (bytes : List ℕ) (room : ℕ) → (take_of l bytes room).refusal ≡ 0 → SaysOwn bytes (take_of l bytes room)
unfolding output_fields accepted_of after answer_text
says_own l bytes room e =
    let zero = sym (take_refusal l bytes room) ∙ e in
    let period = (step.accepted_meets l bytes room zero).period in
    rw (taken l bytes room zero)
    (record { own_period = omega (arith, period); own_kind = refl; own_climate = refl; own_line = rw period })

-- Room for every output record is all the room that matters.
listing_of_run : (file : List ℕ) (room : ℕ) → record_bytes * length (records_of file) ≤ room
    → listing_of file ≡ run_text 1 (run_of fresh (records_of file) room)
unfolding listing_of whole_run
listing_of_run file room h =
    ap (run_text 1) (run_roomy fresh (records_of file) (record_bytes * length (records_of file)) room (omega arith) h)

pub listing_promise : ListingPromise
listing_promise = record { says_own = says_own; listing_of_run = λ file room enough. listing_of_run file room (omega arith) }
