-- Room for one output record is all that one record needs.
use mathlib.Core.Path.{◌≡◌, ◌∙◌}
use mathlib.Core.List.{List}
use Prim.Native.Nat.{ℕ, ◌<◌, min}
use native.Mathlib.Decide.{dec_le}
use native.Mathlib.Omega.{arith}
use lib.ListN.{length, take, length-take}
use Rattle.record.specs.Fields.{record_bytes}
use Rattle.ledger.specs.Refusal.{refusal_of}
use Rattle.ledger.specs.declared.book.Ledger.{Ledger}
use Rattle.ledger.proofs.Accepted.{room_alike}
use Rattle.run.specs.History.{records_of, run_of}
use Rattle.run.proofs.History.{begun_refusal}

pub least_room : (l : Ledger) (bytes : List ℕ) (room : ℕ) → refusal_of l bytes (min record_bytes room) ≡ refusal_of l bytes room
least_room l bytes room =
    elim (dec_le record_bytes room) [
      | yes enough ↦ let all : min record_bytes room ≡ record_bytes = omega arith in rw all (room_alike l bytes record_bytes room (omega arith) enough)
      | no short ↦ let less : min record_bytes room ≡ room = omega arith in rw less
    ]

-- So the run of a first record alone has its refusal.
pub first_alone : (l : Ledger) (file : List ℕ) (room : ℕ) {part : List ℕ} {k : ℕ} → part ≡ take record_bytes file → k ≡ min record_bytes room → 0 < length file
    → (run_of l (records_of part) k).refusal ≡ refusal_of l (take record_bytes file) room
first_alone l file room first lent some =
    let long = length-take record_bytes file in
    rw (first, lent) (begun_refusal l (take record_bytes file) (min record_bytes room) (omega (arith, long)) (omega (arith, long)) ∙ least_room l (take record_bytes file) room)
