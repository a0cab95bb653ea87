-- Where a loop over an accepted file is before a record: the ledger that the records before leave accepts the rest.
use mathlib.Core.Path.{◌≡◌, sym, ap, ◌∙◌}
use mathlib.Core.List.{List, ◌∷◌, ◌++◌}
use Prim.Native.Nat.{ℕ, ◌+◌, ◌-◌, ◌*◌, ◌≤◌, ◌<◌}
use native.Mathlib.Omega.{arith}
use lib.ListN.{length, take, drop, length-append, length-drop}
use lib.Seq.{take_at, drop-drop}
use Rattle.std.proofs.Math.Seq.{drop-append_seam}
use Rattle.record.specs.Fields.{record_bytes}
use Rattle.ledger.specs.Step.{fresh}
use Rattle.ledger.specs.Refusal.{refusal_of}
use Rattle.ledger.specs.Take.{accepted_of}
use Rattle.ledger.specs.declared.book.Ledger.{Ledger}
use Rattle.run.specs.History.{records_of, run_of, whole_run}
use Rattle.run.proofs.History.{first_record_lem, run_takes}

pub record Midway (file : List ℕ) (i : ℕ) : Type 0 where
  pub ledger : Ledger
  pub room : ℕ
  pub accepted : (run_of ledger (records_of (drop (record_bytes * i) file)) room).refusal ≡ 0

unfoldable pub midway_starts : (file : List ℕ) → (whole_run file).refusal ≡ 0 → Midway file 0
unfolding whole_run
midway_starts file none = record { ledger = fresh; room = record_bytes * length (records_of file); accepted = none }

module _ {file : List ℕ} {i : ℕ} (h : Midway file i) (more : record_bytes * i < length file) where
  abbrev pub next_record : List ℕ
  next_record = take record_bytes (drop (record_bytes * i) file)

  abbrev pub rest_records : List (List ℕ)
  rest_records = records_of (drop (record_bytes * (i + 1)) file)

  pub records_are : records_of (drop (record_bytes * i) file) ≡ next_record ∷ rest_records
  records_are =
      let on : record_bytes * i + record_bytes ≡ record_bytes * (i + 1) = omega arith in
      first_record_lem (drop (record_bytes * i) file) (simp length-drop (omega arith))
      ∙ rw (drop-drop record_bytes (record_bytes * i) file, on)

  pub next_and_rest : (refusal_of h.ledger next_record h.room ≡ 0) × ((run_of (accepted_of h.ledger next_record).ledger rest_records (h.room - record_bytes)).refusal ≡ 0)
  next_and_rest = run_takes h.ledger next_record rest_records h.room (rw records_are at h.accepted)

  pub next_taken : refusal_of h.ledger next_record h.room ≡ 0
  next_taken = next_and_rest.0

  unfoldable pub midway_on : Midway file (i + 1)
  midway_on = record { ledger = (accepted_of h.ledger next_record).ledger; room = h.room - record_bytes; accepted = next_and_rest.1 }

-- Where the chunks of a file are before record i: of those left, each has as many bytes as a record.
abbrev pub Chunks : (file : List ℕ) (i size : ℕ) (left : List ℕ) → Type 0
Chunks file i size left = (size ≡ record_bytes) × (left ≡ drop (record_bytes * i) file) × (record_bytes * i ≤ length file)

-- A chunk is the next record, and the rest comes after it.
module _ (file : List ℕ) (i : ℕ) (bytes rest : List ℕ) {size : ℕ} {left : List ℕ} (here : Chunks file i size left) (is : left ≡ bytes ++ rest) (long : length bytes ≡ size) where
  parts : drop (record_bytes * i) file ≡ bytes ++ rest
  parts = sym here.1 ∙ is

  pub chunk_is : bytes ≡ take record_bytes (drop (record_bytes * i) file)
  chunk_is = sym (ap (take record_bytes) parts ∙ take_at bytes rest record_bytes (long ∙ here.0))

  pub chunk_within : record_bytes * (i + 1) ≤ length file
  chunk_within = omega (arith, length-drop (record_bytes * i) file, ap length parts, length-append bytes rest, long, here.0)

  pub chunks_on : {size' : ℕ} → size' ≡ size → Chunks file (i + 1) size' rest
  chunks_on same =
      let more : record_bytes * i + length bytes ≡ record_bytes * (i + 1) = omega (arith, long, here.0) in (
        same ∙ here.0,
        sym (drop-append_seam bytes rest) ∙ ap (drop (length bytes)) (sym parts) ∙ drop-drop (length bytes) (record_bytes * i) file
            ∙ ap (λ (k : ℕ). drop k file) more,
        chunk_within,
      )

-- Where no chunk is left, the file of n records is at its end.
pub chunks_end : (file : List ℕ) (n i : ℕ) {size : ℕ} {left : List ℕ} → Chunks file i size left → record_bytes * n ≡ length file → length left < size → i ≡ n
chunks_end file n i here whole few = omega (arith, here.0, here.2, ap length here.1, length-drop (record_bytes * i) file, whole, few)
