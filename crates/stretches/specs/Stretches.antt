-- A file in stretches, for functions that have room for the output records of one stretch only; no public contract says it.
use Rattle.std.specs.Prelude.{cond, List, ℕ, ◌+◌, ◌-◌, ◌*◌, ltb, take}
use Rattle.record.specs.Fields.{record_bytes}
use Rattle.ledger.specs.declared.book.Ledger.{Ledger}
use Rattle.run.specs.History.{records_of, Run, run_of}

-- 32 records.
abbrev pub stretch_bytes : ℕ
stretch_bytes = 32 * record_bytes

-- Where the stretch ends that starts at a place of a file with so many bytes: 32 records on, or where the file ends.
unfoldable pub stretch_end : (bytes at : ℕ) → ℕ
stretch_end bytes at = cond (ltb (bytes - at) stretch_bytes) bytes (at + stretch_bytes)

-- The run of the stretch at the start of what is left of a file.
abbrev pub stretch_run : Ledger → (left : List ℕ) → Run
stretch_run l left = run_of l (records_of (take stretch_bytes left)) stretch_bytes
