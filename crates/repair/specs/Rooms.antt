-- How long a file the program takes.
use Rattle.std.specs.Prelude.{ℕ, ◌*◌}
use Rattle.record.specs.Fields.{record_bytes}

-- The most records of a file, and their bytes.
abbrev pub records_taken : ℕ
records_taken = 12000

abbrev pub file_bytes : ℕ
file_bytes = record_bytes * records_taken
