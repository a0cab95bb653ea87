-- How far a run can go in a file before it has to look at lengths again.
use Rattle.std.specs.Prelude.{cond, ℕ, ◌*◌, ◌/◌, eqb, ltb}
use Rattle.record.specs.Fields.{record_bytes}

-- The bytes of the records that are whole and have room for their output records.
unfoldable pub reach_of : (records room : ℕ) → ℕ
reach_of records room = cond (ltb records room) records room / record_bytes * record_bytes

-- What is left behind them has no whole record (1) or no room for it (2).
unfoldable pub left_over : (bytes : ℕ) → ℕ
left_over bytes = cond (eqb bytes 0) 0 (cond (ltb bytes record_bytes) 1 2)
