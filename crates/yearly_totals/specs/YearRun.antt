-- A file year by year, for functions that run the records of a year as a plain file; no public contract says it.
use Rattle.std.specs.Prelude.{Bool, true, cond, ◌&&◌, ◌||◌, List, ℕ, ◌+◌, ◌-◌, ◌*◌, ◌/◌, ◌%◌, ◌^◌, eqb, leb, ltb, take}
use Rattle.waste.specs.Kind.{is_yearly}
use Rattle.record.specs.Fields.{record_bytes, kind_of}
use Rattle.carbon.specs.Carbon.{most_records}
use Rattle.ledger.specs.declared.book.Ledger.{Ledger}
use Rattle.run.specs.History.{records_of, Run}
use Rattle.year_slots.specs.Slots.{slot_at, differs}
use Rattle.year_slots.specs.declared.Slot.{Slot}
use Rattle.yearly_totals.specs.Months.{month_run_of}

-- The refusal of a record, from that of the plain step, with a buffer of 3200 bytes: the tests before 6 have numbers up to 5.
unfoldable pub as_monthly : (refusal : ℕ) → (is_yearly differs : Bool) → ℕ
as_monthly refusal is_yearly differs =
    cond (is_yearly && (eqb refusal 0 || ltb 5 refusal)) 27 (cond (eqb refusal 0 && differs) 32 refusal)

-- Whether the slot of the month after n refuses it; a ledger that is full has no such slot.
unfoldable pub slot_refuses : (totals : List ℕ) (n : ℕ) → Bool
slot_refuses totals n = cond (ltb n most_records) (differs totals (n + 1)) true

-- With sums up to 7 × 10^18 no month of the year brings a sum above 10^19.
abbrev pub small_sum : ℕ
small_sum = 7 * 10 ^ 18

unfoldable pub are_small : Slot → Bool
are_small s = leb s.x0 small_sum && leb s.figure small_sum && leb s.bound small_sum

-- So many records are run at once after n: the rest of the year, or one.
unfoldable pub at_once : (totals : List ℕ) (n : ℕ) → ℕ
at_once totals n = cond (are_small (slot_at totals (n / 12))) (12 - n % 12) 1

unfoldable pub records_at_once : Ledger → (totals left : List ℕ) → ℕ
records_at_once l totals left = cond (slot_refuses totals l.n || is_yearly (kind_of left)) 1 (at_once totals l.n)

-- The run of these records of what is left of a file.
abbrev pub year_run : Ledger → (totals left : List ℕ) → (room : ℕ) → Run
year_run l totals left room = month_run_of l totals (records_of (take (record_bytes * records_at_once l totals left) left)) room
