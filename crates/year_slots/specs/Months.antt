-- What the functions do that add several months to their slots; no public contract says it.
use Rattle.std.specs.Prelude.{List, ℕ, zero, suc, ◌+◌, ◌*◌, ◌^◌, ◌≤◌, drop}
use Rattle.numbers.specs.Bytes.{number_at}
use Rattle.record.specs.Fields.{record_bytes}
use Rattle.year_slots.specs.Slots.{sum_limit, slot_of, slot_at, added_to}
use Rattle.year_slots.specs.declared.Slot.{Slot}

-- The month after n is added, with x0, figure and bound as its output record says.
abbrev pub month_added : (totals : List ℕ) (n : ℕ) (out : List ℕ) → List ℕ
month_added totals n out = added_to totals (n + 1) (number_at 8 out 8) (number_at 8 out 16) (number_at 8 out 24)

-- Some months more, from their output records.
unfoldable pub months_added : (k : ℕ) (totals : List ℕ) (n : ℕ) (out : List ℕ) → List ℕ
months_added zero totals n out = totals
months_added (suc k) totals n out = months_added k (month_added totals n out) (n + 1) (drop record_bytes out)

-- A sum of at most 10^19 takes a month more in 64 bits.
abbrev pub most_month : ℕ
most_month = 8 * 10 ^ 18

pub record MonthFits (s : Slot) (out : List ℕ) : Type 0 where
  pub x0 : (s.x0 ≤ sum_limit) × (number_at 8 out 8 ≤ most_month)
  pub figure : (s.figure ≤ sum_limit) × (number_at 8 out 16 ≤ most_month)
  pub bound : (s.bound ≤ sum_limit) × (number_at 8 out 24 ≤ most_month)

unfoldable pub MonthsFit : (k : ℕ) (totals : List ℕ) (n : ℕ) (out : List ℕ) → Type 0
MonthsFit zero totals n out = Unit
MonthsFit (suc k) totals n out =
    MonthFits (slot_at totals (slot_of (n + 1))) out × MonthsFit k (month_added totals n out) (n + 1) (drop record_bytes out)
