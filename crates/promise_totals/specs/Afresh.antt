-- Document 02, request l: the buffer 'worked out afresh from the output records of the accepted ones', and nothing else.
use Rattle.std.specs.Prelude.{cond, List, [], ◌∷◌, map, ℕ, ◌+◌, ◌*◌, eqb, length, replicate}
use Rattle.numbers.specs.Bytes.{number_at}
use Rattle.numbers.specs.Fault.{between}
use Rattle.numbers.specs.Lists.{added, joined}
use Rattle.ledger.specs.Take.{output_record}
use Rattle.run.specs.History.{Turn, accepted}
use Rattle.year_slots.specs.Slots.{slot_count, totals_bytes, slot_row}
use Rattle.year_slots.specs.declared.Slot.{Slot}

-- What an output record says, by its place: document 01, 'One step'.
module _ (o : List ℕ) where
  abbrev pub period_in : ℕ
  period_in = number_at 2 o 0

  abbrev pub x0_in : ℕ
  x0_in = number_at 8 o 8

  abbrev pub figure_in : ℕ
  figure_in = number_at 8 o 16

  abbrev pub bound_in : ℕ
  bound_in = number_at 8 o 24

-- The output records of year k + 1, which has the periods 12 × k + 1 to 12 × k + 12.
unfoldable pub of_year : (k : ℕ) → List (List ℕ) → List (List ℕ)
of_year k [] = []
of_year k (o ∷ rest) = cond (between (12 * k + 1) (period_in o) (12 * k + 12)) (o ∷ of_year k rest) (of_year k rest)

-- The slot of a year, from its output records: a year with none has number 0 too.
unfoldable pub year_slot : (k : ℕ) → List (List ℕ) → Slot
year_slot k outs =
    record {
      year = cond (eqb (length outs) 0) 0 (k + 1);
      months = length outs;
      x0 = added x0_in outs;
      figure = added figure_in outs;
      bound = added bound_in outs;
    }

-- 100 slots, one after another.
unfoldable pub afresh : List (List ℕ) → List ℕ
afresh outs = joined (λ k. slot_row (year_slot k (of_year k outs))) slot_count

-- 'a buffer of zeros'
abbrev pub zeros : List ℕ
zeros = replicate totals_bytes 0

-- 'the output records of the accepted ones'
abbrev pub outputs_of : List Turn → List (List ℕ)
outputs_of turns = map (λ turn. output_record turn.answer) (accepted turns)
