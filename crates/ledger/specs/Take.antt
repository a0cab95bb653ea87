-- Document 01, 'One step' and 'Refusal numbers': what one record makes of a ledger and of the output.
use Rattle.std.specs.Prelude.{cond, List, ◌++◌, ℕ, eqb, length, drop}
use Rattle.numbers.specs.Eight.{eight, sum_of}
use Rattle.record.specs.Fields.{record_bytes, factors_of}
use Rattle.figure.specs.Figure.{figure_of, b_of, bound_of}
use Rattle.output.specs.Output.{output_of}
use Rattle.output.specs.declared.Output.{Output}
use Rattle.ledger.specs.Step.{brought_at, stock_at, released_at, release, x0_of, work_of, after}
use Rattle.ledger.specs.Refusal.{refusal_of, sound}
use Rattle.ledger.specs.declared.book.Ledger.{Ledger}
use Rattle.ledger.specs.Answer.{Answer, Totals}
use Rattle.ledger.specs.declared.answer.Entered.{Entered}

-- Accepted: the ledger after the record, the eight releases, x0, figure and bound, with n and T as they stand after the record.
unfoldable pub accepted_of : Ledger → List ℕ → Answer
accepted_of l bytes =
    record {
      ledger = after l bytes;
      refusal = 0;
      releases = eight (release l bytes);
      x0 = x0_of l bytes;
      figure = figure_of (factors_of bytes) (x0_of l bytes);
      bound = bound_of (factors_of bytes) (b_of (after l bytes).n (brought_at (after l bytes)));
    }

-- Refused: the ledger comes back as handed in; releases and numbers are 0.
unfoldable pub refused_of : Ledger → (refusal : ℕ) → Answer
refused_of l refusal = record { ledger = l; refusal = refusal; releases = eight (λ t. 0); x0 = 0; figure = 0; bound = 0 }

-- The answer to a record, with room for so many bytes of output.
unfoldable pub take_of : Ledger → List ℕ → (room : ℕ) → Answer
take_of l bytes room = cond (eqb (refusal_of l bytes room) 0) (accepted_of l bytes) (refused_of l (refusal_of l bytes room))

-- Total R, total T, and by request b of document 02 the carbon released so far, over all types.
unfoldable pub total_stock : Ledger → ℕ
total_stock l = sum_of (stock_at l) 8

unfoldable pub total_brought : Ledger → ℕ
total_brought l = sum_of (brought_at l) 8

unfoldable pub total_released : Ledger → ℕ
total_released l = sum_of (released_at l) 8

-- What the output record of an answer says; its period is the n of the ledger after the record, which the record's period equals.
unfoldable pub output_fields : Answer → Output
output_fields a =
    record {
      period = a.ledger.n;
      kind = a.ledger.kind;
      climate = a.ledger.climate;
      x0 = a.x0;
      figure = a.figure;
      bound = a.bound;
      stock = total_stock a.ledger;
      brought = total_brought a.ledger;
    }

-- An accepted record entered: the ledger after it, what its output record says, and its decay work.
unfoldable pub entered_of : Ledger → List ℕ → Entered
entered_of l bytes = record { ledger = after l bytes; says = output_fields (accepted_of l bytes); work = work_of l bytes }

unfoldable pub output_record : Answer → List ℕ
output_record a = output_of (output_fields a)

-- Accepted: 48 bytes are written, the rest of the slice keeps its value. Refused: every output byte keeps its value.
unfoldable pub written_of : Ledger → List ℕ → (out : List ℕ) → List ℕ
written_of l bytes out =
    cond (eqb (refusal_of l bytes (length out)) 0) (output_record (accepted_of l bytes) ++ drop record_bytes out) out

-- The totals of a ledger; an unsound one is refused with 3.
unfoldable pub totals_of : Ledger → Totals
totals_of l =
    cond (sound l)
    (record { refusal = 0; stock = total_stock l; brought = total_brought l; released = total_released l })
    (record { refusal = 3; stock = 0; brought = 0; released = 0 })
