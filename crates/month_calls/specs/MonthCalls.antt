-- What a call with yearly totals makes of the image that is lent to it: the step and the run of request l of document 02, from image to image.
use Rattle.std.specs.Prelude.{List, ℕ, length}
use Rattle.ledger.specs.Answer.{Answer}
use Rattle.run.specs.History.{records_of, Run}
use Rattle.image.specs.Image.{ledger_of}
use Rattle.calls.specs.Calls.{room_of}
use Rattle.yearly_totals.specs.Months.{take_month_of, month_totals, month_run_of}

module _ (image totals bytes out answer : List ℕ) where
  abbrev pub room_here : ℕ
  room_here = room_of (length out) (length answer)

  -- One record, offered with the room of both outputs.
  unfoldable pub take_month_here : Answer
  take_month_here = take_month_of (ledger_of image) totals bytes room_here

  unfoldable pub month_totals_here : List ℕ
  month_totals_here = month_totals (ledger_of image) totals bytes room_here

-- A file of records.
unfoldable pub run_months_here : (image totals file : List ℕ) (room : ℕ) → Run
run_months_here image totals file room = month_run_of (ledger_of image) totals (records_of file) room
