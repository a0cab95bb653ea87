-- The document's numbers of what the methods answer.
use Rattle.std.specs.Prelude.{Result, Ok, Err}
use Rattle.refusal.specs.Numbers.{number_of}
use Rattle.refusal.specs.declared.why.Refusal.{Refusal}
use Rattle.ledger.specs.Answer.{Answer, Totals}
use Rattle.ledger.specs.Take.{refused_of}
use Rattle.ledger.specs.declared.book.Ledger.{Ledger}
use Rattle.ledger.specs.declared.answer.Taken.{Taken}
use Rattle.ledger.specs.declared.answer.CarbonTotals.{CarbonTotals}

-- A record offered to a ledger: accepted, the refusal is 0; refused, the ledger comes back as handed in, and releases and numbers are 0.
abbrev pub answer_numbers : Ledger → Result Taken Refusal → Answer
answer_numbers l (Ok taken) =
    record { ledger = taken.ledger; refusal = 0; releases = taken.releases; x0 = taken.x0; figure = taken.figure; bound = taken.bound }
answer_numbers l (Err why) = refused_of l (number_of why)

-- The totals of a ledger: refused, they are 0.
abbrev pub totals_numbers : Result CarbonTotals Refusal → Totals
totals_numbers (Ok all) = record { refusal = 0; stock = all.stock; brought = all.brought; released = all.released }
totals_numbers (Err why) = record { refusal = number_of why; stock = 0; brought = 0; released = 0 }
