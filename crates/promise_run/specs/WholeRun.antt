-- Document 01, 'What the contracts have to decide': 'the count is the number of leading records that the step, taken one after
-- another, accepts'. It is said of any ledger l, records and room, and of any answer.
use Rattle.std.specs.Prelude.{◌≡◌, List, [], ◌++◌, ℕ, ◌-◌, ◌*◌, ◌<◌, length, get_or, take, drop}
use Rattle.record.specs.Fields.{record_bytes}
use Rattle.ledger.specs.Take.{take_of}
use Rattle.run.specs.History.{outputs, work_over, records_of, in_turn, Run, run_of}
use Rattle.ledger.specs.declared.book.Ledger.{Ledger}
use Rattle.ledger.specs.Answer.{Answer}
use Rattle.run.specs.Outcome.{Outcome}
use Rattle.promise_three.specs.Offering.{Offering, offering_to, records_in}

module _ (l : Ledger) (records : List (List ℕ)) (room : ℕ) (answer : Outcome) where
  -- The leading records, as many as the answer counts, and what comes of offering them one after another.
  abbrev pub leading_records : List (List ℕ)
  leading_records = take answer.accepted records

  abbrev pub leading_offered : Offering
  leading_offered = offering_to l (in_turn leading_records room)

  -- There are so many, the step accepts every one, and the ledger is the one after them.
  pub record LeadingAccepted : Type 0 where
    pub so_many : length leading_records ≡ answer.accepted
    pub every_one : records_in leading_offered ≡ leading_records
    pub ledger_after_lem : answer.ledger ≡ leading_offered.ledger

module _ (records : List (List ℕ)) (room : ℕ) (answer : Outcome) where
  -- What the step answers to the next record, on the ledger that is left and with the room that is left.
  abbrev pub next_answer : Answer
  next_answer = take_of answer.ledger (get_or records answer.accepted []) (room - record_bytes * answer.accepted)

  -- No record is left and the refusal is 0; or there is a next one, and the step refuses it with the answered number.
  pub data LeadingEnds : Type 0 where
    none_left : answer.accepted ≡ length records → answer.refusal ≡ 0 → LeadingEnds
    next_refused : answer.accepted < length records → answer.refusal ≡ next_answer.refusal → 0 < answer.refusal → LeadingEnds

-- The run over a file, with an output.
abbrev pub run_over : Ledger → (file out : List ℕ) → Run
run_over l file out = run_of l (records_of file) (length out)

-- So of a file and an output, and what is left in the output: output record i starts at 48 × (i − 1), and the rest keeps its value.
-- The decay work is that of the leading records.
pub record WholeRun (l : Ledger) (file out : List ℕ) (answer : Outcome) (left : List ℕ) : Type 0 where
  pub begins : LeadingAccepted l (records_of file) (length out) answer
  pub stops : LeadingEnds (records_of file) (length out) answer
  pub output_after : left ≡ outputs (leading_offered l (records_of file) (length out) answer).accepted
      ++ drop (record_bytes * answer.accepted) out
  pub worked : answer.work ≡ work_over (leading_offered l (records_of file) (length out) answer).accepted
