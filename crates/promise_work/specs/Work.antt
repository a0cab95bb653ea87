-- Document 02, request h, 'Say how much decay work a run did': the count in the request's words, of a run over a file from any ledger l
-- into an output. Place t has type t + 1, and records are counted from 0.
use Rattle.std.specs.Prelude.{◌≡◌, Bool, not, ◌&&◌, ◌||◌, List, [], ℕ, ◌+◌, ◌<◌, ltb, length, get_or, take}
use Rattle.numbers.specs.Eight.{one, sum_of}
use Rattle.waste.specs.Waste.{inert}
use Rattle.record.specs.Fields.{mass_of, deposit_of}
use Rattle.ledger.specs.Step.{stock_at}
use Rattle.ledger.specs.Take.{take_of}
use Rattle.ledger.specs.declared.book.Ledger.{Ledger}
use Rattle.ledger.specs.Answer.{Answer}
use Rattle.run.specs.History.{records_of, run_of, outcome_of}
use Rattle.run.specs.Outcome.{Outcome}

module _ (l : Ledger) (file out : List ℕ) where
  -- What the run answers.
  abbrev pub run_answer : Outcome
  run_answer = outcome_of (run_of l (records_of file) (length out))

  -- Record i of the file, and the ledger before it: what the run over the records before it leaves.
  abbrev pub offered_at : (i : ℕ) → List ℕ
  offered_at i = get_or (records_of file) i []

  abbrev pub ledger_before : (i : ℕ) → Ledger
  ledger_before i = (run_of l (take i (records_of file)) (length out)).ledger

  -- 'stock with deposit .. before decay'
  abbrev pub stock_with_deposit : (i t : ℕ) → ℕ
  stock_with_deposit i t = stock_at (ledger_before i) t + deposit_of (offered_at i) t

  -- 'one for every .. type whose stock with deposit is above zero before decay, none for the others', of record i,
  abbrev pub multiplications_in : (i : ℕ) → ℕ
  multiplications_in i = sum_of (λ t. one (ltb 0 (stock_with_deposit i t))) 8

  -- and of 'every accepted record'.
  abbrev pub multiplications : ℕ
  multiplications = sum_of multiplications_in run_answer.accepted

-- What the step answers to one record, with an output.
abbrev pub step_answer : Ledger → (bytes out : List ℕ) → Answer
step_answer l bytes out = take_of l bytes (length out)

-- Whether there is carbon of a type, by the record's masses and the ledger: 'inert waste has no carbon', and any other type has some
-- where its stock or its mass is above zero.
abbrev pub has_carbon : Ledger → List ℕ → (t : ℕ) → Bool
has_carbon l bytes t = not (inert t) && (ltb 0 (stock_at l t) || ltb 0 (mass_of bytes t))

-- Two records with the same eight masses.
abbrev pub SameMasses : (bytes others : List ℕ) → Type 0
SameMasses bytes others = (t : ℕ) → t < 8 → mass_of bytes t ≡ mass_of others t
