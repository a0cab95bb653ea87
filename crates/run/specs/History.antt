-- Document 01, 'One step', its last paragraph, and demand 3: records taken in turn; and document 02, request h: the decay work of a run.
-- Runs, listings and offerings are read off it.
use Rattle.std.specs.Prelude.{◌≡◌, Bool, cond, List, [], ◌∷◌, ◌++◌, ℕ, zero, suc, ◌+◌, ◌-◌, ◌*◌, ◌/◌, eqb, length, take, drop}
use Rattle.numbers.specs.Lists.{added}
use Rattle.record.specs.Fields.{record_bytes}
use Rattle.ledger.specs.Step.{fresh, work_of}
use Rattle.ledger.specs.Take.{take_of, output_record}
use Rattle.ledger.specs.declared.book.Ledger.{Ledger}
use Rattle.ledger.specs.Answer.{Answer}
use Rattle.run.specs.Outcome.{Outcome}

-- Any bytes, offered as a record, with room for so many bytes of output.
pub record Offer : Type 0 where
  pub bytes : List ℕ
  pub room : ℕ

-- The ledger before a record, the bytes that were offered, and what the step answered.
pub record Turn : Type 0 where
  pub before : Ledger
  pub bytes : List ℕ
  pub answer : Answer

abbrev pub turn_of : Ledger → Offer → Turn
turn_of l offer = record { before = l; bytes = offer.bytes; answer = take_of l offer.bytes offer.room }

-- The step, taken on one record after another, each on the ledger that the one before it left.
unfoldable pub turns : Ledger → List Offer → List Turn
turns l [] = []
turns l (offer ∷ rest) = turn_of l offer ∷ turns (turn_of l offer).answer.ledger rest

-- The ledger after some turns.
unfoldable pub ledger_after : Ledger → List Turn → Ledger
ledger_after l [] = l
ledger_after l (turn ∷ rest) = ledger_after turn.answer.ledger rest

abbrev pub is_accepted : Turn → Bool
is_accepted turn = eqb turn.answer.refusal 0

-- The accepted records, 'passing over refused ones'.
unfoldable pub accepted : List Turn → List Turn
accepted [] = []
accepted (turn ∷ rest) = cond (is_accepted turn) (turn ∷ accepted rest) (accepted rest)

-- All of them are.
abbrev pub AllAccepted : List Turn → Type 0
AllAccepted [] = Unit
AllAccepted (turn ∷ rest) = (turn.answer.refusal ≡ 0) × AllAccepted rest

-- 'It stops at the first record that is refused': the leading ones, which are accepted, and the refusal that ends them, 0 if none.
unfoldable pub leading : List Turn → List Turn
leading [] = []
leading (turn ∷ rest) = cond (is_accepted turn) (turn ∷ leading rest) []

unfoldable pub ending : List Turn → ℕ
ending [] = 0
ending (turn ∷ rest) = cond (is_accepted turn) (ending rest) turn.answer.refusal

-- The output records of some turns, one after another.
unfoldable pub outputs : List Turn → List ℕ
outputs [] = []
outputs (turn ∷ rest) = output_record turn.answer ++ outputs rest

-- The decay work of some accepted records: that of each, on the ledger before it, added.
unfoldable pub work_over : List Turn → ℕ
work_over turns = added (λ (turn : Turn). work_of turn.before turn.bytes) turns

-- The first k records of a file; the last may be short.
unfoldable pub cut : ℕ → List ℕ → List (List ℕ)
cut zero file = []
cut (suc k) file = take record_bytes file ∷ cut k (drop record_bytes file)

-- How many records so many bytes begin.
abbrev pub records_begun : (bytes : ℕ) → ℕ
records_begun bytes = (bytes + (record_bytes - 1)) / record_bytes

-- A file is records one after another; bytes left over that make no record stand as a last one, which the step refuses with 1.
unfoldable pub records_of : List ℕ → List (List ℕ)
records_of file = cut (records_begun (length file)) file

-- Records as offers: each has the room that those before it leave.
unfoldable pub in_turn : List (List ℕ) → (room : ℕ) → List Offer
in_turn [] room = []
in_turn (bytes ∷ rest) room = record { bytes = bytes; room = room } ∷ in_turn rest (room - record_bytes)

-- A whole run: the ledger after its leading records, these, and the refusal of the next one, 0 if none.
pub record Run : Type 0 where
  pub ledger : Ledger
  pub accepted : List Turn
  pub refusal : ℕ

abbrev pub read_off : Ledger → List Turn → Run
read_off l all = record { ledger = ledger_after l (leading all); accepted = leading all; refusal = ending all }

unfoldable pub run_of : Ledger → List (List ℕ) → (room : ℕ) → Run
run_of l records room = read_off l (turns l (in_turn records room))

-- The output after a run: output record i starts at 48 × (i − 1), and whatever is past the last one keeps its value.
unfoldable pub out_of : Run → List ℕ → List ℕ
out_of r out = outputs r.accepted ++ drop (length (outputs r.accepted)) out

-- What the entry answers of a run; its decay work is that of the accepted records, 'none for the others'.
unfoldable pub outcome_of : Run → Outcome
outcome_of r =
    record { ledger = r.ledger; accepted = length r.accepted; refusal = r.refusal; work = work_over r.accepted }

-- A file run from a fresh ledger, with room for every output record.
unfoldable pub whole_run : (file : List ℕ) → Run
whole_run file = run_of fresh (records_of file) (record_bytes * length (records_of file))
