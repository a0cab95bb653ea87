-- Demand 3: 'Start a fresh ledger and offer any list of records, passing over refused ones.'
use Rattle.std.specs.Prelude.{List, map, ℕ, get_or}
use Rattle.numbers.specs.Lists.{added}
use Rattle.ledger.specs.Step.{fresh}
use Rattle.run.specs.History.{Offer, Turn, turns, ledger_after, accepted}
use Rattle.ledger.specs.declared.book.Ledger.{Ledger}

-- What has come of some offers: the ledger after them, and the accepted records in order, each with its answer.
pub record Offering : Type 0 where
  pub ledger : Ledger
  pub accepted : List Turn

-- Any offers, one after another, to a ledger, and to a fresh one.
unfoldable pub offering_to : Ledger → List Offer → Offering
offering_to l offers = record { ledger = ledger_after l (turns l offers); accepted = accepted (turns l offers) }

abbrev pub offering : List Offer → Offering
offering offers = offering_to fresh offers

-- The bytes of the accepted records.
abbrev pub records_in : Offering → List (List ℕ)
records_in o = map (λ turn. turn.bytes) o.accepted

-- The carbon that accepted records are answered to release at place t, added.
abbrev pub released_by : List Turn → (t : ℕ) → ℕ
released_by turns t = added (λ (turn : Turn). get_or turn.answer.releases t 0) turns
