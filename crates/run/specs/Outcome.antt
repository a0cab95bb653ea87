-- What a run answers, as document 01 numbers it.
use Rattle.std.specs.Prelude.{List, ℕ, ◌-◌, cond, eqb}
use Rattle.numbers.specs.Bytes.{number_at}
use Rattle.numbers.specs.Eight.{eight}
use Rattle.refusal.specs.Numbers.{numbered}
use Rattle.ledger.specs.Answer.{Answer}
use Rattle.ledger.specs.Step.{released_at}
use Rattle.ledger.specs.Take.{refused_of}
use Rattle.ledger.specs.declared.book.Ledger.{Ledger}
use Rattle.run.specs.declared.RunEnd.{RunEnd}

-- The ledger after the last accepted record, how many records were accepted, the refusal of the next one, 0 if none, and the decay
-- work of the accepted ones.
pub record Outcome : Type 0 where
  pub ledger : Ledger
  pub accepted : ℕ
  pub refusal : ℕ
  pub work : ℕ

-- The numbers of a run's end.
abbrev pub outcome_numbers : RunEnd → Outcome
outcome_numbers end = record { ledger = end.ledger; accepted = end.accepted; refusal = numbered end.refusal; work = end.work }

-- What a run of one record from a ledger says of the record: what was released since, and what its output record says.
unfoldable pub one_answer : Ledger → Outcome → (out : List ℕ) → Answer
one_answer before end out =
    cond (eqb end.refusal 0)
    (record {
      ledger = end.ledger;
      refusal = 0;
      releases = eight (λ t. released_at end.ledger t - released_at before t);
      x0 = number_at 8 out 8;
      figure = number_at 8 out 16;
      bound = number_at 8 out 24;
    })
    (refused_of before end.refusal)
