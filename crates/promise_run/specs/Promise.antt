-- Document 01, 'What the contracts have to decide', of a whole run. proofs/Proved.antt proves `RunPromise`.
use Rattle.std.specs.Prelude.{◌≡◌, List, ℕ}
use Rattle.ledger.specs.declared.book.Ledger.{Ledger}
use Rattle.run.specs.History.{out_of, outcome_of}
use Rattle.run.specs.Outcome.{Outcome}
use Rattle.promise_run.specs.WholeRun.{run_over, WholeRun}

pub record RunPromise : Type 0 where
  -- 'the count is the number of leading records that the step, taken one after another, accepts': so demand 3 holds of a whole run.
  pub whole_run_lem : (l : Ledger) (file out : List ℕ) → WholeRun l file out (outcome_of (run_over l file out)) (out_of (run_over l file out) out)
  -- No other answer, and no other output, meets that.
  pub one_run_lem : (l : Ledger) (file out : List ℕ) (answer : Outcome) (left : List ℕ) → WholeRun l file out answer left
      → (answer ≡ outcome_of (run_over l file out)) × (left ≡ out_of (run_over l file out) out)
