-- Document 02, request h, 'Say how much decay work a run did'. proofs/Proved.antt proves `WorkPromise`.
use Rattle.std.specs.Prelude.{◌≡◌, true, List, ℕ, ◌+◌, ◌≤◌, ◌<◌, ltb, get_or}
use Rattle.numbers.specs.Eight.{one, sum_of}
use Rattle.waste.specs.Waste.{inert}
use Rattle.record.specs.Fields.{deposit_of}
use Rattle.ledger.specs.Step.{stock_at}
use Rattle.ledger.specs.declared.book.Ledger.{Ledger}
use Rattle.promise_work.specs.Work.{run_answer, multiplications_in, multiplications, step_answer, has_carbon, SameMasses}

pub record WorkPromise : Type 0 where
  -- 'Prove it equal to that count over the accepted records', whatever ledger is handed in,
  pub work_counted : (l : Ledger) (file out : List ℕ) → (run_answer l file out).work ≡ multiplications l file out
  -- 'at most 7 a record
  pub seven_a_record : (l : Ledger) (file out : List ℕ) (i : ℕ) → i < (run_answer l file out).accepted → multiplications_in l file out i ≤ 7
  -- and 8400 in a run,
  pub most_in_a_run : (l : Ledger) (file out : List ℕ) → (run_answer l file out).work ≤ 8400
  -- as inert waste has no carbon': on any ledger that accepts the record.
  pub inert_none : (l : Ledger) (bytes out : List ℕ) (t : ℕ) → (step_answer l bytes out).refusal ≡ 0 → inert t ≡ true
      → stock_at l t + deposit_of bytes t ≡ 0
  -- The work of an accepted record follows from its masses and the ledger:
  pub by_masses : (l : Ledger) (bytes out : List ℕ) → (step_answer l bytes out).refusal ≡ 0
      → (run_answer l bytes out).work ≡ sum_of (λ t. one (has_carbon l bytes t)) 8
  -- neither its other bytes, the factors among them, nor the room change it.
  pub masses_decide : (l : Ledger) (bytes out others rest : List ℕ) → (step_answer l bytes out).refusal ≡ 0 → (step_answer l others rest).refusal ≡ 0
      → SameMasses bytes others → (run_answer l bytes out).work ≡ (run_answer l others rest).work
  -- It is also the number of types whose release is above zero, since every entry of the table is below 10^9.
  pub by_releases : (l : Ledger) (bytes out : List ℕ) → (step_answer l bytes out).refusal ≡ 0
      → (run_answer l bytes out).work ≡ sum_of (λ t. one (ltb 0 (get_or (step_answer l bytes out).releases t 0))) 8
