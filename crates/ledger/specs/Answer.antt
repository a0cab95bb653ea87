-- What a step and the totals answer, as document 01 numbers it: the refusal by its number, 0 if none.
use Rattle.std.specs.Prelude.{List, ℕ}
use Rattle.ledger.specs.declared.book.Ledger.{Ledger}

-- The ledger that comes back, the refusal, and of an accepted record the eight releases in mg, their sum x0 in mg, the figure and its
-- bound in grams CO2e.
pub record Answer : Type 0 where
  pub ledger : Ledger
  pub refusal : ℕ
  pub releases : List ℕ
  pub x0 : ℕ
  pub figure : ℕ
  pub bound : ℕ

-- The refusal, and the carbon left, brought in and released so far over all types, in mg.
pub record Totals : Type 0 where
  pub refusal : ℕ
  pub stock : ℕ
  pub brought : ℕ
  pub released : ℕ
