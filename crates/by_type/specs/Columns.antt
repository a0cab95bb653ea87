-- Document 02, request j: 'a second engine, from a fresh ledger'. What its columns and its answer are is read off the history of the first
-- engine's run.
use Rattle.std.specs.Prelude.{Bool, false, cond, not, ◌||◌, List, [], ◌∷◌, ◌++◌, map, ℕ, ◌+◌, eqb, ltb, length, drop, get_or}
use Rattle.numbers.specs.Eight.{eight}
use Rattle.numbers.specs.Fault.{Fault, ◌when◌, first_of}
use Rattle.ledger.specs.Step.{stock_at}
use Rattle.run.specs.History.{Turn, whole_run}

-- The refusal, 0 if none, and the carbon left of the eight types after the last record, in mg.
pub record Filled : Type 0 where
  pub refusal : ℕ
  pub stocks : List ℕ

-- The columns of types 1 to 8, and the ninth.
abbrev pub nine : {A : Type 0} → (wood paper food textiles garden inert domestic industrial figures : A) → List A
nine wood paper food textiles garden inert domestic industrial figures =
    wood ∷ paper ∷ food ∷ textiles ∷ garden ∷ inert ∷ domestic ∷ industrial ∷ figures ∷ []

-- 'eight lent columns take the releases [..] and a ninth the figures': what column c has, from 0 on, of a record's answer.
unfoldable pub column_entry : (c : ℕ) → Turn → ℕ
column_entry c turn = cond (ltb c 8) (get_or turn.answer.releases c 0) turn.answer.figure

-- A column after a run, one place for each record; 'places past the run stay'.
unfoldable pub column_after : (c : ℕ) → List Turn → List ℕ → List ℕ
column_after c turns column = map (column_entry c) turns ++ drop (length turns) column

abbrev pub columns_after : (c : ℕ) → List Turn → List (List ℕ) → List (List ℕ)
columns_after c turns [] = []
columns_after c turns (column ∷ rest) = column_after c turns column ∷ columns_after (c + 1) turns rest

-- 'a column has fewer places than the run has records'
abbrev pub any_short : (records : ℕ) → List (List ℕ) → Bool
any_short records [] = false
any_short records (column ∷ rest) = ltb (length column) records || any_short records rest

module _ (file : List ℕ) (columns : List (List ℕ)) where
  -- 'Refusals: the first engine's refusal when that engine, given room for every output record, would refuse any record; then 26'.
  unfoldable pub column_faults : List Fault
  column_faults =
      (whole_run file).refusal when not (eqb (whole_run file).refusal 0) ∷ 26 when any_short (length (whole_run file).accepted) columns ∷ []

  abbrev pub columns_refusal : ℕ
  columns_refusal = first_of column_faults

  -- 'no column is written in either case and the stocks are 0'; else 'the end stocks are answered'.
  unfoldable pub columns_of : List (List ℕ)
  columns_of = cond (eqb columns_refusal 0) (columns_after 0 (whole_run file).accepted columns) columns

  unfoldable pub filled_of : Filled
  filled_of = record { refusal = columns_refusal; stocks = cond (eqb columns_refusal 0) (eight (stock_at (whole_run file).ledger)) (eight (λ t. 0)) }
