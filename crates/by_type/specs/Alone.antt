-- Document 02, request j: 'one sheet per waste type', 'all periods of one type before the next'. One type worked out alone; that it is the
-- ledger's is a law.
use Rattle.std.specs.Prelude.{List, [], ◌∷◌, ◌++◌, ℕ, ◌+◌, ◌-◌, ◌≤◌, length, drop}
use Rattle.record.specs.Fields.{kind_of, climate_of, deposit_of}
use Rattle.carbon.specs.Carbon.{entry_at, left_of}
use Rattle.run.specs.History.{records_of}

-- The type at place t, alone:
module _ (t : ℕ) where
  -- what is left of its stock R and a record's deposit after the record's period;
  unfoldable pub left_alone : (R : ℕ) → List ℕ → ℕ
  left_alone R bytes = left_of (R + deposit_of bytes t) (entry_at (kind_of bytes) (climate_of bytes) t)

  -- what it releases in the period of each record;
  unfoldable pub releases_alone : (R : ℕ) → List (List ℕ) → List ℕ
  releases_alone R [] = []
  releases_alone R (bytes ∷ rest) = (R + deposit_of bytes t - left_alone R bytes) ∷ releases_alone (left_alone R bytes) rest

  -- and its stock after the last of them.
  unfoldable pub stock_alone : (R : ℕ) → List (List ℕ) → ℕ
  stock_alone R [] = R
  stock_alone R (bytes ∷ rest) = stock_alone (left_alone R bytes) rest

-- A column has n places.
abbrev pub HasPlaces : (n t : ℕ) → List ℕ → Type 0
HasPlaces n t column = n ≤ length column

-- Some columns, filled with the releases of the n records of a file: the first of them is that of the type at place t.
abbrev pub filled_from : (file : List ℕ) (n t : ℕ) → List (List ℕ) → List (List ℕ)
filled_from file n t [] = []
filled_from file n t (column ∷ rest) = (releases_alone t 0 (records_of file) ++ drop n column) ∷ filled_from file n (t + 1) rest

-- The stocks of four types after the last record.
abbrev pub four_stocks : (file : List ℕ) (t : ℕ) → List ℕ
four_stocks file t =
    stock_alone t 0 (records_of file) ∷ stock_alone (t + 1) 0 (records_of file) ∷ stock_alone (t + 2) 0 (records_of file) ∷ stock_alone (t + 3) 0 (records_of file) ∷ []
