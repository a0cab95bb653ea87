-- Document 02, request j: 'a ninth the figures, by adding across'. The figures of records from the releases in eight columns.
use Rattle.std.specs.Prelude.{List, [], ◌∷◌, ◌≡◌, ℕ, ◌+◌, ◌≤◌, ◌<◌, length, get_or, take}
use Rattle.numbers.specs.Eight.{sum_of}
use Rattle.record.specs.Fields.{factors_of}
use Rattle.carbon.specs.Carbon.{most_brought}
use Rattle.figure.specs.Figure.{figure_of}
use Rattle.run.specs.History.{records_of}
use Rattle.by_type.specs.Alone.{releases_alone}

-- The first n places of a column are the releases of the type at place t, over the records of a file.
abbrev pub HoldsReleases : (file : List ℕ) (n : ℕ) → (t : ℕ) → List ℕ → Type 0
HoldsReleases file n t column = take n column ≡ releases_alone t 0 (records_of file)

-- A column has a place i, with no more than all carbon that one type can bring in.
abbrev pub HoldsAt : (i t : ℕ) → List ℕ → Type 0
HoldsAt i t column = (i < length column) × (get_or column i 0 ≤ most_brought)

-- The eight columns added across at a place.
unfoldable pub across_at : (columns : List (List ℕ)) (i : ℕ) → ℕ
across_at columns i = sum_of (λ t. get_or (get_or columns t []) i 0) 8

-- The figures of some records, the first of them at place i.
unfoldable pub figures_across : (columns : List (List ℕ)) (i : ℕ) → List (List ℕ) → List ℕ
figures_across columns i [] = []
figures_across columns i (bytes ∷ rest) = figure_of (factors_of bytes) (across_at columns i) ∷ figures_across columns (i + 1) rest
