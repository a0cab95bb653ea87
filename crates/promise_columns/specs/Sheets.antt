-- Document 02, request j: what a call is lent, what it leaves, and the first engine's history, in the request's words. Columns and places
-- count from 0 on.
use Rattle.std.specs.Prelude.{◌≡◌, List, [], ℕ, ◌*◌, ◌≤◌, ◌<◌, length, get_or, drop, replicate}
use Rattle.numbers.specs.Eight.{sum_of}
use Rattle.numbers.specs.Lists.{Each}
use Rattle.record.specs.Fields.{record_bytes, factors_of}
use Rattle.figure.specs.Figure.{figure_of}
use Rattle.ledger.specs.Step.{fresh, stock_at}
use Rattle.ledger.specs.declared.book.Ledger.{Ledger}
use Rattle.run.specs.History.{Turn, turns, ledger_after, AllAccepted, records_of, in_turn}
use Rattle.by_type.specs.Columns.{columns_of, filled_of}

-- What a call is handed: a file, the columns of types 1 to 8 as they are, and the ninth.
pub record Lent : Type 0 where
  pub file : List ℕ
  pub columns : List (List ℕ)
  pub nine_lent : length columns ≡ 9

-- What comes of it: the refusal, the end stocks, and the columns as it leaves them.
pub record Sheets : Type 0 where
  pub refusal : ℕ
  pub stocks : List ℕ
  pub columns : List (List ℕ)

abbrev pub sheets : Lent → Sheets
sheets s =
    record {
      refusal = (filled_of s.file s.columns).refusal;
      stocks = (filled_of s.file s.columns).stocks;
      columns = columns_of s.file s.columns;
    }

-- 'no column is written in either case and the stocks are 0'
abbrev pub nothing_filled : (refusal : ℕ) → Lent → Sheets
nothing_filled refusal s = record { refusal = refusal; stocks = replicate 8 0; columns = s.columns }

-- The first engine: the step, taken on one record after another, from a fresh ledger and with room for every output record; and its end
-- ledger.
abbrev pub history : (file : List ℕ) → List Turn
history file = turns fresh (in_turn (records_of file) (record_bytes * length (records_of file)))

abbrev pub end_ledger : (file : List ℕ) → Ledger
end_ledger file = ledger_after fresh (history file)

-- It refuses no record.
abbrev pub NoneRefused : (file : List ℕ) → Type 0
NoneRefused file = AllAccepted (history file)

-- No column 'has fewer places than the run has records'.
abbrev pub Long : Lent → Type 0
Long s = (c : ℕ) → c < 9 → length (history s.file) ≤ length (get_or s.columns c [])

module _ (s : Lent) (r : Sheets) where
  abbrev pub column : (c : ℕ) → List ℕ
  column c = get_or r.columns c []

  pub record SameAsLedger : Type 0 where
    -- 'eight lent columns take the releases': column t at place i has what the step's answer to record i + 1 has for the type at place t;
    pub releases : (t : ℕ) → t < 8 → Each (λ i turn. get_or (column t) i 0 ≡ get_or turn.answer.releases t 0) 0 (history s.file)
    -- 'and a ninth the figures,
    pub figures : Each (λ i turn. get_or (column 8) i 0 ≡ turn.answer.figure) 0 (history s.file)
    -- by adding across';
    pub across : Each (λ i turn. get_or (column 8) i 0 ≡ figure_of (factors_of turn.bytes) (sum_of (λ t. get_or (column t) i 0) 8)) 0 (history s.file)
    -- 'places past the run stay,
    pub past_stay : (c : ℕ) → c < 9 → drop (length (history s.file)) (column c) ≡ drop (length (history s.file)) (get_or s.columns c [])
    pub as_long : (c : ℕ) → c < 9 → length (column c) ≡ length (get_or s.columns c [])
    -- and the end stocks are answered'.
    pub stocks : (t : ℕ) → t < 8 → get_or r.stocks t 0 ≡ stock_at (end_ledger s.file) t
    pub eight_stocks : length r.stocks ≡ 8
