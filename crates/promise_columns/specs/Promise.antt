-- Document 02, request j, 'A column-by-column calculation'. proofs/Proved.antt proves `ColumnsPromise`.
use Rattle.std.specs.Prelude.{◌≡◌, ◌↔◌, List, [], map, ℕ, ◌<◌, get_or}
use Rattle.ledger.specs.Step.{stock_at}
use Rattle.run.specs.History.{records_of, whole_run}
use Rattle.by_type.specs.Alone.{releases_alone, stock_alone}
use Rattle.promise_columns.specs.Sheets.{Lent, sheets, nothing_filled, history, end_ledger, NoneRefused, Long, SameAsLedger}

pub record ColumnsPromise : Type 0 where
  -- 'Releases and figures of every period and the end stocks are proved equal to the ledger's.'
  pub same_as_ledger : (s : Lent) → (sheets s).refusal ≡ 0 → SameAsLedger s (sheets s)
  -- 'all periods of one type before the next': the column of one type, worked out alone from its deposits, is the ledger's.
  pub type_alone : (file : List ℕ) → NoneRefused file → (t : ℕ) → t < 8
      → (releases_alone t 0 (records_of file) ≡ map (λ turn. get_or turn.answer.releases t 0) (history file))
      × (stock_alone t 0 (records_of file) ≡ stock_at (end_ledger file) t)
  -- 'Refusals: the first engine's refusal when that engine [..] would refuse any record; then 26 when a column has fewer places than the run
  -- has records; no column is written in either case and the stocks are 0.'
  pub filled_where : (s : Lent) → ((sheets s).refusal ≡ 0) ↔ (NoneRefused s.file × Long s)
  pub refused_as_run : (s : Lent) → (NoneRefused s.file → ⊥) → ((whole_run s.file).refusal ≡ 0 → ⊥) × (sheets s ≡ nothing_filled (whole_run s.file).refusal s)
  pub refused_26 : (s : Lent) → (sheets s ≡ nothing_filled 26 s) ↔ (NoneRefused s.file × (Long s → ⊥))
  -- An empty file is accepted with any columns, empty ones too, and leaves them.
  pub empty_file : (s : Lent) → s.file ≡ [] → sheets s ≡ nothing_filled 0 s
