-- The second engine's numbers are the ledger's: the column of one type, worked out alone, and the figures, added across.
use mathlib.Core.Path.{◌≡◌, refl, sym, ap, ◌∙◌}
use mathlib.Core.List.{List, [], ◌∷◌, map}
use Prim.Native.Nat.{ℕ, zero, suc, ◌+◌, ◌-◌, ◌≤◌, ◌<◌}
use native.Mathlib.Nat.{add-zero}
use native.Mathlib.Omega.{arith}
use lib.ListN.{length, get_or}
use Rattle.numbers.proofs.Eight.{sum_same}
use Rattle.record.specs.Fields.{record_bytes, deposit_of, factors_of}
use Rattle.carbon.specs.Carbon.{most_brought}
use Rattle.figure.specs.Figure.{figure_of}
use Rattle.ledger.specs.Step.{stock_at, held, new_stock, release, x0_of}
use Rattle.ledger.specs.Take.{accepted_of}
use Rattle.ledger.specs.declared.book.Ledger.{Ledger}
use Rattle.ledger.proofs.Step.{stock_after, release_answered}
use Rattle.ledger.proofs.Accepted.{accepted_meets, new_small}
use Rattle.run.specs.History.{Turn, run_of}
use Rattle.run.proofs.History.{run_goes_on, run_takes, run_ends, accepted_turn}
use Rattle.by_type.specs.Alone.{left_alone, releases_alone, stock_alone}
use Rattle.by_type.specs.Across.{across_at, figures_across}

-- One record: what is left is the ledger's new stock, what is gone its release.
module _ (t : ℕ) (place : t < 8) (l : Ledger) (bytes : List ℕ) where
  pub left_alone_lem : left_alone t (stock_at l t) bytes ≡ stock_at (accepted_of l bytes).ledger t
  unfolding accepted_of left_alone
  left_alone_lem = sym (stock_after l bytes t place)

  gone_alone : stock_at l t + deposit_of bytes t - left_alone t (stock_at l t) bytes ≡ release l bytes t
  unfolding left_alone release new_stock held
  gone_alone = refl

-- The release at a place that the step answered, and the figure.
abbrev pub release_in : (t : ℕ) → Turn → ℕ
release_in t turn = get_or turn.answer.releases t 0

abbrev pub figure_in : Turn → ℕ
figure_in turn = turn.answer.figure

-- The column of one type, worked out alone, is the ledger's: its releases and its end stock.
pub record IsLedgers (t : ℕ) (l : Ledger) (records : List (List ℕ)) (room : ℕ) : Type 0 where
  pub releases : releases_alone t (stock_at l t) records ≡ map (release_in t) (run_of l records room).accepted
  pub stock : stock_alone t (stock_at l t) records ≡ stock_at (run_of l records room).ledger t

pub alone_is_ledgers : (t : ℕ) → t < 8 → (l : Ledger) (records : List (List ℕ)) (room : ℕ) → (run_of l records room).refusal ≡ 0 → IsLedgers t l records room
unfolding releases_alone stock_alone
alone_is_ledgers t place l [] room none = record { releases = rw (run_ends l room); stock = rw (run_ends l room) }
alone_is_ledgers t place l (bytes ∷ rest) room none =
    let took = run_takes l bytes rest room none in
    let on = alone_is_ledgers t place (accepted_of l bytes).ledger rest (room - record_bytes) took.1 in
    let first = run_goes_on l bytes rest room took.0 in
    record {
      releases = rw (first, gone_alone t place l bytes, left_alone_lem t place l bytes, release_answered l bytes t place, on.releases);
      stock = rw (first, left_alone_lem t place l bytes) on.stock;
    }

-- It has a place for each record, and no release is above what one type can bring in.
pub releases_length : (t R : ℕ) (records : List (List ℕ)) → length (releases_alone t R records) ≡ length records
unfolding releases_alone
releases_length t R [] = refl
releases_length t R (bytes ∷ rest) = ap suc (releases_length t (left_alone t R bytes) rest)

pub releases_small : (t : ℕ) → t < 8 → (l : Ledger) (records : List (List ℕ)) (room : ℕ) → (run_of l records room).refusal ≡ 0
    → (i : ℕ) → get_or (releases_alone t (stock_at l t) records) i 0 ≤ most_brought
unfolding releases_alone
releases_small t place l [] room none i = omega arith
releases_small t place l (bytes ∷ rest) room none zero =
    rw (gone_alone t place l bytes) (new_small l bytes (accepted_meets l bytes room (run_takes l bytes rest room none).0) t place).G
releases_small t place l (bytes ∷ rest) room none (suc i) =
    rw (left_alone_lem t place l bytes) (releases_small t place (accepted_of l bytes).ledger rest (room - record_bytes) (run_takes l bytes rest room none).1 i)

-- The columns hold the releases of some records, the first of them at place i.
abbrev pub HoldFrom : (columns : List (List ℕ)) (i : ℕ) → Ledger → List (List ℕ) → Type 0
HoldFrom columns i l records =
    (t : ℕ) → t < 8 → (j : ℕ) → j < length records → get_or (get_or columns t []) (i + j) 0 ≡ get_or (releases_alone t (stock_at l t) records) j 0

module _ (columns : List (List ℕ)) (i : ℕ) (l : Ledger) (bytes : List ℕ) (rest : List (List ℕ)) (hold : HoldFrom columns i l (bytes ∷ rest)) where
  pub x0_across : across_at columns i ≡ x0_of l bytes
  unfolding across_at x0_of releases_alone
  x0_across =
      sum_same (λ t. get_or (get_or columns t []) i 0) (release l bytes) 8
      (λ t place. rw add-zero at (hold t place 0 (omega arith)) ∙ gone_alone t place l bytes)

  pub hold_rest : HoldFrom columns (i + 1) (accepted_of l bytes).ledger rest
  unfolding releases_alone
  hold_rest t place j near =
      let on : i + 1 + j ≡ i + suc j = omega arith in
      rw on (hold t place (suc j) (omega arith) ∙ rw (left_alone_lem t place l bytes))

-- Added across, the releases of a record are its x0, so the figures are the ledger's.
figure_answered : (l : Ledger) (bytes : List ℕ) → figure_of (factors_of bytes) (x0_of l bytes) ≡ figure_in (accepted_turn l bytes)
unfolding accepted_of
figure_answered l bytes = refl

pub figures_are_ledgers : (columns : List (List ℕ)) (i : ℕ) (l : Ledger) (records : List (List ℕ)) (room : ℕ) → (run_of l records room).refusal ≡ 0
    → HoldFrom columns i l records → figures_across columns i records ≡ map figure_in (run_of l records room).accepted
unfolding figures_across
figures_are_ledgers columns i l [] room none hold = rw (run_ends l room)
figures_are_ledgers columns i l (bytes ∷ rest) room none hold =
    let took = run_takes l bytes rest room none in
    let on = figures_are_ledgers columns (i + 1) (accepted_of l bytes).ledger rest (room - record_bytes) took.1 (hold_rest columns i l bytes rest hold) in
    rw (run_goes_on l bytes rest room took.0, x0_across columns i l bytes rest hold, on, figure_answered l bytes)
