-- The public functions of `releases`: the stocks with four columns, and the figures; then, of the eight columns in one value, the contents in
-- their order, the stocks with the columns and the references, which stay, so that the columns are the caller's own buffers, and the figures.
use mathlib.Core.List.{List, [], ◌∷◌, map}
use Prim.Native.Nat.{ℕ}
use denote.Ref.{Bor}
use Rattle.releases.specs.Columns.{contents, references}
use Rattle.releases.proofs.fill_four.Reads as fill-four
use Rattle.releases.proofs.add_across.Reads as add-across
use Rattle.releases.proofs.type_columns.TypeColumns.all.Reads as all
use Rattle.releases.proofs.type_columns.TypeColumns.fill.Reads as fill
use Rattle.releases.proofs.type_columns.TypeColumns.add_across.Reads as columns-add-across
use Rattle.promise_answers.proofs.OneAnswer.{Settled, by_equation, ◌&◌, both}

pub fill_four_one : Settled fill-four.Learnt (λ κs r s. r & (s.1.1.1.1.1.0.now ∷ s.1.1.1.1.1.1.0.now ∷ s.1.1.1.1.1.1.1.0.now ∷ s.1.1.1.1.1.1.1.1.0.now ∷ []))
fill_four_one = by_equation (λ κs a r s p. both p.0 p.1)

pub add_across_one : Settled add-across.Learnt (λ κs r s. s.1.1.1.1.1.1.1.1.1.1.0.now)
add_across_one = by_equation (λ κs a r s p. p)

pub all_one : Settled all.Learnt (λ κs r s. map (λ (column : Bor (List ℕ)). column.now) r)
all_one = by_equation (λ κs a r s p. p)

pub fill_one : Settled fill.Learnt (λ κs r s. r & contents s.0.now & references s.0.now)
fill_one = by_equation (λ κs a r s p. both p.0 (both p.1.1 p.1.0))

pub columns_add_across_one : Settled columns-add-across.Learnt (λ κs r s. s.1.1.1.0.now)
columns_add_across_one = by_equation (λ κs a r s p. p)
