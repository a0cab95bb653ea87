-- Columns by their places: what a filled one has of each turn, and what is past the turns.
use mathlib.Core.Path.{◌≡◌, refl, ◌∙◌}
use mathlib.Core.List.{List, [], ◌∷◌, map}
use Prim.Native.Nat.{ℕ, zero, suc, ◌+◌, ◌≤◌, ◌<◌}
use native.Mathlib.Nat.{add-zero}
use native.Mathlib.Omega.{arith}
use lib.ListN.{length, get_or, drop, length-append, length-drop, length-map}
use lib.Seq.{drop_at}
use Rattle.numbers.specs.Lists.{Each}
use Rattle.numbers.proofs.Lists.{each_of_map}
use Rattle.run.specs.History.{Turn}
use Rattle.by_type.specs.Columns.{column_entry, column_after, columns_after}

-- What is said of each thing for each of eight places.
pub each_place : {A : Type 0} (P : ℕ → ℕ → A → Type 0) (i : ℕ) (xs : List A) → ((t : ℕ) → t < 8 → Each (P t) i xs)
    → Each (λ j x. (t : ℕ) → t < 8 → P t j x) i xs
each_place P i [] p = tt
each_place P i (x ∷ xs) p = (λ t h. (p t h).0, each_place P (i + 1) xs (λ t h. (p t h).1))

module _ (c : ℕ) (turns : List Turn) (column : List ℕ) where
  pub entries_there : Each (λ j turn. get_or (column_after c turns column) j 0 ≡ column_entry c turn) 0 turns
  unfolding column_after
  entries_there = each_of_map (column_entry c) [] turns (drop (length turns) column) 0 refl

  pub past_there : drop (length turns) (column_after c turns column) ≡ drop (length turns) column
  unfolding column_after
  past_there = drop_at (map (column_entry c) turns) (drop (length turns) column) (length turns) (length-map turns (column_entry c))

  pub length_there : length turns ≤ length column → length (column_after c turns column) ≡ length column
  unfolding column_after
  length_there h =
      length-append (map (column_entry c) turns) (drop (length turns) column)
      ∙ omega (arith, length-map turns (column_entry c), length-drop (length turns) column, h)

-- The columns after a run, by their numbers.
pub column_there : (c : ℕ) (turns : List Turn) (columns : List (List ℕ)) (k : ℕ) → k < length columns
    → get_or (columns_after c turns columns) k [] ≡ column_after (c + k) turns (get_or columns k [])
column_there c turns [] k h = absurd (omega arith)
column_there c turns (column ∷ rest) zero h = rw (add-zero c)
column_there c turns (column ∷ rest) (suc k) h =
    let on : c + 1 + k ≡ c + suc k = omega arith in
    rw (← on) (column_there (c + 1) turns rest k (omega arith))
