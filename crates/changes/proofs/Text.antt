-- Places as the report's lines have them.
use mathlib.Core.Path.{◌≡◌}
use mathlib.Core.Bool.{true, false}
use mathlib.Core.List.{List, [], ◌∷◌, append-nil}
use Prim.Native.Nat.{ℕ, ◌+◌, ◌/◌, ◌%◌, ◌^◌}
use borrow.Author.Tests.{eq-eqb, ne_eqb}
use native.Mathlib.Numerals.{add-one}
use Rattle.numbers.specs.Lists.{joined}
use Rattle.line.specs.Writing.{Writes}
use Rattle.line.proofs.Writing.{write_on}
use Rattle.changes.specs.Report.{is_set, place_text}

-- The next place is written where its bit is set, and passed where it is not.
module _ (bits t : ℕ) {line now : List ℕ} {at end : ℕ} (so_far : Writes line at (joined (place_text bits) t) now end) where
  pub place_written : {r : List ℕ} {end' : ℕ} → is_set bits t ≡ true → Writes now end (32 ∷ (49 + t) ∷ []) r end'
      → Writes line at (joined (place_text bits) (t + 1)) r end'
  place_written e next = rw (add-one, e) (write_on so_far next)

  pub place_passed : is_set bits t ≡ false → Writes line at (joined (place_text bits) (t + 1)) now end
  place_passed e = rw (add-one, e, append-nil) so_far

-- The same, by the number that the bit leaves.
module _ {line now : List ℕ} {at end : ℕ} (bits t : ℕ) (so_far : Writes line at (joined (place_text bits) t) now end) where
  pub set_place : {r : List ℕ} {end' : ℕ} → bits / 2 ^ t % 2 ≡ 1 → Writes now end (32 ∷ (49 + t) ∷ []) r end'
      → Writes line at (joined (place_text bits) (t + 1)) r end'
  set_place e next = place_written bits t so_far (eq-eqb _ 1 e) next

  pub clear_place : (bits / 2 ^ t % 2 ≡ 1 → ⊥) → Writes line at (joined (place_text bits) (t + 1)) now end
  clear_place e = place_passed bits t so_far (ne_eqb _ 1 e)
