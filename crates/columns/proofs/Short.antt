-- Columns that are tested one after another, and the last of them apart.
use mathlib.Core.Path.{◌≡◌, sym, ◌∙◌}
use mathlib.Core.Bool.{◌||◌}
use mathlib.Core.List.{List, [], ◌∷◌, ◌++◌, map}
use Prim.Native.Nat.{ℕ}
use Rattle.std.proofs.Common.{Bor, length, nat_lt}
use Rattle.std.proofs.Math.Bool.{or-false, or_assoc}
use Rattle.std.specs.List.{list_any}
use Rattle.by_type.specs.Columns.{any_short}

pub short_among : (records : ℕ) (columns : List (Bor (List ℕ))) (last : List ℕ)
    → (list_any (λ (column : Bor (List ℕ)). nat_lt (length column.now) records) columns || nat_lt (length last) records)
    ≡ any_short records (map (λ (column : Bor (List ℕ)). column.now) columns ++ (last ∷ []))
short_among records [] last = sym (or-false (nat_lt (length last) records))
short_among records (column ∷ rest) last =
    or_assoc (nat_lt (length column.now) records) (list_any (λ (c : Bor (List ℕ)). nat_lt (length c.now) records) rest) (nat_lt (length last) records)
    ∙ rw (short_among records rest last)
