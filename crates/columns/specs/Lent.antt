-- The nine columns that a call is lent: those of the eight types in one value, and that of the figures.
use Rattle.std.specs.Prelude.{List, ℕ}
use Rattle.by_type.specs.Columns.{nine}
use Rattle.releases.specs.declared.TypeColumns.{TypeColumns}

abbrev pub lent : TypeColumns → (figures : List ℕ) → List (List ℕ)
lent c figures =
    nine c.wood.now c.paper.now c.food.now c.textiles.now c.garden.now c.inert.now c.domestic.now c.industrial.now figures
