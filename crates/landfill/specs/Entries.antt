-- What the entries that C calls are handed, where the crates below do not say it.
use Rattle.std.specs.Prelude.{cond, ℕ, eqb, Float}
use Rattle.door.specs.declared.cell.Cell.{Cell}
use Rattle.door.specs.declared.cell.Cell.TheVariants.{Empty, Number}

-- A cell that is not filled is empty.
abbrev pub cell_of : (filled : ℕ) (kg : Float) → Cell
cell_of filled kg = cond (eqb filled 0) Empty (Number kg)
