-- The entry of the type stands at its place.
use mathlib.Core.Path.{◌≡◌}
use mathlib.Core.List.{List}
use Prim.Native.Nat.{ℕ, ◌<◌}
use lib.ListN.{get_or}
use Rattle.numbers.specs.Eight.{eight}
use Rattle.numbers.proofs.Eight.{eight_at}
use Rattle.record.specs.Fields.{kind_of, climate_of}
use Rattle.carbon.specs.Carbon.{entry_at}
use Rattle.releases.proofs.column.fill_type.Goals as goal

entry_there : (entries file : List ℕ) (t : ℕ) → entries ≡ eight (entry_at (kind_of file) (climate_of file)) → t < 8
    → get_or entries t 0 ≡ entry_at (kind_of file) (climate_of file) t
entry_there entries file t e place = rw e (eight_at (entry_at (kind_of file) (climate_of file)) t place)

pub fill_column_at-stock-requires-clause-entry_value : goal.fill_column_at-stock-requires-clause-entry_value
fill_column_at-stock-requires-clause-entry_value c = entry_there c.args.entries c.args.file.now c.args.t c.requires.entries_value c.requires.t_bound.0
