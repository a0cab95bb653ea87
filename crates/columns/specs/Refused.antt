-- What `fill` answers, in the numbers of document 02.
use Rattle.std.specs.Prelude.{List, Result, Ok, Err, ℕ}
use Rattle.numbers.specs.Eight.{eight}
use Rattle.refusal.specs.Numbers as numbers
use Rattle.by_type.specs.Columns.{Filled}
use Rattle.columns.specs.declared.refused.ColumnsRefusal.{ColumnsRefusal}
use Rattle.columns.specs.declared.refused.ColumnsRefusal.TheVariants.{Record, Short}

abbrev pub number_of : ColumnsRefusal → ℕ
number_of (Record why) = numbers.number_of why
number_of Short = 26

abbrev pub numbers_of : Result (List ℕ) ColumnsRefusal → Filled
numbers_of (Ok stocks) = record { refusal = 0; stocks = stocks }
numbers_of (Err why) = record { refusal = number_of why; stocks = eight (λ t. 0) }
