-- The order as a word: 'eight bytes that say for each place which type stood there', of document 02's request g, as eight digits.
use Rattle.std.specs.Prelude.{cond, List, map, ℕ, ◌-◌}
use Rattle.numbers.specs.Fault.{between}

-- The digits 1 to 8 name their types, and 48 is the digit 0; any other byte names no type, 0.
unfoldable pub type_named : (digit : ℕ) → ℕ
type_named digit = cond (between 49 digit 56) (digit - 48) 0

unfoldable pub types_named : (word : List ℕ) → List ℕ
types_named word = map type_named word
