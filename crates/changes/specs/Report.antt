-- The line of a record that changed: `record`, its place in the file from 1 on and a colon, `places`, and the places of the types whose
-- masses changed, ascending. 32 is a space, 49 the digit 1, 10 ends the line.
use Rattle.std.specs.Prelude.{Bool, cond, List, [], ◌∷◌, ◌++◌, ℕ, ◌+◌, ◌/◌, ◌%◌, ◌^◌, eqb}
use Rattle.numbers.specs.Lists.{joined}
use Rattle.line.specs.Line.{letters, decimal_of}

-- Bit t of a byte of the report is set.
abbrev pub is_set : (bits t : ℕ) → Bool
is_set bits t = eqb (bits / 2 ^ t % 2) 1

-- Place t + 1 behind a space, where its bit is set.
abbrev pub place_text : (bits t : ℕ) → List ℕ
place_text bits t = cond (is_set bits t) (32 ∷ (49 + t) ∷ []) []

unfoldable pub places_text : (bits : ℕ) → List ℕ
places_text bits = joined (place_text bits) 8

unfoldable pub record_text : (place bits : ℕ) → List ℕ
record_text place bits = letters "record " ++ decimal_of place ++ letters ": places" ++ places_text bits ++ (10 ∷ [])
