-- Document 01, 'Refusal numbers, tested in this order': tests, and faults by their numbers, for every crate that refuses.
use Rattle.std.specs.Prelude.{Bool, cond, ◌&&◌, List, [], ◌∷◌, ℕ, eqb, leb}

infix 68 ◌when◌
-- From a lowest to a highest number.
abbrev pub between : (low x high : ℕ) → Bool
between low x high = leb low x && leb x high

-- A fault: its number, and whether it is there.
abbrev pub Fault : Type 0
Fault = ℕ × Bool

abbrev pub ◌when◌ : ℕ → Bool → Fault
number when bad = (number, bad)

-- The refusal: the number of the first fault that is there, and 0 where none is.
abbrev pub first_of : List Fault → ℕ
first_of [] = 0
first_of ((number, bad) ∷ rest) = cond bad number (first_of rest)

-- The faults that are tested ahead of the one with a number.
abbrev pub ahead : ℕ → List Fault → List Fault
ahead k [] = []
ahead k ((number, bad) ∷ rest) = cond (eqb number k) [] (number when bad ∷ ahead k rest)

-- The faults with one more, put in before the one with a number; where none has that number, it comes last.
abbrev pub inserted : ℕ → Fault → List Fault → List Fault
inserted k fault [] = fault ∷ []
inserted k fault ((number, bad) ∷ rest) = cond (eqb number k) (fault ∷ number when bad ∷ rest) (number when bad ∷ inserted k fault rest)
