-- Document 01, 'Waste types and their constants': a number for each of the eight types. Place t, from 0 on, has type t + 1.
use Rattle.std.specs.Prelude.{Bool, true, cond, ◌&&◌, List, [], ◌∷◌, ℕ, zero, suc, ◌+◌}

-- f 0 to f 7, one for each type.
abbrev pub eight : {A : Type 0} → (ℕ → A) → List A
eight f = f 0 ∷ f 1 ∷ f 2 ∷ f 3 ∷ f 4 ∷ f 5 ∷ f 6 ∷ f 7 ∷ []

-- 1 where a test holds, else 0.
abbrev pub one : Bool → ℕ
one test = cond test 1 0

-- f 0 + f 1 + .. + f (k − 1)
abbrev pub sum_of : (ℕ → ℕ) → ℕ → ℕ
sum_of f zero = 0
sum_of f (suc k) = sum_of f k + f k

-- The test holds of 0, 1, .., k − 1.
abbrev pub every_of : (ℕ → Bool) → ℕ → Bool
every_of test zero = true
every_of test (suc k) = every_of test k && test k

-- All of some tests hold.
abbrev pub all_of : List Bool → Bool
all_of [] = true
all_of (test ∷ rest) = test && all_of rest
