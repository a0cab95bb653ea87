-- Lists of any things, as demand 3 speaks of accepted records: a number of each added up, and what is said of each by its number;
-- and some lists, as records stand in a file, one after another.
use Rattle.std.specs.Prelude.{List, [], ◌∷◌, ◌++◌, ℕ, zero, suc, ◌+◌}

-- A number of each thing in a list, added.
abbrev pub added : {A : Type 0} → (A → ℕ) → List A → ℕ
added f [] = 0
added f (x ∷ xs) = f x + added f xs

-- What is said of each thing in a list and its number, the first one's being i.
abbrev pub Each : {A : Type 0} → (ℕ → A → Type 0) → (i : ℕ) → List A → Type 0
Each P i [] = Unit
Each P i (x ∷ xs) = P i x × Each P (i + 1) xs

-- The lists f 0, f 1, .., f (k − 1), one after another.
abbrev pub joined : {A : Type 0} → (ℕ → List A) → ℕ → List A
joined f zero = []
joined f (suc k) = joined f k ++ f k
