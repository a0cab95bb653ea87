-- What the functions that write lines do; no public contract says it.
use Rattle.std.specs.Prelude.{◌≡◌, List, ℕ, ◌+◌, length}
use Rattle.std.proofs.lemmas.List.Edits.{sets}

-- A text is written from a place on, the bytes around it keep their values, there are as many as before, and end is the place
-- after it.
pub record Writes (entry : List ℕ) (at : ℕ) (text exit : List ℕ) (end : ℕ) : Type 0 where
  pub stands : exit ≡ sets entry at text
  pub as_many : length exit ≡ length entry
  pub ends : end ≡ at + length text
