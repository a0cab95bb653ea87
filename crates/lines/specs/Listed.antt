-- What a listing answers, by document 01's numbers.
use Rattle.std.specs.Prelude.{ℕ}

-- How many bytes the listing has, and the refusal: 2 where the text has too little room, else 0.
pub record Listed : Type 0 where
  pub length : ℕ
  pub refusal : ℕ
