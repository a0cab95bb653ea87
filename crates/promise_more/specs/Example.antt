-- Document 02, request k, 'the reduction may go either way': food in year 1 and nothing in year 2, in tropical wet climate (4), where rounding
-- shows.
use Rattle.std.specs.Prelude.{List, [], ◌∷◌, ◌++◌, map, ℕ, ◌*◌, ◌^◌, pos}
use Rattle.numbers.specs.Bytes.{bytes_of}
use Rattle.run.specs.History.{whole_run}
use Rattle.tunisia.specs.Reduction.{Reduction}
use Rattle.promise_tunisia.specs.Reported.{reported, alone}

-- A year's record: climate 4, factor 1, OX 10, F 50, DOCf 50, class 1, GWP 1, f 0, with so many kg of food, whose mass is in bytes 24 to 27.
unfoldable pub food_record : (year kg : ℕ) → List ℕ
food_record year kg =
    (year ∷ 0 ∷ 1 ∷ 4 ∷ 1 ∷ 10 ∷ 50 ∷ 50 ∷ 1 ∷ 1 ∷ 0 ∷ 0 ∷ 0 ∷ 0 ∷ 0 ∷ 0 ∷ []) ++ bytes_of 32 (kg * 256 ^ 8)

unfoldable pub food_file : (kg : ℕ) → List ℕ
food_file kg = food_record 1 kg ++ food_record 2 0

-- The figures of a file that is run from a fresh ledger with room.
abbrev pub figures_of : (file : List ℕ) → List ℕ
figures_of file = map (λ turn. turn.answer.figure) (whole_run file).accepted

-- What is answered for year 2 alone, without electricity and fuel.
abbrev pub second_year : (kg : ℕ) → Reduction
second_year kg = reported (alone (food_file kg) 2 (0 ∷ []) (0 ∷ []))

-- An answered year 2, with its two figures and the reduction, which is not below zero.
abbrev pub answered_with : (reference project reduction : ℕ) → Reduction
answered_with reference project reduction =
    record { refusal = 0; reference = reference; project = project; reduction = pos reduction; bound = 7; years = 2; refused = 0 }
