-- Document 01, 'Worked figures': P1 to P10, one table.
use Rattle.std.specs.Prelude.{Bool, ◌&&◌, List, [], ◌∷◌, ◌++◌, ℕ, ◌-◌, ◌*◌, ◌^◌, eqb, get_or}
use Rattle.numbers.specs.Bytes.{bytes_of}
use Rattle.waste.specs.Kind.{yearly, monthly}
use Rattle.decay.specs.Series.{entry_of}
use Rattle.record.specs.Fields.{record_bytes}
use Rattle.ledger.specs.Step.{fresh, stock_at}
use Rattle.ledger.specs.Take.{take_of}
use Rattle.ledger.specs.Answer.{Answer}

-- A row: an entry D of the decay table, or the first step with 1 kg of a type, with its release G and its stock R.
pub data Row : Type 0 where
  entry : (kind rate D : ℕ) → Row
  first_step : (kind climate waste G R : ℕ) → Row

-- P1 to P5, and P6 to P10: food, wood, paper, food by month, inert.
abbrev pub rows : List Row
rows =
    entry yearly 400 670320046
    ∷ entry yearly 20 980198673
    ∷ entry yearly 60 941764533
    ∷ entry monthly 400 967216100
    ∷ entry monthly 1 999916670
    ∷ first_step yearly 4 3 49452 100548
    ∷ first_step yearly 1 1 8515 421485
    ∷ first_step yearly 2 2 23295 376705
    ∷ first_step monthly 4 3 4918 145082
    ∷ first_step yearly 1 6 0 0
    ∷ []

-- The 48 bytes of a first record: period 1, factor 75, OX 10, F 50, DOCf 50, class 1, GWP 28, f 0 and four zeros; then the eight
-- masses, 1 kg at the place of the type and 0 at any other.
unfoldable pub first_record : (kind climate waste : ℕ) → List ℕ
first_record kind climate waste =
    (1 ∷ 0 ∷ kind ∷ climate ∷ 75 ∷ 10 ∷ 50 ∷ 50 ∷ 1 ∷ 28 ∷ 0 ∷ 0 ∷ 0 ∷ 0 ∷ 0 ∷ 0 ∷ [])
    ++ bytes_of 32 (256 ^ (4 * (waste - 1)))

-- The answer to it on a fresh ledger.
unfoldable pub first_answer : (kind climate waste : ℕ) → Answer
first_answer kind climate waste = take_of fresh (first_record kind climate waste) record_bytes

-- The table has the entry, or the record is accepted with that release and leaves that stock.
unfoldable pub holds : Row → Bool
holds (entry kind rate D) = eqb (entry_of kind rate) D
holds (first_step kind climate waste G R) =
    eqb (first_answer kind climate waste).refusal 0
    && eqb (get_or (first_answer kind climate waste).releases (waste - 1) 0) G
    && eqb (stock_at (first_answer kind climate waste).ledger (waste - 1)) R
