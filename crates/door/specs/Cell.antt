-- Document 01, "The spreadsheet door", its first paragraph: what a cell is answered.
use Rattle.std.specs.Prelude.{ℕ, ◌*◌, ◌/◌, ◌%◌, Bool, true, false, cond, leb, eqb, ℤ, pos, negsuc, neg_ℤ, Float, Result, Ok, Err}
use Rattle.std.specs.Float.{nan, inf, fin}
use Rattle.std.specs.Float.Ieee.{up, down}
use Rattle.waste.specs.Waste.{mass_limit}
use Rattle.door.specs.declared.cell.Cell.{Cell}
use Rattle.door.specs.declared.cell.Cell.TheVariants.{Empty, Number}
use Rattle.door.specs.declared.cell.CellRefusal.{CellRefusal}
use Rattle.door.specs.declared.cell.CellRefusal.TheVariants.{EmptyCell, NotWhole, OutOfRange}

-- An answer in numbers: the refusal's, 0 if none, and the mass in kilograms, 0 if refused.
pub record Numbers : Type 0 where
  pub refusal : ℕ
  pub mass : ℕ

-- A refused cell gives mass 0.
abbrev pub refused_cell : ℕ → Numbers
refused_cell number = record { refusal = number; mass = 0 }

-- An accepted cell has no refusal.
abbrev pub accepted_cell : ℕ → Numbers
accepted_cell mass = record { refusal = 0; mass = mass }

-- The number of each refusal, and the numbers of each case of the answer.
abbrev pub refusal_number : CellRefusal → ℕ
refusal_number EmptyCell = 10
refusal_number NotWhole = 11
refusal_number OutOfRange = 12

abbrev pub numbers_of : Result ℕ CellRefusal → Numbers
numbers_of (Ok mass) = accepted_cell mass
numbers_of (Err why) = refused_cell (refusal_number why)

-- The whole number that a float is, if it is one.
pub data Whole : Type 0 where
  whole : ℤ → Whole
  not_whole : Whole

-- The whole number of a sign bit and a size: minus zero is 0.
abbrev pub signed : Bool → ℕ → ℤ
signed false size = pos size
signed true size = neg_ℤ (pos size)

-- A finite float is m × 2^e with its sign, where 2^e is up e / down e: it is whole where this division leaves nothing over.
abbrev pub whole_of : Float → Whole
whole_of nan = not_whole
whole_of (inf sign) = not_whole
whole_of (fin sign m e) = cond (eqb (m * up e % down e) 0) (whole (signed sign (m * up e / down e))) not_whole

-- A number that is not whole, is infinite or is not a number is refused with 11. A whole number below 0 (negsuc n is −1 − n) or
-- above 10^9 is refused with 12. Otherwise the answer is that mass.
abbrev pub answer_to_number : Whole → Numbers
answer_to_number not_whole = refused_cell 11
answer_to_number (whole (negsuc n)) = refused_cell 12
answer_to_number (whole (pos n)) = cond (leb n mass_limit) (accepted_cell n) (refused_cell 12)

-- An empty cell is refused with 10.
abbrev pub answer_to : Cell → Numbers
answer_to Empty = refused_cell 10
answer_to (Number kg) = answer_to_number (whole_of kg)
