-- What holds of every cell.
use mathlib.Core.Path.{◌≡◌, refl, sym, ap, ◌∙◌}
use mathlib.Core.Bool.{Bool, true, false, cond}
use Prim.Native.Nat.{ℕ, suc, ◌^◌, ◌≤◌}
use native.Mathlib.Nat.{mul-one, le_trans}
use native.Mathlib.Omega.{arith}
use lib.Dec.{leb, eqb, lit≤, lit<}
use lib.IntN.{pos, negsuc}
use lib.Ieee.{Float, binary64, round, of_int}
use lib.Ieee.Back.{round_whole}
use borrow.Author.Tests.{le-leb, leb-true}
use Rattle.std.proofs.Common.{Result, Ok, Err}
use Rattle.waste.specs.Waste.{mass_limit}
use Rattle.door.specs.Cell.{Whole, whole, not_whole, whole_of, Numbers, refused_cell, accepted_cell, numbers_of, answer_to_number, answer_to}
use Rattle.door.specs.declared.cell.Cell.{Cell}
use Rattle.door.specs.declared.cell.Cell.TheVariants.{Empty, Number}
use Rattle.door.specs.declared.cell.CellRefusal.{CellRefusal}
use Rattle.door.specs.declared.cell.CellRefusal.TheVariants.{EmptyCell, NotWhole, OutOfRange}
use Rattle.door.proofs.Whole.{is_whole}

-- the case of the answer that has these numbers
case_of : Numbers → Result ℕ CellRefusal
case_of n = cond (eqb n.refusal 10) (Err EmptyCell) (cond (eqb n.refusal 11) (Err NotWhole) (cond (eqb n.refusal 12) (Err OutOfRange) (Ok n.mass)))

same_case : (answer : Result ℕ CellRefusal) → case_of (numbers_of answer) ≡ answer
unfolding case_of
same_case (Ok mass) = refl
same_case (Err EmptyCell) = refl
same_case (Err NotWhole) = refl
same_case (Err OutOfRange) = refl

-- Each cell has one answer.
pub one_mass : (cell : Cell) (a b : Result ℕ CellRefusal) → numbers_of a ≡ answer_to cell → numbers_of b ≡ answer_to cell → a ≡ b
one_mass cell a b p q = sym (same_case a) ∙ ap case_of (p ∙ sym q) ∙ same_case b

-- The float of a whole number up to 2^53 is exactly that number.
pub float_whole : (n : ℕ) → n ≤ 2 ^ 53 → whole_of (of_int binary64 (pos n)) ≡ whole (pos n)
unfolding of_int
float_whole n h = is_whole (round binary64 false n 1) false n 1 (lit< tt) (rw mul-one (round_whole binary64 false n h))

-- A mass made a float and read back through a cell is that mass.
pub mass_read_back : (mass : ℕ) → mass ≤ mass_limit → numbers_of (Ok mass) ≡ answer_to (Number (of_int binary64 (pos mass)))
mass_read_back mass h = rw (float_whole mass (le_trans h (lit≤ tt)), le-leb mass mass_limit h)

never : {A : Type 0} (mass n : ℕ) → accepted_cell mass ≡ refused_cell (suc n) → A
never mass n p = let z : 0 ≡ suc n = ap (λ (r : Numbers). r.refusal) p in absurd (omega arith)

-- an accepted number is whole, the mass itself, and within the limit
accepted_number : (w : Whole) (mass : ℕ) → accepted_cell mass ≡ answer_to_number w → (w ≡ whole (pos mass)) × (mass ≤ mass_limit)
accepted_number w mass p = at w p
  where
    within : (b : Bool) (n : ℕ) → (b ≡ true → n ≤ mass_limit) → accepted_cell mass ≡ cond b (accepted_cell n) (refused_cell 12) → (whole (pos n) ≡ whole (pos mass)) × (mass ≤ mass_limit)
    within false n h p = never mass 11 p
    within true n h p = let e : mass ≡ n = ap (λ (r : Numbers). r.mass) p in (rw e, rw e (h refl))

    at : (w : Whole) → accepted_cell mass ≡ answer_to_number w → (w ≡ whole (pos mass)) × (mass ≤ mass_limit)
    at not_whole p = never mass 10 p
    at (whole (negsuc n)) p = never mass 11 p
    at (whole (pos n)) p = within (leb n mass_limit) n (leb-true n mass_limit) p

-- A cell that is read as a mass, and the mass made a float, are the same number.
pub cell_read_back : (kg : Float) (mass : ℕ) → numbers_of (Ok mass) ≡ answer_to (Number kg) → whole_of (of_int binary64 (pos mass)) ≡ whole_of kg
cell_read_back kg mass p = let h = accepted_number (whole_of kg) mass p in float_whole mass (le_trans h.1 (lit≤ tt)) ∙ sym h.0

-- No cell gives a mass above 10^9.
pub mass_within_limit : (cell : Cell) (mass : ℕ) → numbers_of (Ok mass) ≡ answer_to cell → mass ≤ mass_limit
mass_within_limit Empty mass p = never mass 9 p
mass_within_limit (Number kg) mass p = (accepted_number (whole_of kg) mass p).1

-- A refused cell gives mass 0.
pub none_weighed : (cell : Cell) → ((answer_to cell).refusal ≡ 0 → ⊥) → (answer_to cell).mass ≡ 0
none_weighed Empty bad = refl
none_weighed (Number kg) bad = at (whole_of kg) bad
  where
    within : (b : Bool) (n : ℕ) → ((cond b (accepted_cell n) (refused_cell 12)).refusal ≡ 0 → ⊥) → (cond b (accepted_cell n) (refused_cell 12)).mass ≡ 0
    within false n bad = refl
    within true n bad = absurd (bad refl)

    at : (w : Whole) → ((answer_to_number w).refusal ≡ 0 → ⊥) → (answer_to_number w).mass ≡ 0
    at not_whole bad = refl
    at (whole (negsuc n)) bad = refl
    at (whole (pos n)) bad = within (leb n mass_limit) n bad
