-- `weigh` is right: a NaN is not whole, and the bits of any other number are that number, which `weigh_bits` answers.
use mathlib.Core.Path.{◌≡◌, sym, ap, ◌∙◌}
use mathlib.Core.Bool.{true, true≢false}
use lib.Ieee.{Float, nan, inf, fin, binary64, is_nan}
use lib.Ieee.Bits.{of_bits-to_bits}
use borrow.Author.Rules.{rules}
use Rattle.door.specs.Cell.{whole_of, answer_to, answer_to_number}
use Rattle.door.specs.declared.cell.Cell.{Cell}
use Rattle.door.specs.declared.cell.Cell.TheVariants.{Number}
use Rattle.door.proofs.cell.weigh.Goals as goal

asked : {cell : Cell} {kg : Float} → cell ≡ Number kg → (x : Float) → x ≡ kg → answer_to_number (whole_of x) ≡ answer_to cell
asked is x e = ap (λ (y : Float). answer_to_number (whole_of y)) e ∙ sym (ap answer_to is)

only_nan : (x : Float) → is_nan x ≡ true → nan ≡ x
unfolding is_nan
only_nan nan t = cc
only_nan (inf s) t = absurd (true≢false (sym t))
only_nan (fin s m e) t = absurd (true≢false (sym t))

pub returns-then-is_nan : goal.returns-then-is_nan
returns-then-is_nan c = asked c.in-Number.is nan (only_nan c.in-Number.kg (sym c.is_nan.ensures.value ∙ c.if-is_nan.true))

pub returns : goal.returns
returns c = c.weigh_bits.ensures ∙ asked c.in-Number.is _ (of_bits-to_bits binary64 c.in-Number.kg (search rules))
