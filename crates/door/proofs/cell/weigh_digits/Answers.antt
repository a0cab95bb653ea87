-- `weigh_digits` is right: shifted down and back, the digits are the same where none but 0 stood behind the point (Whole.antt).
use Prim.Native.Nat.{◌/◌, ◌^◌}
use native.Mathlib.Nat.{div-add-mod', div-mul-le_self}
use native.Mathlib.Omega.{arith}
use Rattle.door.proofs.Whole.{fraction_11, minus_12, above_12, mass_is}
use Rattle.door.proofs.cell.weigh_digits.Goals as goal

pub returns-then-kg-behind : goal.returns-then-kg-behind
returns-then-kg-behind c = λ x h. fraction_11 x _ _ _ h (omega (arith, div-add-mod' c.args.digits (2 ^ c.args.behind)))

pub returns-then-minus : goal.returns-then-minus
returns-then-minus c = λ x h. minus_12 x _ _ _ h (c.args.digits / 2 ^ c.args.behind) (omega (arith, div-mul-le_self c.args.digits (2 ^ c.args.behind))) c.if-minus.true (omega arith)

pub returns-then-kg : goal.returns-then-kg
returns-then-kg c = λ x h. above_12 x _ _ _ h (c.args.digits / 2 ^ c.args.behind) (omega (arith, div-mul-le_self c.args.digits (2 ^ c.args.behind))) (omega arith)

pub returns : goal.returns
returns c = λ x h. mass_is x _ _ _ h (c.args.digits / 2 ^ c.args.behind) (omega (arith, div-mul-le_self c.args.digits (2 ^ c.args.behind))) c.if-minus.false (omega arith)
